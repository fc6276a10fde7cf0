-- THE CELLS OF AN ENVELOPE'S CAPTIONS, of 501 samples: docs/SPECIFICATION.md, "The page". Across the frame, from its left edge, in hundredths of a millimetre. Definitions only.
use Rattle.std.specs.Prelude.{cond, List, ℕ, zero, suc, ◌+◌, ◌*◌, min, max, ltb, get_or}

-- 1 for a caption of a segment before k, and 0 for another.
abbrev pub before_of : ℕ → ℕ → ℕ
before_of caption k = cond (ltb caption k) 1 0

-- How many of the first n samples are of a segment before k.
unfoldable pub samples_before : ℕ → List ℕ → ℕ → ℕ
samples_before k captions zero = 0
samples_before k captions (suc n) = samples_before k captions n + before_of (get_or captions n 0) k

-- Where the samples from segment k on start: a sample is 0.1 mm to the right of the one before it. Past the last it is the frame's right edge.
unfoldable pub start_of : List ℕ → ℕ → ℕ
start_of captions k = min (10 * samples_before k captions 501) 5000

-- The right edge of segment k's cell, by its left one: where the next segment's samples start, but a cell is at least 2.2 mm wide, so that a letter fits in it. A segment that has no samples has no cell.
unfoldable pub cell_end : List ℕ → ℕ → ℕ → ℕ
cell_end captions k left = cond (ltb (samples_before k captions 501) (samples_before (k + 1) captions 501)) (max (left + 220) (start_of captions (k + 1))) left

-- The left edge of segment k's cell: cells stand side by side, from the frame's left edge on.
unfoldable pub left_of : List ℕ → ℕ → ℕ
left_of captions zero = 0
left_of captions (suc k) = cell_end captions k (left_of captions k)
