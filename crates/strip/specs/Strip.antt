-- A STRIP OF HEIGHTS, AND WHAT FILLING ONE ANSWERS: docs/SPECIFICATION.md, "Strips". Definitions only.
use Rattle.std.specs.Prelude.{Bool, cond, ◌&&◌, List, ℕ, zero, suc, ◌+◌, ◌-◌, leb, pos, length, Float}
use Rattle.std.specs.Float.{binary32}
use Rattle.std.specs.Float.Ieee.{of_int}
use Rattle.lists.specs.Written.{written}
use Rattle.exact.specs.Binary32.{◌⊘◌}
use Rattle.curve.specs.declared.Height.{Height}
use Rattle.generator.specs.declared.Shape.{Shape}
use Rattle.shape_heights.specs.Heights.{height_of}

-- Number i of those from 0 to `last`, spread from 0 to 1.
abbrev pub part_of : ℕ → ℕ → Float
part_of i last = of_int binary32 (pos i) ⊘ of_int binary32 (pos last)

-- The position of sample i of n: i / (n - 1).
unfoldable pub sample_position : ℕ → ℕ → Float
sample_position n i = part_of i (n - 1)

-- Sample i of n: the height at its own position.
unfoldable pub sample_of : Shape → ℕ → ℕ → Height
sample_of s n i = height_of s (sample_position n i)

-- The lengths of a strip: 2 to 4,096.
abbrev pub length_fits : ℕ → Bool
length_fits n = leb 2 n && leb n 4096

-- A strip with the first k of n samples written.
abbrev pub filled_of : Shape → ℕ → ℕ → List Float → List Float
filled_of s n k xs = written (λ (i : ℕ). (sample_of s n i).height) k xs

-- The steps of the first k of n samples.
unfoldable pub step_sum : Shape → ℕ → ℕ → ℕ
step_sum s n zero = 0
step_sum s n (suc k) = step_sum s n k + (sample_of s n k).steps

-- What is answered for a strip of n samples: the steps of all, none where that length is refused.
unfoldable pub steps_of : Shape → ℕ → ℕ
steps_of s n = cond (length_fits n) (step_sum s n n) 0

-- What the strip holds afterwards: every sample, or what it held where its length is refused.
unfoldable pub strip_of : Shape → List Float → List Float
strip_of s xs = cond (length_fits (length xs)) (filled_of s (length xs) (length xs) xs) xs
