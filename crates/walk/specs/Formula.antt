-- THE SLEW WALK IN BINARY32: docs/SPECIFICATION.md, "The curves". Each operation is rounded once, in the order written. Definitions only.
use Rattle.std.specs.Prelude.{cond, ℕ, zero, suc, pos, Float}
use Rattle.std.specs.Float.{binary32}
use Rattle.std.specs.Float.Ieee.{of_int, neg, le}
use Rattle.exact.specs.Binary32.{◌⊕◌, ◌⊖◌, ◌⊗◌, ◌⊘◌, bits, one₃₂}
use Rattle.math.specs.Formulas.{min_of, clamp_of}
use Rattle.curve.specs.declared.Height.{Height}
use Rattle.curve.specs.Curve.{clamp_unit_of}
use Rattle.settings.specs.declared.LfoShape.{LfoShape}
use Rattle.settings.specs.declared.Lfo.{Lfo}
use Rattle.lfo_shapes.specs.Formula.{shape_at_of}

-- The walk's step, 1 / 96 of a cycle.
unfoldable pub step_of : Float
step_of = one₃₂ ⊘ bits 0x42c0_0000

-- Where count k is placed: k steps from -1, by its count and never added up. The step is rounded, and so are the product and the sum: it is not -1 + k / 96 rounded once (first at k = 14).
unfoldable pub place_of : ℕ → Float
place_of k = neg one₃₂ ⊕ of_int binary32 (pos k) ⊗ step_of

-- How far the level may move in a cycle.
unfoldable pub limit_of : Float → Float
limit_of slew = bits 0x4000_0000 ⊘ slew

-- A step from one position to the next: the level goes toward the shape's, by at most the limit times the distance gone.
unfoldable pub moved_of : LfoShape → Float → Float → Float → Float → Float
moved_of s limit from to level = level ⊕ clamp_of (neg (limit ⊗ (to ⊖ from))) (limit ⊗ (to ⊖ from)) (shape_at_of s to ⊖ level)

-- The level after k full steps. It starts at -1 with the shape's own; no phase is in it.
unfoldable pub level_after : LfoShape → Float → ℕ → Float
level_after s limit zero = shape_at_of s (neg one₃₂)
level_after s limit (suc k) = moved_of s limit (place_of k) (place_of (suc k)) (level_after s limit k)

-- The level at a phase that count k + 1 reaches: k full steps, and one that is cut at the phase.
unfoldable pub cut_after : LfoShape → Float → Float → ℕ → Float
cut_after s limit phase k = moved_of s limit (place_of k) (min_of (place_of (suc k)) phase) (level_after s limit k)

-- Of the counts from k + 1 on, n + 1 of them, the one before the first whose place reaches the phase, or before the last of them if there is none. No place reaches a NaN.
unfoldable pub full_from : Float → ℕ → ℕ → ℕ
full_from phase zero k = k
full_from phase (suc n) k = cond (le phase (place_of (suc k))) k (full_from phase n (suc k))

-- The full steps of a walk: counts go from 1 to 65,535.
unfoldable pub full_steps : Float → ℕ
full_steps phase = full_from phase 65534 0

-- The height and the steps of a slewed LFO at a phase.
unfoldable pub walked_of : Lfo → Float → Height
walked_of l phase = record { height = clamp_unit_of (cut_after l.shape (limit_of l.slew) phase (full_steps phase)); steps = suc (full_steps phase) }
