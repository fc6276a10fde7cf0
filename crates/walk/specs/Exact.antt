-- THE EXACT WALK: docs/SPECIFICATION.md, "Exact heights". The positions of the walk, the phase and the slew are the numbers that their floats hold; all else is a fraction. Definitions only.
use Rattle.std.specs.Prelude.{ℕ, zero, suc, Float}
use Rattle.exact.specs.Fraction.{Fraction, ratio, negℚ, minℚ, maxℚ, ◌+ℚ◌, ◌-ℚ◌, ◌*ℚ◌, ◌/ℚ◌}
use Rattle.exact.specs.Value.{value}
use Rattle.math.specs.Formulas.{min_of}
use Rattle.settings.specs.declared.LfoShape.{LfoShape}
use Rattle.lfo_shapes.specs.Exact.{shapeℚ}
use Rattle.walk.specs.Formula.{place_of}

-- How far the level may move in a cycle.
unfoldable pub limitℚ : Fraction → Fraction
limitℚ slew = ratio 2 1 /ℚ slew

-- A clamp to -most..most.
unfoldable pub heldℚ : Fraction → Fraction → Fraction
heldℚ most d = maxℚ (negℚ most) (minℚ most d)

-- A step from one position to the next: the level goes toward the shape's, by at most the limit times the distance gone.
unfoldable pub movedℚ : LfoShape → Fraction → Fraction → Fraction → Fraction → Fraction
movedℚ s limit from to level = level +ℚ heldℚ (limit *ℚ (to -ℚ from)) (shapeℚ s to -ℚ level)

-- The level after k full steps, from the shape's own at -1.
unfoldable pub level_afterℚ : LfoShape → Fraction → ℕ → Fraction
level_afterℚ s limit zero = shapeℚ s (value (place_of 0))
level_afterℚ s limit (suc k) = movedℚ s limit (value (place_of k)) (value (place_of (suc k))) (level_afterℚ s limit k)

-- The level at a phase: k full steps, and one that is cut at the phase.
unfoldable pub cut_afterℚ : LfoShape → Fraction → Float → ℕ → Fraction
cut_afterℚ s limit phase k = movedℚ s limit (value (place_of k)) (value (min_of (place_of (suc k)) phase)) (level_afterℚ s limit k)
