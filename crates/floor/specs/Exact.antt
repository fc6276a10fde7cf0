-- THE EXACT FRACTIONAL PART: docs/SPECIFICATION.md, "Exact series". Nothing here is rounded. Definitions only.
use Rattle.exact.specs.Fraction.{Fraction, whole, floorℚ, ◌-ℚ◌}

-- what is left of a number above its floor: it has no value where the number, which stands in it, has none
abbrev pub fractℚ : Fraction → Fraction
fractℚ a = a -ℚ whole (floorℚ a)
