-- A NUMBER FROM 0 TO 1 IN NINE PLACES: docs/SPECIFICATION.md, "Written text". Definitions only.
use Rattle.std.specs.Prelude.{List, ℕ, Float}
use Rattle.numerals.specs.Spelled.{fixed_of}
use Rattle.fixed_point.specs.Nearest.{nearest_of}

-- Rounded once; what lies beyond 0 or 1 is clamped.
unfoldable pub nine_places : Float → List ℕ
nine_places x = fixed_of (nearest_of x 1000000000) 9
