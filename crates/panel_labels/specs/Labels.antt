-- THE WORDS BELOW A PANEL'S TITLE: docs/SPECIFICATION.md, "The page". Definitions only.
use Rattle.std.specs.Prelude.{Bool, true, false, cond, List, [], ◌++◌, ℕ, eqb, Float}
use Rattle.exact.specs.Binary32.{◌⊘◌, bits}
use Rattle.text.specs.Text.{ascii}
use Rattle.numerals.specs.Spelled.{decimal_of}
use Rattle.fixed_point.specs.Nearest.{nearest_of}
use Rattle.generator.specs.declared.Scale.{Scale}
use Rattle.generator.specs.declared.Scale.TheVariants.{Normalised, Turns, Octaves}

-- ---- what the horizontal covers
-- The whole number nearest to x, for an x from 0 to 8: 8 times an eighth of it.
unfoldable pub nearest_whole : Float → ℕ
nearest_whole x = nearest_of (x ⊘ bits 0x4100_0000) 8

-- A number of turns; one is not plural.
unfoldable pub turns_text : ℕ → List ℕ
turns_text n = cond (eqb n 1) (ascii "1 turn, ") (decimal_of n ++ ascii " turns, ")

-- Turns, octaves, or nothing that is published.
unfoldable pub scale_text : Scale → List ℕ
scale_text Normalised = []
scale_text (Turns x) = turns_text (nearest_whole x)
scale_text (Octaves x) = decimal_of (nearest_whole x) ++ ascii " octaves, "

-- Whether the left edge is a moment, or for a filter a frequency; a curve that runs free is caught anywhere.
unfoldable pub edge_text : Bool → List ℕ
edge_text true = ascii "starts at the left edge</text>"
edge_text false = ascii "may start anywhere</text>"

-- The line between the title and the frame.
unfoldable pub subtitle_text : Scale → Bool → List ℕ
subtitle_text scale anchored = ascii "<text y='-2600'>" ++ scale_text scale ++ edge_text anchored
