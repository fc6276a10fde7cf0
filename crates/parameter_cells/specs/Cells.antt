-- WHAT STANDS IN A ROW: docs/SPECIFICATION.md, "The page of all parameters". In hundredths of a millimetre. Definitions only.
use Rattle.std.specs.Prelude.{cond, List, [], ◌∷◌, ◌++◌, ℕ, ltb}
use Rattle.text.specs.Text.{ascii}
use Rattle.numerals.specs.Spelled.{decimal_of}
use Rattle.words.specs.Words.{index_of}
use Rattle.parameter_names.specs.ParameterNames.{parameter_name}
use Rattle.drawn_bytes.specs.Drawn.{drawn}

-- ---- the row of byte n, which is b
-- The parameters that begin a group, as LFO 2's, the oscillators', the filter's; a rule stands above each.
abbrev pub groups : List ℕ
groups = 7 ∷ 14 ∷ 39 ∷ 53 ∷ 62 ∷ 71 ∷ 80 ∷ 93 ∷ 117 ∷ 123 ∷ 155 ∷ 165 ∷ 179 ∷ 192 ∷ 205 ∷ 218 ∷ 223 ∷ 240 ∷ []

unfoldable pub rule_text : ℕ → List ℕ
rule_text n = cond (ltb (index_of groups n) 18) (ascii "<path d='M0-220h6100'/>") []

-- A dot beside what a curve or the gates are drawn from.
unfoldable pub dot_text : ℕ → List ℕ
dot_text n = cond (drawn n) (ascii "<circle cx='80' cy='-85' r='55'/>") []

-- Number, name and byte.
unfoldable pub cells_text : ℕ → ℕ → List ℕ
cells_text n b =
    ascii "<text class='k' x='640'>" ++ decimal_of n ++ ascii "</text><text x='800'>" ++ parameter_name n ++ ascii "</text><text class='b' x='6020'>" ++ decimal_of b ++ ascii "</text></g>\n"
