-- There are 242 names, none of them empty, and none needs an escape in XML; some, computed from their definition. Assumes nothing.
use mathlib.Core.Path.{◌≡◌, refl}
use mathlib.Core.Bool.{Bool, true, false, cond}
use mathlib.Core.List.{List, [], ◌∷◌}
use Prim.Native.Nat.{ℕ, suc}
use lib.Dec.{eqb}
use Rattle.text.specs.Text.{ascii}
use Rattle.escapes.specs.Escaped.{all_plain}
use Rattle.words.specs.Words.{bar, first_word, past_bar, word_of}
use Rattle.parameter_names.specs.ParameterNames.{parameter_names, parameter_name}

-- How many words there are, if none is empty; `begun` where the one before has a character.
abbrev words : Bool → List ℕ → ℕ
words begun [] = cond begun 1 0
words begun (b ∷ s) = cond (eqb b bar) (cond begun (suc (words false s)) 0) (words true s)

all_named : words false parameter_names ≡ 242
all_named = refl

all_plain_lem : all_plain parameter_names ≡ true
all_plain_lem = refl

first : parameter_name 0 ≡ ascii "LFO 1 Rate"
unfolding word_of first_word past_bar
first = refl

gate : parameter_name 160 ≡ ascii "Arp Gate Time"
unfolding word_of first_word past_bar
gate = refl

last : parameter_name 241 ≡ ascii "Program Transpose"
unfolding word_of first_word past_bar
last = refl
