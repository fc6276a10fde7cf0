-- A line, computed from its definitions. Assumes nothing.
use mathlib.Core.Path.{◌≡◌, refl}
use mathlib.Core.List.{[], ◌∷◌}
use Prim.Native.Nat.{ℕ, ◌+◌}
use Rattle.text.specs.Text.{ascii}
use Rattle.words.specs.Words.{first_word, past_bar, word_of, index_of}
use Rattle.numerals.specs.Spelled.{glyph_of, digits_of, places_from, decimal_of}
use Rattle.byte_names.specs.ByteNames.{byte_name}
use Rattle.comparison_bytes.specs.Changes.{change_text, changes_text}

-- Bytes that grow by 7 give the line of each.
line : changes_text (59 ∷ []) (λ (n : ℕ). n) (λ (n : ℕ). n + 7) ≡ ascii "                            decay curve 59 -> 66\n"
unfolding changes_text change_text byte_name word_of first_word past_bar index_of decimal_of digits_of places_from glyph_of
line = refl
