-- Bytes as text, computed from their definitions, and that no byte escaped is left with a meaning in XML. Assumes nothing.
use mathlib.Core.Path.{◌≡◌, refl}
use mathlib.Core.List.{[], ◌∷◌}
use Prim.Native.Nat.{ℕ, ◌<◌}
use lib.Dec.{T}
use Rattle.lists.proofs.Every.{every, each}
use Rattle.text.specs.Text.{ascii}
use Rattle.words.specs.Words.{first_word, past_bar, word_of, index_of}
use Rattle.escapes.specs.Escaped.{upper_of, hex_byte_of, shown_of, escaped_of, all_by, escaped_all, shown_all, safe}

-- a quote, an ampersand, a tab, a backslash, a byte of 255
escapes : escaped_all (34 ∷ 38 ∷ 65 ∷ 9 ∷ 92 ∷ 255 ∷ []) ≡ ascii "&quot;&amp;A\\x09\\\\xFF"
unfolding all_by escaped_of shown_of hex_byte_of upper_of word_of first_word past_bar index_of
escapes = refl

shows : shown_all (34 ∷ 38 ∷ 65 ∷ 9 ∷ 92 ∷ 255 ∷ []) ≡ ascii "\"&A\\x09\\\\xFF"
unfolding all_by shown_of hex_byte_of upper_of
shows = refl

-- Every byte escaped is one entity, or plain characters: computed, byte by byte.
pub escaped_safe : (b : ℕ) → b < 256 → T (safe (escaped_of b))
unfolding every escaped_of shown_of hex_byte_of upper_of word_of first_word past_bar index_of
escaped_safe b h = each (λ n. safe (escaped_of n)) 256 b tt h
