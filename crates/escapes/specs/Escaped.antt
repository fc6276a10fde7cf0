-- BYTES AS XML TEXT: docs/SPECIFICATION.md, "Written text". Definitions only.
use Rattle.std.specs.Prelude.{Bool, true, false, cond, not, ◌&&◌, ◌||◌, List, [], ◌∷◌, ◌++◌, ℕ, ◌+◌, ◌/◌, ◌%◌, ltb, leb, eqb}
use Rattle.text.specs.Text.{ascii}
use Rattle.words.specs.Words.{word_of, index_of}

-- The character of a digit below 16: 0 to 9, then A to F.
unfoldable pub upper_of : ℕ → ℕ
upper_of d = cond (ltb d 10) (48 + d) (55 + d)

-- A byte that is no printable character: \x and its two digits.
unfoldable pub hex_byte_of : ℕ → List ℕ
hex_byte_of b = ascii "\\x" ++ (upper_of (b / 16) ∷ []) ++ (upper_of (b % 16) ∷ [])

-- A byte as itself, where it is a printable character.
unfoldable pub shown_of : ℕ → List ℕ
shown_of b = cond (ltb b 32) (hex_byte_of b) (cond (ltb 126 b) (hex_byte_of b) (b ∷ []))

-- What has a meaning of its own in XML, and its entities.
abbrev pub marks : List ℕ
marks = ascii "&<>\"'"

abbrev pub entities : List ℕ
entities = ascii "&amp;|&lt;|&gt;|&quot;|&#39;"

-- A byte as XML text, in an element or in an attribute: & < > " ' by their entities.
unfoldable pub escaped_of : ℕ → List ℕ
escaped_of b = cond (ltb (index_of marks b) 5) (word_of entities (index_of marks b)) (shown_of b)

-- Each byte of a text by f, one after the other.
unfoldable pub all_by : (ℕ → List ℕ) → List ℕ → List ℕ
all_by f [] = []
all_by f (b ∷ text) = f b ++ all_by f text

-- A text as XML, and as a line that can be read.
abbrev pub escaped_all : List ℕ → List ℕ
escaped_all text = all_by escaped_of text

abbrev pub shown_all : List ℕ → List ℕ
shown_all text = all_by shown_of text

-- ---- what is safe as XML text
-- A printable character that has no meaning of its own in XML.
abbrev pub plain : ℕ → Bool
plain b = leb 32 b && leb b 126 && not (eqb b 38) && not (eqb b 60) && not (eqb b 62) && not (eqb b 34) && not (eqb b 39)

abbrev pub all_plain : List ℕ → Bool
all_plain [] = true
all_plain (b ∷ text) = plain b && all_plain text

abbrev pub same : List ℕ → List ℕ → Bool
same [] [] = true
same [] (b ∷ y) = false
same (a ∷ x) [] = false
same (a ∷ x) (b ∷ y) = eqb a b && same x y

-- One entity, or plain characters.
abbrev pub safe : List ℕ → Bool
safe text = same text (ascii "&amp;") || same text (ascii "&lt;") || same text (ascii "&gt;") || same text (ascii "&quot;") || same text (ascii "&#39;") || all_plain text
