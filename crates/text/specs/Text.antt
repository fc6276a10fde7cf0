-- TEXT WRITTEN INTO A BUFFER: docs/SPECIFICATION.md, "Written text". A writer stores its text from a position on, which moves past it. Definitions only.
-- A text is a list of bytes. `ascii "<svg"` is the list of its characters' codes and computes at a literal, so that it is the contents of the Rust's b"<svg" by refl.
use Rattle.std.specs.Prelude.{◌≡◌, cond, List, [], ◌∷◌, ◌++◌, ℕ, zero, suc, ◌+◌, ltb, length, set}
use Prim.Native.Char.{code}
use Rattle.text.specs.declared.Writer.{Writer}
use Prim.Native.String.{String, [] as []ˢ, ◌∷◌ as ◌∷ˢ◌}

-- The bytes of a text in ASCII: the codes of its characters.
abbrev pub ascii : String → List ℕ
ascii []ˢ = []
ascii (c ∷ˢ s) = code c ∷ ascii s

-- The texts of the numbers below k, one after the other.
unfoldable pub texts_below : (ℕ → List ℕ) → ℕ → List ℕ
texts_below text zero = []
texts_below text (suc k) = texts_below text k ++ text k

-- A buffer, and the position of the next byte in it.
pub record Page : Type 0 where
  pub buffer : List ℕ
  pub at : ℕ

-- One byte more, where the buffer has room for it; a full buffer stays as it is, and so does the position.
unfoldable pub put_byte : Page → ℕ → Page
put_byte p b = cond (ltb p.at (length p.buffer)) (record { buffer = set p.buffer p.at b; at = p.at + 1 }) p

-- The bytes of a text, one after the other.
unfoldable pub put_all : Page → List ℕ → Page
put_all p [] = p
put_all p (b ∷ text) = put_all (put_byte p b) text

-- The buffer and the position of a writer.
abbrev pub page_of : Writer → Page
page_of w = record { buffer = w.buffer.now; at = w.at }

-- The text put by a writer, which is `before` and then `after`, into the buffer that was lent to it: who lent it finds the text there. A text is whole where the position after it is below
-- the buffer's length.
pub record Puts (before : Writer) (text : List ℕ) (after : Writer) : Type 0 where
  pub page : page_of after ≡ put_all (page_of before) text
  pub same : after.buffer.ghost_name ≡ before.buffer.ghost_name
