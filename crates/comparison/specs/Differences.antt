-- WHAT DIFFERS BETWEEN TWO PROGRAMS, AS TEXT: docs/SPECIFICATION.md, "What differs". A reading gives the byte of each number: a is the old, b the new. The curves of sampled
-- shapes are held against each other at n turns. Definitions only.
use Rattle.std.specs.Prelude.{cond, List, [], ◌∷◌, ◌++◌, ℕ, zero, suc, ◌+◌, eqb, length, Float, Option, Some, None}
use Rattle.text.specs.Text.{ascii, texts_below}
use Rattle.numerals.specs.Spelled.{decimal_of}
use Rattle.generator.specs.declared.Shape.{Shape}
use Rattle.shape_heights.specs.Heights.{height_of}
use Rattle.settings.specs.declared.SampledTurns.{SampledTurns}
use Rattle.turns.specs.Turns.{turns_read, turns_text, turned_of}
use Rattle.strip.specs.Strip.{sample_position}
use Rattle.codes.specs.declared.Code.{Code}
use Rattle.codes.specs.Codes.{code_number, code_of}
use Rattle.code_bytes.specs.Bytes.{bytes_of, byte_at, gates_byte, block_length}
use Rattle.code_shapes.specs.Shapes.{shape_of}
use Rattle.nine_places.specs.Places.{nine_places}
use Rattle.labels.specs.Titles.{title_of}
use Rattle.program_name.specs.ProgramName.{name_in_line}
use Rattle.undrawn_count.specs.Count.{undrawn_count}
use Rattle.undrawn_bytes.specs.Undrawn.{undrawn_part}
use Rattle.comparison_bytes.specs.Changes.{same_bytes, changes_text}
use Rattle.largest_difference.specs.declared.Largest.{Largest as ALargest}
use Rattle.largest_difference.specs.Largest.{compared_samples, largest_of}

-- ---- a generator
-- Where sample i of comparedSamples lies.
abbrev pub position_at : ℕ → Float
position_at i = sample_position compared_samples i

-- The curve of a shape: its height at each sample.
abbrev pub curve_of : Shape → ℕ → Float
curve_of s i = (height_of s (position_at i)).height

-- How far the old curve and the new are apart, and where.
unfoldable pub largest_text : ALargest → List ℕ
largest_text l = ascii "different  largest difference " ++ nine_places l.size ++ ascii " at " ++ nine_places (position_at l.index) ++ ascii "\n"

-- Its name, and whether all bytes that it reads are the same; if not, how far apart the curves are, and a line for each byte that differs.
unfoldable pub generator_text : SampledTurns → Code → (ℕ → ℕ) → (ℕ → ℕ) → List ℕ
generator_text n c a b =
    title_of (code_number c) ++ cond (same_bytes (bytes_of c) a b) (ascii "same\n") (largest_text (largest_of (curve_of (turned_of n (shape_of c a))) (curve_of (turned_of n (shape_of c b))) compared_samples) ++ changes_text (bytes_of c) a b)

unfoldable pub code_text : SampledTurns → Option Code → (ℕ → ℕ) → (ℕ → ℕ) → List ℕ
code_text n (Some c) a b = generator_text n c a b
code_text n None a b = []

-- The generators of the first k codes.
abbrev pub codes_text : SampledTurns → ℕ → (ℕ → ℕ) → (ℕ → ℕ) → List ℕ
codes_text n k a b = texts_below (λ i. code_text n (code_of i) a b) k

-- ---- the gates, which have no height
unfoldable pub gate_text : (ℕ → ℕ) → (ℕ → ℕ) → List ℕ
gate_text a b = title_of 14 ++ cond (same_bytes (gates_byte ∷ []) a b) (ascii "same\n") (ascii "different\n" ++ changes_text (gates_byte ∷ []) a b)

-- ---- how many differ: 1 for each that does
unfoldable pub code_count : Option Code → (ℕ → ℕ) → (ℕ → ℕ) → ℕ
code_count (Some c) a b = cond (same_bytes (bytes_of c) a b) 0 1
code_count None a b = 0

unfoldable pub codes_count : ℕ → (ℕ → ℕ) → (ℕ → ℕ) → ℕ
codes_count zero a b = 0
codes_count (suc k) a b = codes_count k a b + code_count (code_of k) a b

unfoldable pub gate_count : (ℕ → ℕ) → (ℕ → ℕ) → ℕ
gate_count a b = cond (same_bytes (gates_byte ∷ []) a b) 0 1

-- ---- all of it
-- Both programs' names.
unfoldable pub names_text : List ℕ → List ℕ → List ℕ
names_text old new = ascii "old  " ++ name_in_line (ascii "(no name)") old ++ ascii "\nnew  " ++ name_in_line (ascii "(no name)") new ++ ascii "\n"

-- How many of the 14 generators and the gates differ, and how many bytes that no curve draws.
unfoldable pub counts_text : (ℕ → ℕ) → (ℕ → ℕ) → List ℕ
counts_text a b =
    decimal_of (codes_count 14 a b + gate_count a b) ++ ascii " of 15 differ, and of the bytes that no curve draws " ++ decimal_of (undrawn_count block_length a b) ++ ascii "\n"

unfoldable pub programs_text : SampledTurns → List ℕ → List ℕ → List ℕ
programs_text n old new =
    names_text old new ++ codes_text n 14 (byte_at old) (byte_at new) ++ gate_text (byte_at old) (byte_at new) ++
    undrawn_part (byte_at old) (byte_at new) ++ counts_text (byte_at old) (byte_at new)

-- Where a block has another length, or the turns are another number than 6 or 8, there is no text.
unfoldable pub differences_text : ℕ → List ℕ → List ℕ → List ℕ
differences_text turns old new =
    cond (eqb (length old) block_length) (cond (eqb (length new) block_length) (turns_text (λ n. programs_text n old new) (turns_read turns)) []) []
