-- WHAT IS REFUSED: docs/SPECIFICATION.md, "The three demands". The checks run in the order of the refusals' numbers. Definitions only.
use Rattle.std.specs.Prelude.{cond, List, ℕ, eqb, length, Float, Option, None, Some, Result, Ok, Err}
use Rattle.curve.specs.declared.Height.{Height}
use Rattle.generator.specs.declared.Generator.{Generator}
use Rattle.generator.specs.Generator.{generator_of}
use Rattle.shape_heights.specs.Heights.{height_of}
use Rattle.refusals.specs.declared.Refusal.{Refusal}
use Rattle.refusals.specs.declared.Refusal.TheVariants.{Block, Code as NoCode}
use Rattle.codes.specs.declared.Code.{Code}
use Rattle.codes.specs.Codes.{code_of}
use Rattle.code_bytes.specs.Bytes.{byte_at, block_length}
use Rattle.code_shapes.specs.Shapes.{shape_of}

-- What a block and a code's number come to. The block's length is tested first, then the code.
unfoldable pub settled_by : Option Code → Result Code Refusal
settled_by (Some c) = Ok c
settled_by None = Err NoCode

unfoldable pub settled_of : List ℕ → ℕ → Result Code Refusal
settled_of block code = cond (eqb (length block) block_length) (settled_by (code_of code)) (Err Block)

-- A known code gives the generator of the bytes that it reads.
unfoldable pub chosen_by : Result Code Refusal → (ℕ → ℕ) → Result Generator Refusal
chosen_by (Ok c) b = Ok (generator_of (shape_of c b))
chosen_by (Err r) b = Err r

unfoldable pub chosen_of : List ℕ → ℕ → Result Generator Refusal
chosen_of block code = chosen_by (settled_of block code) (byte_at block)

-- The height of what is chosen, at any f32.
unfoldable pub height_answer : Result Generator Refusal → Float → Result Height Refusal
height_answer (Ok g) t = Ok (height_of g.shape t)
height_answer (Err r) t = Err r
