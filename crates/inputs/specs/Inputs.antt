-- THE BLOCK OF AN INPUT, AND ITS HEIGHT: docs/SPECIFICATION.md, "The checklist". Definitions only.
use Rattle.refusals.specs.declared.Refusal.{Refusal}
use Rattle.std.specs.Prelude.{List, [], ◌∷◌, ℕ, ◌+◌, ◌*◌, ◌/◌, ◌%◌, ◌^◌, length, set, replicate, Option, None, Some, Result, Ok, Err}
use Rattle.std.specs.Float.{nan, binary32}
use Rattle.std.specs.Float.Ieee.{to_bits}
use Rattle.exact.specs.Binary32.{bits}
use Rattle.curve.specs.declared.Height.{Height}
use Rattle.strip.specs.Strip.{part_of}
use Rattle.codes.specs.declared.Code.{Code}
use Rattle.codes.specs.Codes.{code_of}
use Rattle.code_bytes.specs.Bytes.{bytes_of, block_length}
use Rattle.block.specs.Refusals.{chosen_of, height_answer}
use Rattle.trials.specs.declared.Input.{Input}

-- ---- its block
-- A block with a number's digits in base 256 at some places, the last digit at the last place.
unfoldable pub with_bytes : List ℕ → ℕ → List ℕ → List ℕ
with_bytes [] n block = block
with_bytes (p ∷ places) n block = set (with_bytes places n block) p (n / 256 ^ length places % 256)

-- The places are those that the code reads; a code that is not known reads none.
unfoldable pub places_of : Option Code → List ℕ
places_of (Some c) = bytes_of c
places_of None = []

unfoldable pub with_input : Input → List ℕ → List ℕ
with_input i block = with_bytes (places_of (code_of i.code)) i.bytes block

-- All other bytes are 0.
unfoldable pub block_of : Input → List ℕ
block_of i = with_input i (replicate block_length 0)

-- ---- its height
-- A NaN where it is refused.
unfoldable pub height_given : Result Height Refusal → Height
height_given (Ok h) = h
height_given (Err r) = record { height = nan; steps = 0 }

unfoldable pub input_height : Input → Height
input_height i = height_given (height_answer (chosen_of (block_of i) i.code) (bits i.position))

-- ---- inputs
-- The bits of the position that is part i of the whole.
abbrev pub part_bits : ℕ → ℕ → ℕ
part_bits i whole = to_bits binary32 (part_of i whole)

-- LFO 1 with a shape's byte and a slew's, and no key sync.
abbrev pub lfo_input : ℕ → ℕ → ℕ → Input
lfo_input shape slew position = record { code = 3; bytes = shape * 65536 + slew * 256; position = position }
