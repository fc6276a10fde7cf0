-- THE GATES AND THE BARS OF A BLOCK: docs/SPECIFICATION.md, "What is offered to callers". Definitions only.
use Rattle.std.specs.Prelude.{cond, List, ℕ, eqb, length, Result, Ok, Err}
use Rattle.gates.specs.Gates.{gates_of, bars_of}
use Rattle.gates.specs.declared.Gates.{Gates}
use Rattle.refusals.specs.declared.Refusal.{Refusal}
use Rattle.refusals.specs.declared.Refusal.TheVariants.{Block}
use Rattle.code_bytes.specs.Bytes.{byte_at, gates_byte, block_length}

-- What is given by a block's byte, gates or bars. They meet the first refusal only.
unfoldable pub of_byte : (ℕ → Gates) → List ℕ → Result Gates Refusal
of_byte given block =
    cond (eqb (length block) block_length) (Ok (given (byte_at block gates_byte))) (Err Block)

abbrev pub gates_answer : List ℕ → Result Gates Refusal
gates_answer = of_byte gates_of

abbrev pub bars_answer : List ℕ → Result Gates Refusal
bars_answer = of_byte bars_of
