-- WHAT IS PROMISED OF AN ANSWER AT A NUMBER OF TURNS: docs/SPECIFICATION.md, "Turns". Definitions only.
use Rattle.refusals.specs.declared.Refusal.{Refusal}
use Rattle.generator.specs.declared.Generator.{Generator}
use Rattle.curve.specs.declared.Height.{Height}
use Rattle.std.specs.Prelude.{◌≡◌, List, ℕ, length, Float, Some, Result}
use Rattle.settings.specs.declared.SampledTurns.{SampledTurns}
use Rattle.turns.specs.Turns.{turns_read}
use Rattle.refusals.specs.Refusals.{accepted, check_block, check_code, check_turns, answer_refusal}
use Rattle.codes.specs.declared.Code.{Code}
use Rattle.codes.specs.Codes.{code_of}
use Rattle.code_bytes.specs.Bytes.{byte_at, block_length}
use Rattle.code_heights.specs.Promises.{TurnsPromised}
use Rattle.block.specs.Refusals.{height_answer}
use Rattle.block.specs.Promises.{HeightGiven}
use Rattle.block_turns.specs.Choice.{chosen_turns}

-- The answer is that of the formulas, refusals included. It is refused by the first check that fails, and by nothing else.
pub record TurnsAnswered {A : Type 0} (answer : Result Generator Refusal → Result A Refusal) (block : List ℕ) (code turns : ℕ) (r : Result A Refusal) : Type 0 where
  pub equation : r ≡ answer (chosen_turns block code turns)
  pub refusal : answer_refusal r ≡ check_block (length block) (check_code code (check_turns turns accepted))

-- The same of a height; and a block of 242 bytes, a known code and 6 or 8 turns are given one, with all that is promised of it at those turns.
pub record HeightTurnsAnswered (block : List ℕ) (code turns : ℕ) (t : Float) (r : Result Height Refusal) : Type 0 where
  pub answered : TurnsAnswered (λ a. height_answer a t) block code turns r
  pub given : (c : Code) (n : SampledTurns) → code_of code ≡ Some c → turns_read turns ≡ Some n → length block ≡ block_length → HeightGiven (TurnsPromised n c (byte_at block) t) r
