-- WHAT IS PROMISED OF AN ANSWER THAT IS A HEIGHT, by the block and the code: docs/SPECIFICATION.md, "The three demands". Definitions only.
use Rattle.std.specs.Prelude.{◌≡◌, List, ℕ, length, Float, Some, Result, Ok}
use Rattle.curve.specs.declared.Height.{Height}
use Rattle.refusals.specs.declared.Refusal.{Refusal}
use Rattle.refusals.specs.Refusals.{accepted, answer_refusal, check_block, check_code}
use Rattle.codes.specs.declared.Code.{Code}
use Rattle.code_heights.specs.Promises.{CodePromised}
use Rattle.codes.specs.Codes.{code_of}
use Rattle.code_bytes.specs.Bytes.{byte_at, block_length}
use Rattle.block.specs.Refusals.{chosen_of, height_answer}

-- The answer is a height, and of it something is promised.
pub record HeightGiven (Promised : Height → Type 0) (r : Result Height Refusal) : Type 0 where
  pub height : Height
  pub answer : r ≡ Ok height
  pub promised : Promised height

-- The answer is that of the formulas, refusals included. It is refused by the first check that fails, and by nothing else. A block of 242 bytes
-- and a known code are given a height, with all that is promised of one.
pub record HeightAnswered (block : List ℕ) (code : ℕ) (t : Float) (r : Result Height Refusal) : Type 0 where
  pub equation : r ≡ height_answer (chosen_of block code) t
  pub refusal : answer_refusal r ≡ check_block (length block) (check_code code accepted)
  pub given : (c : Code) → code_of code ≡ Some c → length block ≡ block_length → HeightGiven (CodePromised c (byte_at block) t) r
