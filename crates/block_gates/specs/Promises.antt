-- WHAT IS PROMISED OF GATES AND BARS: docs/SPECIFICATION.md, "What is offered to callers". Definitions only.
use Rattle.std.specs.Prelude.{◌≡◌, List, ℕ, length, Result}
use Rattle.gates.specs.declared.Gates.{Gates}
use Rattle.refusals.specs.declared.Refusal.{Refusal}
use Rattle.refusals.specs.Refusals.{accepted, check_block, answer_refusal}

-- Gates, or bars, of a block: its length alone is checked.
pub record GatesAnswered (answer : List ℕ → Result Gates Refusal) (block : List ℕ) (r : Result Gates Refusal) : Type 0 where
  pub equation : r ≡ answer block
  pub refusal : answer_refusal r ≡ check_block (length block) accepted
