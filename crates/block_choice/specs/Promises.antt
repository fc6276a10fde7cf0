-- WHAT IS PROMISED OF AN ANSWER THAT FOLLOWS FROM THE CHOICE: docs/SPECIFICATION.md, "What is offered to callers". A height's promise is
-- HeightAnswered (block/specs/Promises), a strip's StripAnswered (block_strip/specs/Promises). Definitions only.
use Rattle.std.specs.Prelude.{◌≡◌, List, ℕ, length, Result, Ok, Err}
use Rattle.generator.specs.declared.Generator.{Generator}
use Rattle.refusals.specs.declared.Refusal.{Refusal}
use Rattle.refusals.specs.Refusals.{accepted, answer_refusal, check_block, check_code}
use Rattle.block.specs.Refusals.{chosen_of}

-- What is made of the generator that is chosen; a refusal stays.
unfoldable pub of_chosen : {A : Type 0} → (Generator → A) → Result Generator Refusal → Result A Refusal
of_chosen made (Ok g) = Ok (made g)
of_chosen made (Err r) = Err r

-- The answer is that of the formulas, refusals included. It is refused by the first check that fails, and by nothing else.
pub record Answered {A : Type 0} (answer : Result Generator Refusal → Result A Refusal) (block : List ℕ) (code : ℕ) (r : Result A Refusal) : Type 0 where
  pub equation : r ≡ answer (chosen_of block code)
  pub refusal : answer_refusal r ≡ check_block (length block) (check_code code accepted)
