-- WHAT IS PROMISED OF AN ANSWER FOLLOWS FROM ITS EQUATION: it is refused by the first check that fails, and by nothing else. Assumes nothing.
use mathlib.Core.Path.{◌≡◌, refl, ap, ◌∙◌}
use mathlib.Core.List.{List}
use Prim.Native.Nat.{ℕ}
use Rattle.std.specs.Prelude.{Result, Ok, Err}
use Rattle.generator.specs.declared.Generator.{Generator}
use Rattle.refusals.specs.declared.Refusal.{Refusal}
use Rattle.refusals.specs.Refusals.{accepted, answer_refusal}
use Rattle.block.specs.Refusals.{chosen_of}
use Rattle.block.proofs.Refused.{refusal_or, chosen_checked}
use Rattle.block_choice.specs.Promises.{of_chosen, Answered}

-- what is made of the choice is refused where the choice is, with its number
pub made_refused : {A : Type 0} (made : Generator → A) (a : Result Generator Refusal) → answer_refusal (of_chosen made a) ≡ refusal_or accepted a
unfolding of_chosen refusal_or
made_refused made (Ok g) = refl
made_refused made (Err r) = refl

pub answered : {A : Type 0} {answer : Result Generator Refusal → Result A Refusal} {block : List ℕ} {code : ℕ} {r : Result A Refusal}
    → ((a : Result Generator Refusal) → answer_refusal (answer a) ≡ refusal_or accepted a) → r ≡ answer (chosen_of block code) → Answered answer block code r
answered {block = block} {code = code} same e =
    record { equation = e; refusal = ap answer_refusal e ∙ same (chosen_of block code) ∙ chosen_checked accepted block code }
