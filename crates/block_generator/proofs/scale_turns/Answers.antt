-- `scale_turns` is `scale_answer` of what is chosen at the turns: what is made of the generator, or the refusal. The rest follows from the equation. Assumes nothing.
use mathlib.Core.Path.{sym}
use Rattle.refusals.proofs.Passed.{passed_on}
use Rattle.block_choice.proofs.Answered.{made_refused}
use Rattle.block_turns.proofs.Answered.{turns_answered}
use Rattle.block_choice.specs.Promises.{of_chosen}
use Rattle.block_generator.proofs.scale_turns.Goals as goal

pub returns-in_err-choose_turns : goal.returns-in_err-choose_turns
unfolding of_chosen
returns-in_err-choose_turns c = turns_answered (made_refused _) (simp (passed_on c.from_residual.ensures.1, sym c.choose_turns.ensures, c.in_err-choose_turns.was))

pub returns : goal.returns
unfolding of_chosen
returns c = turns_answered (made_refused _) (simp (sym c.choose_turns.ensures, c.in_ok-choose_turns.was, c.scale.ensures))
