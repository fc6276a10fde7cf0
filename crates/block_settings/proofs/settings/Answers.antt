-- `settings` is `settings_answer` of what is chosen: what is made of the generator, or the refusal. The rest follows from the equation. Assumes nothing.
use mathlib.Core.Path.{sym}
use Rattle.refusals.proofs.Passed.{passed_on}
use Rattle.block_choice.proofs.Answered.{made_refused, answered}
use Rattle.block_choice.specs.Promises.{of_chosen}
use Rattle.block_settings.proofs.settings.Goals as goal

pub returns-in_err-choose : goal.returns-in_err-choose
unfolding of_chosen
returns-in_err-choose c = answered (made_refused _) (simp (passed_on c.from_residual.ensures.1, sym c.choose.ensures, c.in_err-choose.was))

pub returns : goal.returns
unfolding of_chosen
returns c = answered (made_refused _) (simp (sym c.choose.ensures, c.in_ok-choose.was))
