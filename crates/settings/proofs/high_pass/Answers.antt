-- `high_pass` is `high_pass_of`. Assumes nothing.
use mathlib.Core.Path.{refl}
use Rattle.settings.specs.Settings.{high_pass_of}
use Rattle.settings.proofs.high_pass.Goals as goal

pub returns : goal.returns
unfolding high_pass_of
returns c = refl
