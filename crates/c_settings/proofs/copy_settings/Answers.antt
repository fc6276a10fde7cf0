use mathlib.Core.Path.{refl, ◌∙◌}
use native.Mathlib.Nat.{le_antisymm}
use Rattle.lists.specs.Written.{written}
use Rattle.lists.proofs.Written.{written_next, written_whole}
use Rattle.c_settings.proofs.copy_settings.Goals as goal

pub loop-i-init : goal.loop-i-init
unfolding written
loop-i-init c = refl

pub loop-i-preserved : goal.loop-i-preserved
loop-i-preserved c = written_next _ _ _ c.loop-i.invariant refl

pub returns : goal.returns
returns c = written_whole _ _ _ _ (le_antisymm c.loop-i.auto.i-end c.loop-i-test.false ∙ c.settings_used-i-end.ensures) c.loop-i.invariant
