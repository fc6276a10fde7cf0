use Rattle.text.proofs.Writing.{no_text, text_more}
use Rattle.undrawn_lines.proofs.put_undrawn.Goals as goal

pub loop-n-init : goal.loop-n-init
loop-n-init c = no_text _

pub loop-n-preserved : goal.loop-n-preserved
loop-n-preserved c = text_more _ _ c.loop-n.invariant c.put_change.ensures
