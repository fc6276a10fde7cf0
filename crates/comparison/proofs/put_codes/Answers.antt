use Rattle.text.proofs.Writing.{no_text, text_more}
use Rattle.comparison.proofs.put_codes.Goals as goal

pub loop-number-init : goal.loop-number-init
loop-number-init c = no_text _

pub loop-number-preserved : goal.loop-number-preserved
loop-number-preserved c = text_more _ _ c.loop-number.invariant c.put_numbered.ensures
