use Rattle.text.proofs.Writing.{no_text, text_more, all_texts}
use Rattle.parameter_rows.proofs.put_rows.Goals as goal

pub loop-n-init : goal.loop-n-init
loop-n-init c = no_text _

pub loop-n-preserved : goal.loop-n-preserved
loop-n-preserved c = text_more _ _ c.loop-n.invariant c.put_row.ensures

pub returns : goal.returns
returns c = all_texts _ _ _ c.loop-n.auto.n-end c.loop-n-test.false c.loop-n.invariant
