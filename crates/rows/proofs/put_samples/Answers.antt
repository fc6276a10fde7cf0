use Rattle.text.proofs.Writing.{no_text, text_more, all_texts}
use Rattle.rows.proofs.put_samples.Goals as goal

pub loop-i-init : goal.loop-i-init
loop-i-init c = no_text _

pub loop-i-preserved : goal.loop-i-preserved
loop-i-preserved c = text_more _ _ c.loop-i.invariant c.put_sample.ensures

pub returns : goal.returns
returns c = all_texts _ _ _ c.loop-i.auto.i-end c.loop-i-test.false c.loop-i.invariant
