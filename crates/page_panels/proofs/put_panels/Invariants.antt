-- `put_panels` writes the panels of the codes. The loop's invariant: the first k of them are written. Assumes nothing.
use Rattle.text.specs.Text.{Puts}
use Rattle.page_panels.specs.Panels.{panels_text}
use Rattle.page_panels.proofs.put_panels.Given as goal

abbrev pub invariant-loop-k : goal.invariant-loop-k
invariant-loop-k l = Puts l.initial.out (panels_text l.sampled l.blocks.old.now l.blocks.new.now l.k) l.out
