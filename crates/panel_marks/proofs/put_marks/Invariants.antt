-- `put_marks` writes `marks_text`: those that are used. The loop's invariant: the first i of them are written. Assumes nothing.
use Rattle.text.specs.Text.{Puts}
use Rattle.panel_marks.specs.Marks.{rules_text}
use Rattle.panel_marks.proofs.put_marks.Given as goal

abbrev pub invariant-loop-i : goal.invariant-loop-i
invariant-loop-i l = Puts l.initial.out (rules_text l.marks l.i) l.out
