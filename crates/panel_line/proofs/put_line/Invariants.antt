-- `put_line` writes `line_text`. The loop's invariant: the first i samples are written. Assumes nothing.
use Rattle.text.specs.Text.{Puts}
use Rattle.panel_line.specs.Line.{points_text}
use Rattle.panel_line.proofs.put_line.Given as goal

abbrev pub invariant-loop-i : goal.invariant-loop-i
invariant-loop-i l = Puts l.initial.out (points_text l.heights l.i) l.out
