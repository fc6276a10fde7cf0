-- `put_each_bar` writes `some_bars`: those that are used. The loop's invariant: the first i of them are written. Assumes nothing.
use Rattle.text.specs.Text.{Puts}
use Rattle.bar_paths.specs.Paths.{some_bars}
use Rattle.bar_paths.proofs.put_each_bar.Given as goal

abbrev pub invariant-loop-i : goal.invariant-loop-i
invariant-loop-i l = Puts l.initial.out (some_bars l.start l.up l.bars l.i) l.out
