-- `fill_slewed_once` fills the strip, and answers the steps of one walk. The loop's invariant: the first i samples are written, and the walk stands after the full steps of the last of them. Assumes nothing.
use Rattle.generator.specs.declared.Shape.TheVariants.{Lfo as AnLfo}
use Rattle.strip.proofs.Filling.{Filled}
use Rattle.lfo_strip_once.proofs.AlongStrip.{Standing}
use Rattle.lfo_strip_once.proofs.fill_slewed_once.Given as goal

abbrev pub invariant-loop-i : goal.invariant-loop-i
invariant-loop-i l = Filled (AnLfo l.l) l.n l.i l.initial.out l.out × Standing l.l l.n l.walk l.i
