-- `fill_slewed` fills the strip, and answers the sum of the steps. The loop's invariant: the first i samples are written, and their steps summed. Assumes nothing.
use mathlib.Core.Path.{◌≡◌}
use Rattle.generator.specs.declared.Shape.TheVariants.{Lfo as AnLfo}
use Rattle.strip.specs.Strip.{step_sum}
use Rattle.strip.proofs.Filling.{Filled}
use Rattle.lfo_strip.proofs.fill_slewed.Given as goal

abbrev pub invariant-loop-i : goal.invariant-loop-i
invariant-loop-i l = Filled (AnLfo l.l) l.count l.i l.initial.out l.out × (l.total ≡ step_sum (AnLfo l.l) l.count l.i)
