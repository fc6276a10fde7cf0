use mathlib.Core.Path.{refl}
use Rattle.largest_difference.specs.Largest.{largest_of}
use Rattle.largest_difference.proofs.Steps.{largest_more, whole_strip}
use Rattle.largest_difference.proofs.find_largest.Goals as goal

pub loop-i-init : goal.loop-i-init
unfolding largest_of
loop-i-init c = refl

pub loop-i-preserved : goal.loop-i-preserved
loop-i-preserved c = largest_more _ _ _ _ _ _ c.loop-i.invariant c.difference-size.ensures c.larger-found.ensures

pub returns : goal.returns
returns c = whole_strip _ _ _ _ _ c.loop-i.auto.i-end c.loop-i-test.false c.loop-i.invariant
