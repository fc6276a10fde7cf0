use mathlib.Core.Path.{refl, ap, ◌∙◌}
use Prim.Native.Nat.{◌-◌}
use native.Mathlib.Omega.{arith}
use borrow.Author.Rules.{rules}
use Rattle.curve.specs.declared.Height.{Height}
use Rattle.generator.specs.declared.Shape.TheVariants.{Lfo as AnLfo}
use Rattle.strip.specs.Strip.{step_sum}
use Rattle.strip.proofs.Filling.{filled_none, at_position, steps_small, total_small, sum_next, filled_next, filled_whole}
use Rattle.lfo_strip.proofs.Slew.{with_slew}
use Rattle.lfo_strip.proofs.fill_slewed.Goals as goal

pub loop-i-init : goal.loop-i-init
unfolding step_sum
loop-i-init c = (filled_none _ _ _, refl)

pub overflow_add-total : goal.overflow_add-total
overflow_add-total c =
    let s = AnLfo c.args.l in
    let w = at_position s _ c.loop-i.i _ c.last_of-last.ensures c.sample_position.ensures (c.slewed_height-height.ensures ∙ with_slew _ _ c.requires.slewed) in
    let h = steps_small s _ _ w in
    let k = total_small s _ _ c.loop-i.invariant.1 in
    omega arith

pub loop-i-preserved : goal.loop-i-preserved
loop-i-preserved c =
    let s = AnLfo c.args.l in
    let inv = c.loop-i.invariant in
    let last = c.last_of-last.ensures in
    let position = c.sample_position.ensures in
    let height = c.slewed_height-height.ensures ∙ with_slew _ _ c.requires.slewed in
    (filled_next s _ _ _ inv.0 (search rules) _ last position (ap (λ (h : Height). h.height) height), sum_next s _ _ (at_position s _ _ _ last position height) inv.1)

pub shape_of-out : goal.shape_of-out
shape_of-out c = c.loop-i.invariant.0.0

pub returns : goal.returns
returns c =
    let inv = c.loop-i.invariant in
    filled_whole (AnLfo c.args.l) _ _ _ inv.0 c.loop-i-test.false inv.1
