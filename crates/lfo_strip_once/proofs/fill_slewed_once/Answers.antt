use mathlib.Core.Path.{refl, sym, subst}
use Prim.Native.Nat.{◌-◌}
use lib.Dec.{T}
use native.Mathlib.Nat.{le_antisymm}
use Rattle.generator.specs.declared.Shape.TheVariants.{Lfo as AnLfo}
use Rattle.walk.proofs.Onward.{may_go, full_on_small}
use Rattle.strip.proofs.SamplePositions.{sample_position_lem}
use Rattle.strip.proofs.Filling.{filled_none, filled_next, filled_whole}
use Rattle.lfo_strip_once.proofs.AlongStrip.{behind, ready, walk_next, height_here, all_steps}
use Rattle.lfo_strip_once.proofs.fill_slewed_once.Goals as goal

pub loop-i-init : goal.loop-i-init
loop-i-init c = unfold behind in (filled_none _ _ _, c.start-walk.ensures _)

pub walk_on-walk-requires : goal.walk_on-walk-requires
walk_on-walk-requires c =
    ready _ _ _ c.limit_of-limit.ensures c.loop-i.invariant.1

pub cut_height-requires : goal.cut_height-requires
cut_height-requires c =
    may_go _ _ _ c.walk_on-walk.ensures (full_on_small _ _ (ready _ _ _ c.limit_of-limit.ensures c.loop-i.invariant.1).0)

pub loop-i-preserved : goal.loop-i-preserved
loop-i-preserved c =
    let bounds = c.requires.fits in
    let limit = c.limit_of-limit.ensures in
    let last = c.last_of-last.ensures in
    let taken = c.loop-i-test.true in
    let position = c.sample_position.ensures in
    let unclamped = sample_position_lem _ _ _ bounds.0 bounds.1 taken last position in
    let stands = walk_next c.args.l _ _ last position (subst T (sym c.requires.slewed_forward.1) tt) bounds taken limit c.loop-i.invariant.1 c.walk_on-walk.ensures in
    (filled_next (AnLfo c.args.l) _ _ _ c.loop-i.invariant.0 taken _ last position (height_here c.args.l _ _ last position c.requires.slewed_forward.0 unclamped limit stands c.cut_height.ensures), stands)

pub returns : goal.returns
returns c =
    let inv = c.loop-i.invariant in
    let left = c.loop-i-test.false in
    (all_steps c.args.l _ _ c.requires.slewed_forward.0 c.requires.fits (le_antisymm inv.0.1 left) inv.1, (filled_whole (AnLfo c.args.l) _ _ _ inv.0 left refl).1)
