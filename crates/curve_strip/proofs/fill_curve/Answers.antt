use Rattle.strip.proofs.SamplePositions.{sample_position_lem}
use Rattle.strip.proofs.Filling.{filled_none, filled_next, stepless, filled_whole}
use Rattle.curve_strip.proofs.fill_curve.Goals as goal

pub loop-i-init : goal.loop-i-init
loop-i-init g c = filled_none _ _ _

pub loop-i-preserved : goal.loop-i-preserved
loop-i-preserved g c =
    let taken = c.loop-i-test.true in
    let last = c.last_of-last.ensures in
    let position = c.sample_position.ensures in
    let within = sample_position_lem _ _ _ c.requires.0 c.requires.1 taken last position in
    filled_next _ _ _ _ c.loop-i.invariant taken _ last position (c.sample.ensures within)

pub returns : goal.returns
returns g c = filled_whole _ _ _ _ c.loop-i.invariant c.loop-i-test.false (stepless _ (g.met.C.Curve.stepless c.args.curve) _ _)
