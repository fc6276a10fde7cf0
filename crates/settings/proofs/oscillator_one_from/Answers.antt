-- `oscillator_one_from` is `oscillator_one_of`: one branch where the width is set by hand, one where it is swept. Assumes nothing.
use borrow.Author.Rules.{rules}
use Rattle.settings.specs.Settings.{oscillator_one_of, width_of, sweep_of, depth_of}
use Rattle.settings.proofs.oscillator_one_from.Goals as goal

pub byte-reach-requires : goal.byte-reach-requires
unfolding oscillator_one_of width_of sweep_of depth_of
byte-reach-requires c = search rules

pub is_manual-requires : goal.is_manual-requires
unfolding oscillator_one_of width_of sweep_of depth_of
is_manual-requires c = search rules

pub returns-then-is_manual : goal.returns-then-is_manual
unfolding oscillator_one_of width_of sweep_of depth_of
returns-then-is_manual c = simp (c.byte-reach.ensures, simp c.is_manual.ensures at c.if-is_manual.true)

pub returns : goal.returns
unfolding oscillator_one_of width_of sweep_of depth_of
returns c = simp (c.byte-reach.ensures, simp c.is_manual.ensures at c.if-is_manual.false)
