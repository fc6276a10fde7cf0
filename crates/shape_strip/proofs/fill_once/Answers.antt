-- `fill_once` fills an LFO's strip with one walk, and all others as the plain engine does, which have no steps. Assumes nothing.
use mathlib.Core.Path.{◌∙◌}
use Rattle.shape_strip.specs.Forward.{goes_forward}
use Rattle.shape_strip.proofs.Unwalked.{no_lfo, other}
use Rattle.shape_strip.proofs.fill_once.Goals as goal

pub fill_lfo_once-requires-clause-turns_forward : goal.fill_lfo_once-requires-clause-turns_forward
unfolding goes_forward
fill_lfo_once-requires-clause-turns_forward c = simp c.in-Lfo.is at c.requires.shape_forward

pub returns-in_default : goal.returns-in_default
returns-in_default c = let f = c.fill.ensures in (f.0 ∙ no_lfo _ _ (other _ c.in_default.not-Lfo), f.1)
