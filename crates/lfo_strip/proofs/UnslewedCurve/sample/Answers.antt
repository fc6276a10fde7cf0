use mathlib.Core.Path.{◌∙◌}
use Rattle.lfo_strip.proofs.Slew.{without_slew}
use Rattle.lfo_strip.proofs.UnslewedCurve.sample.Goals as goal

pub returns : goal.returns
returns c within = c.unslewed_sample.ensures ∙ without_slew _ _ c.args.self.unslewed within
