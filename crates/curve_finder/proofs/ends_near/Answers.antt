-- `ends_near` tells whether a curve byte ends the sustain near a level: every end is a level itself. Assumes nothing.
use mathlib.Core.Path.{◌∙◌, ap}
use Rattle.envelope_settings.proofs.Sustain.{sustain_end_level}
use Rattle.level.specs.Level.{is_level}
use Rattle.level.proofs.Levels.{level_passes}
use borrow.Author.Rules.{rules}
use Rattle.curve_finder.proofs.ends_near.Goals as goal

pub near-requires : goal.near-requires
near-requires c = (ap is_level c.sustain_end.ensures ∙ level_passes _ (sustain_end_level _ _ (search rules) (search rules)), c.requires)

pub returns : goal.returns
returns c = rw c.sustain_end.ensures at c.near.ensures
