-- `level` is `filter_level_of`. Assumes nothing.
use Rattle.filter.specs.Formula.{filter_level_of, scaled_of}
use Rattle.filter.proofs.level.Goals as goal

pub returns : goal.returns
unfolding filter_level_of scaled_of
returns c = simp (c.octaves-octaves.ensures, c.squared.ensures, c.log-magnitude.ensures, c.distance.ensures, c.peak.ensures, c.clamp_unit.ensures)
