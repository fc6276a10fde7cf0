-- `level_by_stretch` is `envelope_level_of`. Assumes nothing.
use Rattle.envelope.proofs.OneFormula.{level_by_stretch}
use Rattle.envelope.proofs.level_by_stretch.Goals as goal

pub returns : goal.returns
returns c =
    level_by_stretch _ _ c.of_stretch-from.ensures c.of_stretch-to.ensures c.of_stretch-bend.ensures c.divide-u.ensures c.bent-y.ensures c.of_stretch.ensures
