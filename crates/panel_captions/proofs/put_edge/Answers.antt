-- `put_edge` writes `edge_text`: its parts, one after the other. Assumes nothing.
use Rattle.text.proofs.Writing.{◌⨾◌}
use Rattle.panel_captions.specs.Captions.{edge_text}
use Rattle.panel_captions.proofs.put_edge.Goals as goal

pub returns : goal.returns
unfolding edge_text
returns c = c.put.ensures ⨾ c.put_decimal.ensures ⨾ c.put-2.ensures
