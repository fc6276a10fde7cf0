-- `put_bar` writes `bar_text`: its parts, one after the other. Assumes nothing.
use Rattle.text.proofs.Writing.{◌⨾◌}
use Rattle.bar_paths.specs.Paths.{bar_text}
use Rattle.bar_paths.proofs.put_bar.Goals as goal

pub returns : goal.returns
unfolding bar_text
returns c =
    c.put_corner.ensures ⨾
    c.put_corner-2.ensures ⨾
    c.put.ensures
