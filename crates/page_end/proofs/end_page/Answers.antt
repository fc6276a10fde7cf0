-- `end_page` writes `page_end`: its parts, one after the other. Assumes nothing.
use Rattle.text.proofs.Writing.{◌⨾◌}
use Rattle.page_end.specs.End.{page_end}
use Rattle.page_end.proofs.end_page.Goals as goal

pub returns : goal.returns
unfolding page_end
returns c =
    c.put_arpeggio.ensures ⨾
    c.put_foot.ensures
