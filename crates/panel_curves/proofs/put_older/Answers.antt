-- `put_older` writes `older_text`: the two strips, and the older curve where it differs. Assumes nothing.
use Rattle.panel_curves.proofs.Blank.{blank_filled}
use Rattle.panel_curves.specs.Curves.{older_text}
use Rattle.panel_curves.proofs.put_older.Goals as goal

pub returns : goal.returns
unfolding older_text
returns c = simp blank_filled (rw (c.fill_once.ensures.1, c.fill_once-2.ensures.1) at c.put_older_curve.ensures)
