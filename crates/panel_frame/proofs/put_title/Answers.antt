-- `put_title` writes `title_text`. Assumes nothing.
use Rattle.panel_frame.specs.Frame.{title_text}
use Rattle.text.proofs.Writing.{◌⨾◌}
use Rattle.panel_frame.proofs.put_title.Goals as goal

pub returns : goal.returns
unfolding title_text
returns c = c.put.ensures ⨾ c.put_title.ensures ⨾ c.put-2.ensures
