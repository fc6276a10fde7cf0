-- `put_decimals` puts `decimals_text`: its parts, one after the other. Assumes nothing.
use Rattle.text.proofs.Writing.{◌⨾◌}
use Rattle.rows.specs.Rows.{decimals_text}
use Rattle.rows.proofs.put_decimals.Goals as goal

pub returns : goal.returns
unfolding decimals_text
returns c =
    c.put_nine_places.ensures ⨾
    c.put.ensures ⨾
    c.put_nine_places-2.ensures ⨾
    c.put-2.ensures
