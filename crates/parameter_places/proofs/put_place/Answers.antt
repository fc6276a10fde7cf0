-- `put_place` puts `place_text`: its parts, one after the other. Assumes nothing.
use Rattle.text.proofs.Writing.{◌⨾◌}
use Rattle.parameter_places.specs.Places.{place_text}
use Rattle.parameter_places.proofs.put_place.Goals as goal

pub returns : goal.returns
unfolding place_text
returns c =
    c.put.ensures ⨾
    c.put_decimal.ensures ⨾
    c.put-2.ensures ⨾
    c.put_decimal-2.ensures ⨾
    c.put-3.ensures
