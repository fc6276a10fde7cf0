-- `put_largest` puts `largest_text`: its parts, one after the other. Assumes nothing.
use Rattle.text.proofs.Writing.{◌⨾◌}
use Rattle.strip.specs.Strip.{sample_position}
use Rattle.comparison.specs.Differences.{largest_text}
use Rattle.comparison.proofs.put_largest.Goals as goal

pub returns : goal.returns
unfolding largest_text sample_position
returns c = simp (← c.sample_position.ensures)
    (c.put.ensures ⨾
    c.put_nine_places.ensures ⨾
    c.put-2.ensures ⨾
    c.put_nine_places-2.ensures ⨾
    c.put-3.ensures)
