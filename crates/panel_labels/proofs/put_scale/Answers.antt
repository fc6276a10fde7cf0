-- `put_scale` writes `scale_text`. Assumes nothing.
use Rattle.text.proofs.Writing.{◌⨾◌, puts_none}
use Rattle.panel_labels.specs.Labels.{scale_text}
use Rattle.panel_labels.proofs.put_scale.Goals as goal

pub returns-in-Normalised : goal.returns-in-Normalised
unfolding scale_text
returns-in-Normalised c = simp c.in-Normalised.is (puts_none _)

pub returns-in-Turns : goal.returns-in-Turns
unfolding scale_text
returns-in-Turns c = simp c.in-Turns.is (rw c.nearest_whole.ensures at c.put_turns.ensures)

pub returns-in-Octaves : goal.returns-in-Octaves
unfolding scale_text
returns-in-Octaves c = simp c.in-Octaves.is (rw c.nearest_whole-in-Octaves.ensures at (c.put_decimal.ensures ⨾
    c.put.ensures))
