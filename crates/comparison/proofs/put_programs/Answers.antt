-- `put_programs` puts `programs_text`: its parts, one after the other. Assumes nothing.
use Rattle.text.proofs.Writing.{◌⨾◌}
use Rattle.comparison.specs.Differences.{programs_text}
use Rattle.comparison.proofs.put_programs.Goals as goal

pub returns : goal.returns
unfolding programs_text
returns c =
    c.put_names.ensures ⨾
    c.put_codes.ensures ⨾
    c.put_gate.ensures ⨾
    c.put_undrawn_part.ensures ⨾
    c.put_counts.ensures
