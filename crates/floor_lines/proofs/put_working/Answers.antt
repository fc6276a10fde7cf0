-- `put_working` puts `working_text`: its parts, one after the other. Assumes nothing.
use Rattle.text.proofs.Writing.{◌⨾◌}
use Rattle.floor_lines.specs.Lines.{working_text}
use borrow.Author.Rules.{rules}
use Rattle.floor_lines.proofs.put_working.Goals as goal

pub put_line-requires : goal.put_line-requires
unfolding working_text
put_line-requires c = search rules

pub put_case-requires : goal.put_case-requires
unfolding working_text
put_case-requires c = search rules

pub returns : goal.returns
unfolding working_text
returns c = c.put_line.ensures ⨾ c.put_case.ensures
