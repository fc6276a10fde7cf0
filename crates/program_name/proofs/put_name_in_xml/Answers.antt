-- `put_name_in_xml` puts `name_in_xml`: the name, or the word for none. Assumes nothing.
use borrow.Author.Tests.{eq-eqb, ne_eqb}
use Rattle.program_name.specs.ProgramName.{name_in_xml}
use Rattle.program_name.proofs.put_name_in_xml.Goals as goal

pub returns-in-Some : goal.returns-in-Some
unfolding name_in_xml
returns-in-Some c = simp (ne_eqb _ _ c.in-Some.ensures.0) (rw c.in-Some.ensures.1 at c.put_escaped_all.ensures)

pub returns-in-None : goal.returns-in-None
unfolding name_in_xml
returns-in-None c = simp (eq-eqb _ _ c.in-None.ensures) c.put.ensures
