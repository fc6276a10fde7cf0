-- `put_name` writes `name_text`. Assumes nothing.
use borrow.Author.Tests.{eq-eqb, ne_eqb}
use Rattle.provenance.specs.Provenance.{name_text}
use Rattle.provenance.proofs.put_name.Goals as goal

pub returns-then-file-eq0 : goal.returns-then-file-eq0
unfolding name_text
returns-then-file-eq0 c = simp (eq-eqb _ _ c.if-file-eq0.true) c.put_name_in_xml.ensures

pub returns : goal.returns
unfolding name_text
returns c = simp (ne_eqb _ _ c.if-file-eq0.false) c.put_name_in_xml-2.ensures
