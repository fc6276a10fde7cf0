-- `put_file_name` writes `file_name`. Assumes nothing.
use borrow.Author.Tests.{eq-eqb, ne_eqb}
use Rattle.text.proofs.Writing.{◌⨾◌}
use Rattle.provenance.specs.Provenance.{file_name}
use Rattle.provenance.proofs.put_file_name.Goals as goal

pub returns-then-file-eq0 : goal.returns-then-file-eq0
unfolding file_name
returns-then-file-eq0 c = simp (eq-eqb _ _ c.if-file-eq0.true) c.put.ensures

pub returns : goal.returns
unfolding file_name
returns c = simp (ne_eqb _ _ c.if-file-eq0.false) (c.put-2.ensures ⨾ c.put_escaped_all.ensures)
