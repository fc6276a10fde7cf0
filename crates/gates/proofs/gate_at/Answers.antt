-- `gate_at` is `gate_of`. Assumes nothing.
use borrow.Author.Rules.{rules}
use Rattle.gates.specs.Gates.{gate_of}
use Rattle.gates.proofs.gate_at.Goals as goal

pub int_to_float-start : goal.int_to_float-start
unfolding gate_of
int_to_float-start c = search rules

pub byte-requires : goal.byte-requires
unfolding gate_of
byte-requires c = search rules

pub returns : goal.returns
unfolding gate_of
returns c = simp c.byte.ensures
