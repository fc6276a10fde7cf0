-- `reads` is `read_by`. Assumes nothing.
use mathlib.Core.Path.{refl, ◌∙◌}
use Rattle.drawn_bytes.specs.Drawn.{read_by}
use Rattle.drawn_bytes.proofs.Drawn.{among}
use Rattle.drawn_bytes.proofs.reads.Goals as goal

pub returns-in-Some : goal.returns-in-Some
unfolding read_by
returns-in-Some c = rw (← c.in-Some.ensures, ← c.bytes_of-bytes.ensures.1) (c.contains.ensures.value ∙ among _ _)

pub returns-in-None : goal.returns-in-None
unfolding read_by
returns-in-None c = rw (← c.in-None.ensures) refl
