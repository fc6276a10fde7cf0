-- `part_bits` is `part_bits`. Assumes nothing.
use Rattle.inputs.proofs.part_bits.Goals as goal

pub returns : goal.returns
returns c = simp (c.word_of.ensures, c.sample_position.ensures)
