-- `agreeing` is `agree` of the two words' floats. Assumes nothing.
use Rattle.float_bits.proofs.agreeing.Goals as goal

pub returns : goal.returns
returns c = simp (c.agrees.ensures, c.float_of-2.ensures, c.float_of.ensures)
