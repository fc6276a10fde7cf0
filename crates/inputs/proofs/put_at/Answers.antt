-- `put_at` sets the byte; past the end there is none to set. Assumes nothing.
use mathlib.Core.Path.{sym}
use lib.Seq.{set_out}
use Rattle.inputs.proofs.put_at.Goals as goal

pub returns-else-i-program : goal.returns-else-i-program
returns-else-i-program c = sym (set_out _ _ _ c.if-i-program.false)
