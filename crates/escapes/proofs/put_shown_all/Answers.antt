use Rattle.text.proofs.Writing.{left_all, left_none}
use Rattle.escapes.proofs.EachByte.{byte_less, none_left}
use Rattle.escapes.proofs.put_shown_all.Goals as goal

pub loop-byte-init : goal.loop-byte-init
loop-byte-init c = left_all

pub loop-byte-preserved : goal.loop-byte-preserved
loop-byte-preserved c = byte_less _ _ _ c.loop-byte-test.true c.loop-byte.invariant c.put_shown.ensures

pub returns : goal.returns
returns c = left_none (none_left _ _ _ c.loop-byte-test.false c.loop-byte.invariant)
