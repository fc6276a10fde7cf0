use mathlib.Core.Path.{refl}
use Rattle.fingerprint.proofs.Bits.{byte_taken, all_taken}
use Rattle.fingerprint.proofs.crc32.Goals as goal

pub loop-b-init : goal.loop-b-init
loop-b-init c = refl

pub loop-b-preserved : goal.loop-b-preserved
loop-b-preserved c = byte_taken _ _ _ c.loop-b-test.true c.take_byte-r.ensures c.loop-b.invariant

pub returns : goal.returns
returns c = all_taken _ _ _ c.loop-b-test.false c.loop-b.invariant c.xor.ensures
