-- TWO BLOCKS of 242 bytes that agree in the bytes that a code reads give it the same generator, with all that follows from one: settings, heights and steps, marks, rest, scale, anchor.
-- Assumes nothing.
use mathlib.Core.Path.{◌≡◌}
use mathlib.Core.List.{List}
use Prim.Native.Nat.{ℕ}
use Rattle.std.specs.Prelude.{Some}
use lib.ListN.{length}
use Rattle.codes.specs.declared.Code.{Code}
use Rattle.codes.specs.Codes.{code_of}
use Rattle.code_bytes.specs.Bytes.{Agree, bytes_of, byte_at, block_length}
use Rattle.code_shapes.proofs.Agreement.{agreement}
use Rattle.block.specs.Refusals.{settled_by, settled_of, chosen_by, chosen_of}

pub agreement_chosen : (c : Code) (x y : List ℕ) (code : ℕ) → length x ≡ block_length → length y ≡ block_length → code_of code ≡ Some c → Agree (bytes_of c) (byte_at x) (byte_at y)
    → chosen_of x code ≡ chosen_of y code
unfolding chosen_of chosen_by settled_of settled_by
agreement_chosen c x y code lx ly e h = simp (lx, ly, e, agreement c (byte_at x) (byte_at y) h)
