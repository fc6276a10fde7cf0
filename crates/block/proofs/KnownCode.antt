-- WHAT A BLOCK AND A CODE COME TO: a known code comes of a block of 242 bytes and of nothing else. Assumes nothing.
use mathlib.Core.Path.{◌≡◌, ap, ◌∙◌}
use mathlib.Core.Bool.{Bool, true, false, cond}
use mathlib.Core.List.{List}
use Prim.Native.Nat.{ℕ}
use native.Mathlib.Omega.{arith}
use lib.Dec.{T, eqb, eqb→eq}
use lib.ListN.{length}
use Rattle.std.specs.Prelude.{Some, Ok}
use borrow.Author.Tests.{eq-eqb}
use Rattle.generator.specs.Generator.{generator_of}
use Rattle.refusals.specs.Refusals.{accepted, check_block, check_code}
use Rattle.codes.specs.declared.Code.{Code}
use Rattle.codes.specs.Codes.{code_of}
use Rattle.code_bytes.specs.Bytes.{block_length, byte_at}
use Rattle.code_shapes.specs.Shapes.{shape_of}
use Rattle.block.specs.Refusals.{settled_by, settled_of, chosen_by, chosen_of}
use Rattle.block.proofs.Refused.{refusal_or, block_checked}

pub known_settled : (block : List ℕ) (code : ℕ) (c : Code) → code_of code ≡ Some c → length block ≡ block_length → settled_of block code ≡ Ok c
unfolding settled_of settled_by
known_settled block code c k l = simp (eq-eqb (length block) block_length l, k)

pub settled_length : (block : List ℕ) (code : ℕ) (c : Code) → Ok c ≡ settled_of block code → length block ≡ block_length
unfolding refusal_or check_block
settled_length block code c e = go (eqb (length block) block_length) (eqb→eq (length block) block_length) (ap (refusal_or accepted) e ∙ block_checked accepted block code)
  where
    go : (b : Bool) → (T b → length block ≡ block_length) → accepted ≡ cond b (check_code code accepted) 1 → length block ≡ block_length
    go true f e = f tt
    go false f e = absurd (omega arith)

pub known_chosen : (block : List ℕ) (code : ℕ) (c : Code) → code_of code ≡ Some c → length block ≡ block_length → chosen_of block code ≡ Ok (generator_of (shape_of c (byte_at block)))
unfolding chosen_of chosen_by
known_chosen block code c k l = simp (known_settled block code c k l)
