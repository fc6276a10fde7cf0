-- Where a name ends, byte by byte: at a 0, and otherwise where it ends from the next byte on. Assumes nothing.
use mathlib.Core.Path.{◌≡◌, refl}
use mathlib.Core.List.{List}
use Prim.Native.Nat.{ℕ, zero, suc}
use borrow.Author.Tests.{ne_eqb}
use Rattle.code_bytes.specs.Bytes.{byte_at}
use Rattle.program_name.specs.ProgramName.{end_from}

pub end_none : (block : List ℕ) (i : ℕ) → end_from block 0 i ≡ i
unfolding end_from
end_none block i = refl

pub end_here : (block : List ℕ) (n i : ℕ) → byte_at block i ≡ 0 → end_from block n i ≡ i
unfolding end_from
end_here block zero i e = refl
end_here block (suc n) i e = simp e

pub end_next : (block : List ℕ) (n i : ℕ) → (byte_at block i ≡ 0 → ⊥) → end_from block (suc n) i ≡ end_from block n (suc i)
unfolding end_from
end_next block n i apart = simp (ne_eqb _ _ apart)
