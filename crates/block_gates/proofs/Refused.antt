-- GATES AND BARS ARE REFUSED WHERE THE BLOCK HAS ANOTHER LENGTH, and nowhere else; so an answer that meets its equation is as promised. Assumes nothing.
use mathlib.Core.Path.{◌≡◌, refl, ap, ◌∙◌}
use mathlib.Core.Bool.{Bool, true, false, cond}
use mathlib.Core.List.{List}
use Prim.Native.Nat.{ℕ}
use lib.Dec.{eqb}
use lib.ListN.{length}
use Rattle.std.specs.Prelude.{Result, Ok, Err}
use Rattle.refusals.specs.declared.Refusal.{Refusal}
use Rattle.refusals.specs.declared.Refusal.TheVariants.{Block}
use Rattle.refusals.specs.Refusals.{accepted, check_block, answer_refusal}
use Rattle.code_bytes.specs.Bytes.{block_length}
use Rattle.gates.specs.declared.Gates.{Gates}
use Rattle.block_gates.specs.Answers.{of_byte}
use Rattle.block_gates.specs.Promises.{GatesAnswered}

refused : (given : ℕ → Gates) (block : List ℕ) → answer_refusal (of_byte given block) ≡ check_block (length block) accepted
unfolding of_byte check_block
refused given block = go (eqb (length block) block_length) _
  where
    go : (b : Bool) (x : Gates) → answer_refusal (cond b (Ok x) (Err Block)) ≡ cond b accepted 1
    go true x = refl
    go false x = refl

pub answered : (given : ℕ → Gates) {block : List ℕ} {r : Result Gates Refusal} → r ≡ of_byte given block → GatesAnswered (of_byte given) block r
answered given {block} e = record { equation = e; refusal = ap answer_refusal e ∙ refused given block }
