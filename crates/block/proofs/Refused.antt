-- WHAT IS REFUSED, AND WITH WHICH NUMBER: what a block and a code come to is refused by the first check that fails, and by nothing else. Assumes nothing.
use mathlib.Core.Path.{◌≡◌, refl, ◌∙◌}
use mathlib.Core.Bool.{Bool, true, false, cond}
use mathlib.Core.List.{List, [], ◌∷◌}
use Prim.Native.Nat.{ℕ, zero, suc}
use lib.Dec.{eqb, leb, ltb, leb-zero, leb-suc-zero, leb-suc-suc}
use lib.ListN.{length}
use lib.Ieee.{Float}
use Rattle.std.specs.Prelude.{Result, Ok, Err}
use Rattle.refusals.specs.declared.Refusal.{Refusal}
use Rattle.refusals.specs.declared.Refusal.TheVariants.{Block}
use Rattle.refusals.specs.Refusals.{accepted, answer_refusal, refusal_number, check_block, check_code}
use Rattle.generator.specs.declared.Generator.{Generator}
use Rattle.codes.specs.declared.Code.{Code}
use Rattle.codes.specs.Codes.{codes, code_in, code_of}
use Rattle.code_bytes.specs.Bytes.{byte_at, block_length}
use Rattle.block.specs.Refusals.{settled_by, settled_of, chosen_by, chosen_of, height_answer}

-- The number of the refusal; where there is none, what the checks that follow give.
unfoldable pub refusal_or : {A : Type 0} → ℕ → Result A Refusal → ℕ
refusal_or next (Ok a) = next
refusal_or next (Err r) = refusal_number r

-- ---- the code: those of a list are its first numbers
listed : (next : ℕ) (cs : List Code) (n : ℕ) → refusal_or next (settled_by (code_in cs n)) ≡ cond (ltb n (length cs)) next 2
unfolding refusal_or settled_by code_in
listed next [] n = simp (leb-suc-zero n)
listed next (c ∷ cs) zero = simp (leb-suc-suc 0 (length cs), leb-zero (length cs))
listed next (c ∷ cs) (suc n) = simp (leb-suc-suc (suc n) (length cs)) (listed next cs n)

code_checked : (next code : ℕ) → refusal_or next (settled_by (code_of code)) ≡ check_code code next
unfolding check_code codes
code_checked next code = listed next codes code ∙ simp (leb-suc-suc code 13)

-- ---- the block before it
pub block_checked : (next : ℕ) (block : List ℕ) (code : ℕ) → refusal_or next (settled_of block code) ≡ check_block (length block) (check_code code next)
unfolding settled_of check_block refusal_or
block_checked next block code = go (eqb (length block) block_length)
  where
    go : (b : Bool) → refusal_or next (cond b (settled_by (code_of code)) (Err Block)) ≡ cond b (check_code code next) 1
    go true = code_checked next code
    go false = refl

pub chosen_checked : (next : ℕ) (block : List ℕ) (code : ℕ) → refusal_or next (chosen_of block code) ≡ check_block (length block) (check_code code next)
unfolding chosen_of refusal_or chosen_by
chosen_checked next block code = same (settled_of block code) ∙ block_checked next block code
  where
    same : (s : Result Code Refusal) → refusal_or next (chosen_by s (byte_at block)) ≡ refusal_or next s
    same (Ok c) = refl
    same (Err r) = refl

-- ---- a height is refused where the choice is
pub height_checked : (block : List ℕ) (code : ℕ) (t : Float)
    → answer_refusal (height_answer (chosen_of block code) t) ≡ check_block (length block) (check_code code accepted)
unfolding height_answer refusal_or
height_checked block code t = same (chosen_of block code) ∙ chosen_checked accepted block code
  where
    same : (a : Result Generator Refusal) → answer_refusal (height_answer a t) ≡ refusal_or accepted a
    same (Ok g) = refl
    same (Err r) = refl
