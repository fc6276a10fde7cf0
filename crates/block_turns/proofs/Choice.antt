-- WHAT IS CHOSEN AT A NUMBER OF TURNS: refused by the first check that fails; of a known code and 6 or 8 turns its shape at those; at 6 just what is chosen without a number. Assumes nothing.
use mathlib.Core.Path.{◌≡◌, refl, ap, ◌∙◌}
use mathlib.Core.Bool.{Bool, true, false, cond, ◌||◌}
use mathlib.Core.List.{List}
use Prim.Native.Nat.{ℕ}
use lib.Dec.{eqb}
use lib.ListN.{length}
use Rattle.std.specs.Prelude.{None, Some, Result, Ok, Err}
use Rattle.refusals.specs.declared.Refusal.{Refusal}
use Rattle.generator.specs.declared.Generator.{Generator}
use Rattle.settings.specs.declared.SampledTurns.{SampledTurns}
use Rattle.settings.specs.declared.SampledTurns.TheVariants.{Six, Eight}
use Rattle.generator.specs.declared.Shape.{Shape}
use Rattle.generator.specs.Generator.{generator_of}
use Rattle.turns.specs.Turns.{turns_read, turned_of}
use Rattle.refusals.specs.Refusals.{check_block, check_code, check_turns}
use Rattle.codes.specs.declared.Code.{Code}
use Rattle.codes.specs.Codes.{code_of}
use Rattle.code_bytes.specs.Bytes.{byte_at, block_length}
use Rattle.code_shapes.specs.Shapes.{shape_of}
use Rattle.code_heights.proofs.EveryCode.{turned_six}
use Rattle.block.specs.Refusals.{settled_of, chosen_by, chosen_of}
use Rattle.block.proofs.KnownCode.{known_chosen}
use Rattle.block.proofs.Refused.{refusal_or, chosen_checked}
use Rattle.block_turns.specs.Choice.{chosen_at, chosen_turns}

-- ---- the checks: the turns after the block and the code
pub turns_checked : (next : ℕ) (block : List ℕ) (code turns : ℕ) → refusal_or next (chosen_turns block code turns) ≡ check_block (length block) (check_code code (check_turns turns next))
unfolding chosen_turns chosen_at refusal_or turns_read check_turns
turns_checked next block code turns = same (chosen_of block code) ∙ chosen_checked (check_turns turns next) block code
  where
    same : (a : Result Generator Refusal) → refusal_or next (chosen_at a (turns_read turns)) ≡ refusal_or (check_turns turns next) a
    same (Ok g) = go (eqb turns 6) (eqb turns 8)
      where
        go : (six eight : Bool) → refusal_or next (chosen_at (Ok g) (cond six (Some Six) (cond eight (Some Eight) None))) ≡ cond (six || eight) next 5
        go true eight = refl
        go false true = refl
        go false false = refl
    same (Err r) = refl

-- ---- what a known code and a number of turns choose
pub known_turned : (block : List ℕ) (code turns : ℕ) (c : Code) (n : SampledTurns) → code_of code ≡ Some c → turns_read turns ≡ Some n → length block ≡ block_length
    → chosen_turns block code turns ≡ Ok (generator_of (turned_of n (shape_of c (byte_at block))))
unfolding chosen_turns chosen_at generator_of
known_turned block code turns c n k e l = simp (known_chosen block code c k l, e)

-- ---- AT SIX TURNS everything is as without a number
pub six_turns : (block : List ℕ) (code : ℕ) → chosen_turns block code 6 ≡ chosen_of block code
unfolding chosen_turns turns_read chosen_of chosen_at chosen_by generator_of
six_turns block code = go (settled_of block code)
  where
    go : (s : Result Code Refusal) → chosen_at (chosen_by s (byte_at block)) (Some Six) ≡ chosen_by s (byte_at block)
    go (Ok c) = ap (λ (s : Shape). Ok (generator_of s)) (turned_six c (byte_at block))
    go (Err r) = refl
