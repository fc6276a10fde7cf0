-- REFUSALS AT A NUMBER OF TURNS THAT ARE KNOWN BEFOREHAND, by the length of a block of zeros, the code and the number. Assumes nothing.
use mathlib.Core.Bool.{Bool}
use mathlib.Core.List.{List, [], ◌∷◌}
use Prim.Native.Nat.{ℕ}
use lib.Dec.{T, eqb}
use lib.ListN.{replicate}
use Rattle.lists.proofs.Rows.{all_pass}
use Rattle.refusals.specs.Refusals.{accepted}
use Rattle.turns.specs.Turns.{turns_read}
use Rattle.codes.specs.Codes.{codes, code_in}
use Rattle.block.specs.Refusals.{settled_by, settled_of, chosen_by, chosen_of}
use Rattle.block.proofs.Refused.{refusal_or}
use Rattle.block_turns.specs.Choice.{chosen_at, chosen_turns}

-- the block's length, the code, the turns, the number
rows : List (ℕ × ℕ × ℕ × ℕ)
rows =
    (242, 0, 6, 0) ∷ (242, 13, 8, 0) ∷ (242, 5, 7, 5) ∷ (242, 0, 0, 5) ∷ (242, 3, 1, 5) ∷ (242, 4, 262, 5) ∷ (242, 13, 4294967295, 5)
    ∷ (241, 14, 7, 1) ∷ (242, 14, 7, 2) ∷ (243, 0, 8, 1) ∷ (242, 256, 8, 2) ∷ []

gives : ℕ × ℕ × ℕ × ℕ → Bool
gives r = eqb (refusal_or accepted (chosen_turns (replicate r.0 0) r.1 r.2)) r.3

refusals_agree : T (all_pass gives rows)
unfolding all_pass gives rows refusal_or chosen_turns chosen_at turns_read chosen_by chosen_of settled_of settled_by codes code_in
refusals_agree = tt
