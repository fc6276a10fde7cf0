-- REFUSALS THAT ARE KNOWN BEFOREHAND, by the length of a block of zeros and the code. Assumes nothing.
use mathlib.Core.Bool.{Bool}
use mathlib.Core.List.{List, [], ◌∷◌}
use Prim.Native.Nat.{ℕ}
use lib.Dec.{T, eqb}
use lib.ListN.{replicate}
use Rattle.lists.proofs.Rows.{all_pass}
use Rattle.codes.specs.Codes.{codes, code_in}
use Rattle.block.specs.Refusals.{settled_by, settled_of, chosen_by, chosen_of}
use Rattle.block.proofs.Refused.{refusal_or}
use Rattle.refusals.specs.Refusals.{accepted}

-- the block's length, the code, the number
rows : List (ℕ × ℕ × ℕ)
rows = (241, 0, 1) ∷ (243, 0, 1) ∷ (0, 0, 1) ∷ (241, 14, 1) ∷ (243, 255, 1) ∷ (242, 0, 0) ∷ (242, 13, 0) ∷ (242, 14, 2) ∷ (242, 255, 2) ∷ []

gives : ℕ × ℕ × ℕ → Bool
gives r = eqb (refusal_or accepted (chosen_of (replicate r.0 0) r.1)) r.2

refusals_agree : T (all_pass gives rows)
unfolding all_pass gives rows refusal_or chosen_by chosen_of settled_of settled_by codes code_in
refusals_agree = tt
