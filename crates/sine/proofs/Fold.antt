-- THE FOLDS OF sin_turns LOSE NOTHING: of a turn's part from 0 to 1 the half turn and the quarter turn in binary32 are the exact ones, and so is the sign.
-- The differences are exact by Sterbenz's lemma, and the float comparisons are the exact comparisons. Assumes nothing.
use mathlib.Core.Path.{◌≡◌, ap}
use mathlib.Core.Bool.{Bool, true, false, not, cond}
use Prim.Native.Nat.{ℕ, ◌+◌, ◌*◌, ◌≤◌}
use native.Mathlib.Omega.{arith}
use lib.Signed.{le_z_yes}
use lib.Dec.{T, lit<}
use lib.Ieee.{Float, binary32, of_bits, neg, fits}
use lib.Ieee.Fits.{sub-fits}
use Rattle.exact.specs.Fraction.{Fraction, ratio, ◌+ℚ◌, ◌-ℚ◌, ◌≤ℚ◌, ltℚ}
use Rattle.exact.specs.Value.{value, Equal}
use Rattle.exact.specs.Binary32.{◌⊖◌, quarter₃₂, half₃₂, one₃₂}
use Rattle.exact.proofs.Parts.{num⁺, num⁻, sum_parts}
use Rattle.exact.proofs.Order.{≤ℚ-parts, parts-≤ℚ, ≤ℚ-trans, equal_refl}
use Rattle.rounding.proofs.Sterbenz.{half_minus, minus_half}
use Rattle.exact.proofs.Inequality.{minus_at_most, at_least_minus, lt_le, nlt_le}
use Rattle.sine.specs.Formula.{half_of, quarter_of, sign_of}
use Rattle.sine.specs.Exact.{halfℚ, quarterℚ}
use Rattle.floor.proofs.Turned.{Turned, compared, chosen}

half_equal : Equal (value half₃₂) (ratio 1 2)
unfolding value of_bits
half_equal = equal_refl (lit< tt)

quarter_equal : Equal (value quarter₃₂) (ratio 1 4)
unfolding value of_bits
quarter_equal = equal_refl (lit< tt)

half_fits : T (fits binary32 half₃₂)
unfolding fits of_bits
half_fits = tt

-- ---- to the half turn
to_half : (c : Float) (C : Fraction) (b : Bool) → (T b → C ≤ℚ ratio 1 2) → (T (not b) → ratio 1 2 ≤ℚ C) → Turned c C (ratio 1 1) → Turned (cond b c (c ⊖ half₃₂)) (cond b C (C -ℚ ratio 1 2)) (ratio 1 2)
to_half c C true u v h = record { holds = h.holds; is = h.is; above = h.above; below = u tt }
to_half c C false u v h =
    record {
      holds = sub-fits binary32 c half₃₂;
      is = minus_half binary32 c half₃₂ C h.holds half_fits h.is half_equal (v tt) h.below;
      above = at_least_minus C (ratio 1 2) (ratio 0 1) (lit< tt) (≤ℚ-trans (ratio 0 1 +ℚ ratio 1 2) (ratio 1 2) C (lit< tt) (le_z_yes tt) (v tt));
      below = minus_at_most C (ratio 1 2) (ratio 1 2) (lit< tt) (≤ℚ-trans C (ratio 1 1) (ratio 1 2 +ℚ ratio 1 2) (lit< tt) h.below (le_z_yes tt));
    }

pub half_turn : (c : Float) (C : Fraction) → Turned c C (ratio 1 1) → Turned (half_of c) (halfℚ C) (ratio 1 2)
unfolding half_of
half_turn c C h =
    chosen (λ (x : Float) (X : Fraction). Turned x X (ratio 1 2)) c half₃₂ h.is half_equal c (c ⊖ half₃₂) C (C -ℚ ratio 1 2)
    (to_half c C (ltℚ C (ratio 1 2)) (lt_le C (ratio 1 2)) (nlt_le C (ratio 1 2)) h)

-- ---- to the quarter turn
to_quarter : (a : Float) (A : Fraction) (b : Bool) → (T b → ratio 1 4 ≤ℚ A) → (T (not b) → A ≤ℚ ratio 1 4) → Turned a A (ratio 1 2) → Turned (cond b (half₃₂ ⊖ a) a) (cond b (ratio 1 2 -ℚ A) A) (ratio 1 4)
to_quarter a A false u v h = record { holds = h.holds; is = h.is; above = h.above; below = v tt }
to_quarter a A true u v h =
    record {
      holds = sub-fits binary32 half₃₂ a;
      is = half_minus binary32 half₃₂ a A half_fits h.holds half_equal h.is (u tt) h.below;
      above = at_least_minus (ratio 1 2) A (ratio 0 1) h.is.right (zero_plus A h.below);
      below = minus_at_most (ratio 1 2) A (ratio 1 4) h.is.right (quarter_plus A (u tt));
    }
  where
    zero_plus : (A : Fraction) → A ≤ℚ ratio 1 2 → ratio 0 1 +ℚ A ≤ℚ ratio 1 2
    zero_plus A h = parts-≤ℚ (ratio 0 1 +ℚ A) (ratio 1 2) (core (num⁺ A) (num⁻ A) A.den (num⁺ (ratio 0 1 +ℚ A)) (num⁻ (ratio 0 1 +ℚ A)) (sum_parts (ratio 0 1) A) (≤ℚ-parts A (ratio 1 2) h))
      where
        core : (P N D S R : ℕ) → S + (0 * D + N * 1) ≡ R + (0 * D + P * 1) → P * 2 + 0 * D ≤ 1 * D + N * 2 → S * 2 + 0 * (1 * D) ≤ 1 * (1 * D) + R * 2
        core P N D S R e h = omega arith

    quarter_plus : (A : Fraction) → ratio 1 4 ≤ℚ A → ratio 1 2 ≤ℚ ratio 1 4 +ℚ A
    quarter_plus A h = parts-≤ℚ (ratio 1 2) (ratio 1 4 +ℚ A) (core (num⁺ A) (num⁻ A) A.den (num⁺ (ratio 1 4 +ℚ A)) (num⁻ (ratio 1 4 +ℚ A)) (sum_parts (ratio 1 4) A) (≤ℚ-parts (ratio 1 4) A h))
      where
        core : (P N D S R : ℕ) → S + (0 * D + N * 4) ≡ R + (1 * D + P * 4) → 1 * D + N * 4 ≤ P * 4 + 0 * D → 1 * (4 * D) + R * 2 ≤ S * 2 + 0 * (4 * D)
        core P N D S R e h = omega arith

pub quarter_turn : (a : Float) (A : Fraction) → Turned a A (ratio 1 2) → Turned (quarter_of a) (quarterℚ A) (ratio 1 4)
unfolding quarter_of
quarter_turn a A h =
    chosen (λ (x : Float) (X : Fraction). Turned x X (ratio 1 4)) quarter₃₂ a quarter_equal h.is (half₃₂ ⊖ a) a (ratio 1 2 -ℚ A) A
    (to_quarter a A (ltℚ (ratio 1 4) A) (lt_le (ratio 1 4) A) (nlt_le (ratio 1 4) A) h)

-- ---- the sign of the half turn
pub half_sign : (c : Float) (C : Fraction) → Turned c C (ratio 1 1) → sign_of c ≡ cond (ltℚ C (ratio 1 2)) one₃₂ (neg one₃₂)
unfolding sign_of
half_sign c C h = ap (λ (b : Bool). cond b one₃₂ (neg one₃₂)) (compared c half₃₂ h.is half_equal)
