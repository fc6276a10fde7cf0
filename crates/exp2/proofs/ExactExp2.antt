-- THE EXACT exp2 OF NEAR NUMBERS: arguments n / 2 ^ 24 apart have results (2 n + 1) / 2 ^ 24 apart, relatively, for n up to 2 ^ 20. Their floors are equal or next to each
-- other, and in both cases Exp2Slope.antt bounds the series. Assumes nothing.
use mathlib.Core.Path.{◌≡◌, refl, sym, ap, subst₂, ◌∙◌}
use mathlib.Core.Logic.{inl, inr}
use mathlib.Core.List.{List}
use Prim.Native.Nat.{ℕ, suc, ◌+◌, ◌*◌, ◌^◌, ◌≤◌, ◌<◌}
use native.Mathlib.Nat.{mul-pos, zero-lt-suc, mul-le-mul_right, mul-lt-mul_of_pos_right, lt_of_mul-lt-mul_right, le_of_eq}
use native.Mathlib.Omega.{arith}
use lib.IntN.{ℤ, pos, negsuc}
use lib.Dec.{lit<}
use lib.Pow.{pow-add}
use lib.Ieee.{up, down}
use lib.Ieee.Fits.{down_pos}
use Rattle.exact.specs.Fraction.{Fraction, Defined, ratio, whole, power_of_two, floorℚ, ◌+ℚ◌, ◌*ℚ◌, ◌≤ℚ◌}
use Rattle.exact.specs.Value.{Within, RelativelyWithin}
use Rattle.exact.proofs.Parts.{part⁺, part⁻, num⁺, num⁻, sum_parts, difference_parts}
use Rattle.exact.proofs.Order.{≤ℚ-parts, ltℚ_parts, ≤ℚ-total, ≤-sum-parts}
use Rattle.exact.proofs.Close.{ring}
use Rattle.exact.proofs.Floor.{floor_above}
use Rattle.series.specs.Horner.{hornerℚ}
use Rattle.floor.specs.Exact.{fractℚ}
use Rattle.exp2.specs.Exact.{exp2_terms, exp2ℚ}
use Rattle.floor.proofs.Phase.{fract_above}
use Rattle.series.proofs.Nonnegative.{Quotient, fraction, quotient, natural, ◌⊞◌, ◌⊠◌, ◌≼◌, ≼_refl, ≼_trans, ⊠-mono, ⊠-comm, ⊠-assoc, ⊠-assoc', one_times, times_one, mutually}
use Rattle.series.proofs.Neighbours.{same_or_next}
use Rattle.series.proofs.PolynomialSlope.{value_fraction}
use Rattle.exp2.proofs.Exp2Slope.{series, S, slack, steep, series_terms, Mutually, one_floor, two_floors}

-- ---- FLOORS AND FRACTIONAL PARTS
-- what a has above its floor, r / D with r below D
record Parted (a : Fraction) : Type 0 where
  r : ℕ
  is : fractℚ a ≡ ratio r (a.den * 1)
  adds : r + (num⁻ a + part⁺ (floorℚ a) * a.den) ≡ num⁺ a + part⁻ (floorℚ a) * a.den
  below : r < a.den

parted_at : (a : Fraction) (z : ℤ) → (fractℚ a).num ≡ z → part⁻ z ≡ 0 → fractℚ a ≡ ratio (part⁺ z) (a.den * 1)
parted_at a (pos n) e h = ap (λ (y : ℤ). record { num = y; den = a.den * 1 }) e
parted_at a (negsuc n) e h = absurd (none n h)
  where
    none : (n : ℕ) → suc n ≡ 0 → ⊥
    none n h = omega arith

parted : (a : Fraction) → Defined a → Parted a
parted a d =
    let k = floorℚ a in
    let s = whole k +ℚ whole (pos 1) in
    let z = none (fractℚ a).num (a.den * 1) (≤ℚ-parts (ratio 0 1) (fractℚ a) (fract_above a d)) in
    let i = flat (num⁺ a) (num⁻ a) a.den (part⁺ k) (part⁻ k) (num⁺ (fractℚ a)) (num⁻ (fractℚ a)) z (difference_parts a (whole k)) in
    record {
      r = num⁺ (fractℚ a);
      is = parted_at a (fractℚ a).num refl z;
      adds = i;
      below = under (num⁺ a) (num⁻ a) a.den (part⁺ k) (part⁻ k) (num⁺ (fractℚ a)) (num⁺ s) (num⁻ s) i (sum_parts (whole k) (whole (pos 1))) (ltℚ_parts a s (floor_above a d));
    }
  where
    none : (z : ℤ) (D : ℕ) → 0 * D + part⁻ z * 1 ≤ part⁺ z * 1 + 0 * D → part⁻ z ≡ 0
    none (pos n) D h = refl
    none (negsuc n) D h = omega arith

    flat : (P N D p q r n : ℕ) → n ≡ 0 → r + (N * 1 + p * D) ≡ n + (P * 1 + q * D) → r + (N + p * D) ≡ P + q * D
    flat P N D p q r n z h = omega arith

    under : (P N D p q r X Y : ℕ) → r + (N + p * D) ≡ P + q * D → X + (q * 1 + 0 * 1) ≡ Y + (p * 1 + 1 * 1) → P * (1 * 1) + Y * D < X * D + N * (1 * 1) → r < D
    under P N D p q r X Y i j h = omega (arith, ap (λ (z : ℕ). z * D) j)

-- a ≤ b and b ≤ a + m / Z, in floors and parts
rises : (P N D p q r P' N' D' p' q' r' : ℕ) → r + (N + p * D) ≡ P + q * D → r' + (N' + p' * D') ≡ P' + q' * D' → P * D' + N' * D ≤ P' * D + N * D'
    → r * D' + (p + q') * (D * D') ≤ r' * D + (p' + q) * (D * D')
rises P N D p q r P' N' D' p' q' r' i j h = omega (arith, ap (λ (z : ℕ). z * D') i, ap (λ (z : ℕ). z * D) j)

stays : (P N D p q r P' N' D' p' q' r' m Z : ℕ) → r + (N + p * D) ≡ P + q * D → r' + (N' + p' * D') ≡ P' + q' * D'
    → P' * (D * Z) + (N * Z + 0 * D) * D' ≤ (P * Z + m * D) * D' + N' * (D * Z)
    → (r' * D + (p' + q) * (D * D')) * Z ≤ (r * D' + (p + q') * (D * D')) * Z + m * (D * D')
stays P N D p q r P' N' D' p' q' r' m Z i j h = simp ring (omega (arith, simp ring at h, simp ring at (ap (λ (z : ℕ). z * (D' * Z)) i), simp ring at (ap (λ (z : ℕ). z * (D * Z)) j)))

floor_rises : (D r D' r' A B : ℕ) → r' < D' → 0 < D → r * D' + A * (D * D') ≤ r' * D + B * (D * D') → A < suc B
floor_rises D r D' r' A B l d h = lt_of_mul-lt-mul_right (D * D') (omega (arith, mul-lt-mul_of_pos_right l d))

floor_stays : (D r D' r' A B m Z : ℕ) → r < D → 0 < D' → 0 < Z → m ≤ Z → (r' * D + B * (D * D')) * Z ≤ (r * D' + A * (D * D')) * Z + m * (D * D') → B < suc (suc A)
floor_stays D r D' r' A B m Z l d z k h =
    lt_of_mul-lt-mul_right (D * D' * Z) (omega (arith, mul-lt-mul_of_pos_right l (mul-pos d z), mul-le-mul_right (D * D') k))

-- 2 ^ l is 2 ^ k times 2 ^ i
up_power : (z : ℤ) → up z ≡ 2 ^ part⁺ z
up_power (pos k) = refl
up_power (negsuc k) = refl

down_power : (z : ℤ) → down z ≡ 2 ^ part⁻ z
down_power (pos k) = refl
down_power (negsuc k) = refl

abbrev power : ℤ → Quotient
power k = quotient (up k) (down k) (down_pos k)

power_step : (k l : ℤ) (i : ℕ) → part⁺ l + part⁻ k ≡ i + (part⁺ k + part⁻ l) → up l * (1 * down k) ≡ 2 ^ i * up k * down l
power_step k l i h =
    rw (up_power k, up_power l, down_power k, down_power l)
    (flat (2 ^ part⁺ l) (2 ^ part⁻ k) (2 ^ i) (2 ^ part⁺ k) (2 ^ part⁻ l) (sym (pow-add 2 (part⁺ l) (part⁻ k)) ∙ ap (λ (z : ℕ). 2 ^ z) h ∙ pow-add 2 i (part⁺ k + part⁻ l) ∙ ap (λ (z : ℕ). 2 ^ i * z) (pow-add 2 (part⁺ k) (part⁻ l))))
  where
    flat : (a b c d f : ℕ) → a * b ≡ c * (d * f) → a * (1 * b) ≡ c * d * f
    flat a b c d f h = omega arith

powers_below : (k l : ℤ) (i : ℕ) → part⁺ l + part⁻ k ≡ i + (part⁺ k + part⁻ l) → power l ≼ natural (2 ^ i) ⊠ power k
powers_below k l i h = record { le = le_of_eq (power_step k l i h) }

powers_above : (k l : ℤ) (i : ℕ) → part⁺ l + part⁻ k ≡ i + (part⁺ k + part⁻ l) → natural (2 ^ i) ⊠ power k ≼ power l
powers_above k l i h = record { le = le_of_eq (sym (power_step k l i h)) }

-- ---- exp2 as a quotient, and of near arguments
exp2_is : (a : Fraction) (x : Quotient) → fractℚ a ≡ fraction x → exp2ℚ a ≡ fraction (S x ⊠ power (floorℚ a))
unfolding exp2ℚ
exp2_is a x h =
    let t = power_of_two (floorℚ a) in
    ap (λ (y : Fraction). hornerℚ exp2_terms y *ℚ t) h ∙ ap (λ (cs : List Fraction). hornerℚ cs (fraction x) *ℚ t) series_terms ∙ ap (λ (y : Fraction). y *ℚ t) (value_fraction series x)

-- each is within q of the other
record Both (a b q : Fraction) : Type 0 where
  left : RelativelyWithin a b q
  right : RelativelyWithin b a q

scaled : (a b c d : Quotient) → a ≼ c ⊠ b → a ⊠ d ≼ c ⊠ (b ⊠ d)
scaled a b c d h = ≼_trans (⊠-mono h (≼_refl d)) (⊠-assoc c b d)

near_powers : (U W : Quotient) (k l : ℤ) (i n : ℕ) → n ≤ 2 ^ 20 → part⁺ l + part⁻ k ≡ i + (part⁺ k + part⁻ l) → Mutually U (natural (2 ^ i) ⊠ W) (quotient n (2 ^ 24) (lit< tt))
    → Both (fraction (U ⊠ power k)) (fraction (W ⊠ power l)) (ratio (2 * n + 1) (2 ^ 24))
near_powers U W k l i n b h m =
    let J = natural (2 ^ i) in
    let w = quotient n (2 ^ 24) (lit< tt) ⊠ steep in
    let q = quotient (2 * n + 1) (2 ^ 24) (lit< tt) in
    let back = ≼_trans (scaled U (J ⊠ W) (natural 1 ⊞ slack) (power k) m.back) (⊠-mono (≼_refl (natural 1 ⊞ slack)) (≼_trans (turn J W (power k)) (⊠-mono (≼_refl W) (powers_above k l i h)))) in
    let forth = ≼_trans (⊠-mono (≼_refl W) (powers_below k l i h)) (≼_trans (turn' W J (power k)) (scaled (J ⊠ W) U (natural 1 ⊞ w) (power k) m.forth)) in
    record {
      left = mutually (U ⊠ power k) (W ⊠ power l) slack w q back forth (record { le = least n }) (record { le = product n b });
      right = mutually (W ⊠ power l) (U ⊠ power k) w slack q forth back (record { le = alone n b }) (record { le = product' n b });
    }
  where
    turn : (a b c : Quotient) → a ⊠ b ⊠ c ≼ b ⊠ (a ⊠ c)
    turn a b c = ≼_trans (⊠-mono (⊠-comm a b) (≼_refl c)) (⊠-assoc b a c)

    turn' : (a b c : Quotient) → a ⊠ (b ⊠ c) ≼ b ⊠ a ⊠ c
    turn' a b c = ≼_trans (⊠-assoc' a b c) (⊠-mono (⊠-comm a b) (≼_refl c))

    least : (n : ℕ) → 1 * 2 ^ 24 ≤ (2 * n + 1) * 2 ^ 26
    least n = omega arith

    alone : (n : ℕ) → n ≤ 2 ^ 20 → n * (2 * (1 * 2 ^ 26 + 1 * 1)) * 2 ^ 24 ≤ (2 * n + 1) * (2 ^ 24 * (1 * (1 * 2 ^ 26)))
    alone n h = omega arith

    product : (n : ℕ) → n ≤ 2 ^ 20 → n * (2 * (1 * 2 ^ 26 + 1 * 1)) * (1 * 2 ^ 26 + 1 * 1) * 2 ^ 24 ≤ (2 * n + 1) * (2 ^ 24 * (1 * (1 * 2 ^ 26)) * (1 * 2 ^ 26))
    product n h = omega arith

    product' : (n : ℕ) → n ≤ 2 ^ 20
        → 1 * (1 * (2 ^ 24 * (1 * (1 * 2 ^ 26))) + n * (2 * (1 * 2 ^ 26 + 1 * 1)) * 1) * 2 ^ 24 ≤ (2 * n + 1) * (2 ^ 26 * (1 * (2 ^ 24 * (1 * (1 * 2 ^ 26)))))
    product' n h = omega arith

one_times_both : (U W d : Quotient) → Mutually U W d → Mutually U (natural (2 ^ 0) ⊠ W) d
one_times_both U W d m = record { back = ≼_trans m.back (⊠-mono (≼_refl (natural 1 ⊞ slack)) (≼_trans (times_one W) (⊠-comm W (natural 1)))); forth = ≼_trans (one_times W) m.forth }

-- the fractional parts r / D under the floor k and r' / D' under the floor l, where the floors' parts add up to A and B
near_floors : (k l : ℤ) (D r D' r' n : ℕ) (d : 0 < D * 1) (d' : 0 < D' * 1) → n ≤ 2 ^ 20 → 0 < D → 0 < D' → r < D → r' < D' → (A B : ℕ) → A ≡ part⁺ k + part⁻ l → B ≡ part⁺ l + part⁻ k
    → r * D' + A * (D * D') ≤ r' * D + B * (D * D') → (r' * D + B * (D * D')) * 2 ^ 24 ≤ (r * D' + A * (D * D')) * 2 ^ 24 + n * (D * D')
    → Both (fraction (S (quotient r (D * 1) d) ⊠ power k)) (fraction (S (quotient r' (D' * 1) d') ⊠ power l)) (ratio (2 * n + 1) (2 ^ 24))
near_floors k l D r D' r' n d d' m o o' b b' A B i j h g =
    elim (same_or_next (floor_rises D r D' r' A B b' o h) (floor_stays D r D' r' A B n (2 ^ 24) b o' (lit< tt) (fewer n m) g)) [ inl f ↦ same f | inr f ↦ next f ]
  where
    x : Quotient
    x = quotient r (D * 1) d

    y : Quotient
    y = quotient r' (D' * 1) d'

    step : Quotient
    step = quotient n (2 ^ 24) (lit< tt)

    fewer : (n : ℕ) → n ≤ 2 ^ 20 → n ≤ 2 ^ 24
    fewer n h = omega arith

    at_most_one : (r D : ℕ) → r < D → r * 1 ≤ 1 * (D * 1)
    at_most_one r D h = omega arith

    x_below : x ≼ natural 1
    x_below = record { le = at_most_one r D b }

    y_below : y ≼ natural 1
    y_below = record { le = at_most_one r' D' b' }

    same_le : (D r D' r' A B : ℕ) → A ≡ B → r * D' + A * (D * D') ≤ r' * D + B * (D * D') → r * (D' * 1) ≤ r' * (D * 1)
    same_le D r D' r' A B e h = omega (arith, ap (λ (z : ℕ). z * (D * D')) e)

    same_near : (D r D' r' A B m Z : ℕ) → A ≡ B → (r' * D + B * (D * D')) * Z ≤ (r * D' + A * (D * D')) * Z + m * (D * D') → r' * (D * 1 * Z) ≤ (r * Z + m * (D * 1)) * (D' * 1)
    same_near D r D' r' A B m Z e h = omega (arith, ap (λ (z : ℕ). z * (D * D' * Z)) e)

    next_near : (D r D' r' A B m Z : ℕ) → B ≡ suc A → (r' * D + B * (D * D')) * Z ≤ (r * D' + A * (D * D')) * Z + m * (D * D')
        → (1 * (D' * 1) + r' * 1) * (D * 1 * Z) ≤ (r * Z + m * (D * 1)) * (1 * (D' * 1))
    next_near D r D' r' A B m Z e h = omega (arith, ap (λ (z : ℕ). z * (D * D' * Z)) e)

    same : A ≡ B → Both (fraction (S x ⊠ power k)) (fraction (S y ⊠ power l)) (ratio (2 * n + 1) (2 ^ 24))
    same f =
        near_powers (S x) (S y) k l 0 n m (omega arith)
        (one_times_both (S x) (S y) step (one_floor x y step y_below (record { le = same_le D r D' r' A B f h }) (record { le = same_near D r D' r' A B n (2 ^ 24) f g })))

    next : B ≡ suc A → Both (fraction (S x ⊠ power k)) (fraction (S y ⊠ power l)) (ratio (2 * n + 1) (2 ^ 24))
    next f = near_powers (S x) (S y) k l 1 n m (omega arith) (two_floors x y step x_below y_below (record { le = next_near D r D' r' A B n (2 ^ 24) f g }))

-- a ≤ b
ordered : (a b : Fraction) (n : ℕ) → n ≤ 2 ^ 20 → Defined a → Defined b → a ≤ℚ b → b ≤ℚ a +ℚ ratio n (2 ^ 24) → Both (exp2ℚ a) (exp2ℚ b) (ratio (2 * n + 1) (2 ^ 24))
ordered a b n m A B h g =
    let k = floorℚ a in
    let l = floorℚ b in
    let u = parted a A in
    let v = parted b B in
    let d = mul-pos A (zero-lt-suc 0) in
    let d' = mul-pos B (zero-lt-suc 0) in
    let i = rises (num⁺ a) (num⁻ a) a.den (part⁺ k) (part⁻ k) u.r (num⁺ b) (num⁻ b) b.den (part⁺ l) (part⁻ l) v.r u.adds v.adds (≤ℚ-parts a b h) in
    let j = stays (num⁺ a) (num⁻ a) a.den (part⁺ k) (part⁻ k) u.r (num⁺ b) (num⁻ b) b.den (part⁺ l) (part⁻ l) v.r n (2 ^ 24) u.adds v.adds (≤-sum-parts b a (ratio n (2 ^ 24)) g) in
    subst₂ (λ (p q : Fraction). Both p q (ratio (2 * n + 1) (2 ^ 24))) (sym (exp2_is a (quotient u.r (a.den * 1) d) u.is)) (sym (exp2_is b (quotient v.r (b.den * 1) d') v.is))
    (near_floors k l a.den u.r b.den v.r n d d' m A B u.below v.below (part⁺ k + part⁻ l) (part⁺ l + part⁻ k) refl refl i j)

-- THE THEOREM
pub exp2_near : (a b : Fraction) (n : ℕ) → n ≤ 2 ^ 20 → Within a b (ratio n (2 ^ 24)) → RelativelyWithin (exp2ℚ a) (exp2ℚ b) (ratio (2 * n + 1) (2 ^ 24))
exp2_near a b n l h = elim (≤ℚ-total a b) [ inl i ↦ (ordered a b n l h.left h.right i h.above).left | inr i ↦ (ordered b a n l h.right h.left i h.below).right ]
