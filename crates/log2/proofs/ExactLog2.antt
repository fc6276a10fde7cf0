-- THE EXACT log2 OF NEAR NUMBERS from 1 up: arguments n / 2 ^ 24 apart, relatively, have results (4 n + 1) / 2 ^ 24 apart, for n up to 2 ^ 20. Their exponents are equal or
-- next to each other, and in both cases Log2Slope.antt bounds the series. Assumes nothing.
use mathlib.Core.Path.{◌≡◌, refl, sym, ap, subst, subst₂, ◌∙◌}
use mathlib.Core.Logic.{inl, inr}
use Prim.Native.Nat.{ℕ, zero, suc, ◌+◌, ◌-◌, ◌*◌, ◌/◌, ◌^◌, ◌≤◌, ◌<◌}
use native.Mathlib.Nat.{mul-pos, zero-lt-suc, mul-le-mul_right, le_of_mul-le-mul_right, mul-lt-mul_of_pos_right, lt_of_mul-lt-mul_right, le-div_iff_mul-le, div-lt_iff_lt-mul, pow-suc, le_of_lt}
use native.Mathlib.Omega.{arith}
use lib.IntN.{ℤ, pos, negsuc}
use lib.Dec.{lit<, lit≤}
use lib.Pow.{pow_pos}
use lib.Ieee.{size}
use lib.Ieee.Digits.{size-lt, size_reaches}
use Rattle.exact.specs.Fraction.{Fraction, Defined, ratio, whole, over, ◌+ℚ◌, ◌-ℚ◌, ◌≤ℚ◌}
use Rattle.exact.specs.Value.{Within, RelativelyWithin}
use Rattle.exact.proofs.Parts.{part⁺, part⁻, num⁺, num⁻, difference_parts}
use Rattle.exact.proofs.Order.{≤ℚ-parts, ≤ℚ-total, parts-≡ℤ, within_sym}
use Rattle.rounding.proofs.Relative.{relative_across, over_positive}
use Rattle.log2.specs.Exact.{log2_seriesℚ, log2_mantissaℚ, log2_at, log2ℚ}
use Rattle.math.proofs.Bits.{pow_less}
use Rattle.log2.proofs.Log2Error.{exact_log}
use Rattle.series.proofs.Nonnegative.{Quotient, fraction, quotient, natural, ◌⊞◌, ◌≼◌, ≼_refl, ≼_trans, ≼-within, ⊞-mono, ⊞-assoc'}
use Rattle.series.proofs.Neighbours.{same_or_next}
use Rattle.log2.proofs.Log2Slope.{series, third, step, far, series_is, series_grows, at, at_third, at_grows, at_near, sixteenth, Near, one_exponent, two_exponents}

-- ---- log2 AS A QUOTIENT: of N / D from 1 up, with the exponent x and K = D 2 ^ x, N is K + i and i is below K
record Exponent (N D : ℕ) : Type 0 where
  x : ℕ
  i : ℕ
  top : N ≡ D * 2 ^ x + i
  below : i < D * 2 ^ x

exponent : (N D : ℕ) → 0 < D → D ≤ N → Exponent N D
exponent N D d h =
    let q = N / D in
    let z = size q in
    let one : 1 ≤ q = (le-div_iff_mul-le d).1 (flat D N h) in
    let some : 0 < z = nonzero z q one (size-lt q) in
    let low : 2 ^ (z - 1) * D ≤ N = (le-div_iff_mul-le d).0 (size_reaches q (z - 1) (last z some)) in
    let high : N < 2 ^ z * D = (div-lt_iff_lt-mul d).0 (size-lt q) in
    let doubled : 2 ^ z ≡ 2 ^ (z - 1) * 2 = ap (λ (y : ℕ). 2 ^ y) (whole_of z some) ∙ pow-suc 2 (z - 1) in
    record {
      x = z - 1;
      i = N - D * 2 ^ (z - 1);
      top = added N D (2 ^ (z - 1)) low;
      below = under N D (2 ^ (z - 1)) (2 ^ z) doubled low high;
    }
  where
    flat : (D N : ℕ) → D ≤ N → 1 * D ≤ N
    flat D N h = omega arith

    nonzero : (z q : ℕ) → 1 ≤ q → q < 2 ^ z → 0 < z
    nonzero zero q h k = absurd (none q h k)
      where
        none : (q : ℕ) → 1 ≤ q → q < 1 → ⊥
        none q h k = omega arith
    nonzero (suc z) q h k = zero-lt-suc z

    last : (z : ℕ) → 0 < z → z - 1 < z
    last z h = omega arith

    whole_of : (z : ℕ) → 0 < z → z ≡ suc (z - 1)
    whole_of z h = omega arith

    added : (N D t : ℕ) → t * D ≤ N → N ≡ D * t + (N - D * t)
    added N D t h = omega arith

    under : (N D t s : ℕ) → s ≡ t * 2 → t * D ≤ N → N < s * D → N - D * t < D * t
    under N D t s e l h = omega (arith, ap (λ (y : ℕ). y * D) e)

-- u as the definition computes it, with a factor K above and below
loose : (N K i : ℕ) → 0 < K → Quotient
loose N K i k = quotient (i * (K * 1)) (K * 1 * (N * 1 * 1 + 1 * K)) (mul-pos (mul-pos k (zero-lt-suc 0)) (sum_pos (N * 1 * 1) K k))
  where
    sum_pos : (x K : ℕ) → 0 < K → 0 < x + 1 * K
    sum_pos x K k = omega arith

loose_below : (N K i : ℕ) (k : 0 < K) → N ≡ K + i → loose N K i k ≼ at K i k
unfolding loose at
loose_below N K i k h = record { le = core N K i h }
  where
    core : (N K i : ℕ) → N ≡ K + i → i * (K * 1) * (2 * K + i) ≤ i * (K * 1 * (N * 1 * 1 + 1 * K))
    core N K i h = omega (arith, ap (λ (z : ℕ). i * (K * z)) h)

loose_above : (N K i : ℕ) (k : 0 < K) → N ≡ K + i → at K i k ≼ loose N K i k
unfolding loose at
loose_above N K i k h = record { le = core N K i h }
  where
    core : (N K i : ℕ) → N ≡ K + i → i * (K * 1 * (N * 1 * 1 + 1 * K)) ≤ i * (K * 1) * (2 * K + i)
    core N K i h = omega (arith, ap (λ (z : ℕ). i * (K * z)) h)

mantissa_is : (N K i : ℕ) (k : 0 < K) → N ≡ K + i → log2_mantissaℚ (ratio (N * 1) K) ≡ fraction (series (loose N K i k))
unfolding log2_mantissaℚ loose
mantissa_is N K i k h =
    let m = ratio (N * 1) K in
    let n = N * 1 * 1 + 1 * K in
    let less_one : (m -ℚ whole (pos 1)) ≡ ratio i (K * 1) =
    ap (λ (z : ℤ). record { num = z; den = K * 1 }) (parts-≡ℤ (m -ℚ whole (pos 1)).num (pos i) (difference N K i (num⁺ (m -ℚ whole (pos 1))) (num⁻ (m -ℚ whole (pos 1))) h (difference_parts m (whole (pos 1))))) in
    ap (λ (y : Fraction). log2_seriesℚ (over y (pos n) (K * 1))) less_one ∙ ap log2_seriesℚ (over_positive (ratio i (K * 1)) n (K * 1) (mul-pos k (zero-lt-suc 0))) ∙ series_is (loose N K i k)
  where
    difference : (N K i X Y : ℕ) → N ≡ K + i → X + (0 * 1 + 1 * K) ≡ Y + (N * 1 * 1 + 0 * K) → X + 0 ≡ i + Y
    difference N K i X Y h e = omega arith

-- of a fraction from 1 up
record Logged (a : Fraction) : Type 0 where
  x : ℕ
  i : ℕ
  u : Quotient
  low : num⁻ a ≡ 0
  top : num⁺ a ≡ a.den * 2 ^ x + i
  below : i < a.den * 2 ^ x
  some : 0 < a.den * 2 ^ x
  is : log2ℚ a ≡ fraction (natural x ⊞ series u)
  u_below : u ≼ at (a.den * 2 ^ x) i some
  u_above : at (a.den * 2 ^ x) i some ≼ u

logged : (z : ℤ) (d : ℕ) → 0 < d → 1 * d + part⁻ z * 1 ≤ part⁺ z * 1 + 0 * d → Logged (record { num = z; den = d })
unfolding log2_at
logged (negsuc n) d p h = absurd (none n d h)
  where
    none : (n d : ℕ) → 1 * d + suc n * 1 ≤ 0 * 1 + 0 * d → ⊥
    none n d h = omega arith
logged (pos N) D p h =
    let f = exponent N D p (flat N D h) in
    let x = f.x in
    let i = f.i in
    let K = D * 2 ^ x in
    let some = mul-pos p (pow_pos x) in
    record {
      x = x;
      i = i;
      u = loose N K i some;
      low = refl;
      top = f.top;
      below = f.below;
      some = some;
      is = exact_log (pos N) D x p (least N D (2 ^ x) i f.top) (most N D (2 ^ x) i f.top f.below) ∙ ap (λ (y : Fraction). whole (pos x) +ℚ y) (mantissa_is N K i some f.top);
      u_below = loose_below N K i some f.top;
      u_above = loose_above N K i some f.top;
    }
  where
    flat : (N D : ℕ) → 1 * D + 0 * 1 ≤ N * 1 + 0 * D → D ≤ N
    flat N D h = omega arith

    least : (N D t i : ℕ) → N ≡ D * t + i → t * D + 0 ≤ N
    least N D t i h = omega arith

    most : (N D t i : ℕ) → N ≡ D * t + i → i < D * t → N < 2 * t * D + 0
    most N D t i h k = omega arith

-- ---- NEAR QUOTIENTS stay near: with a summand, and of equal size
near_plus : (c a b q : Quotient) → Near a b q → Near (c ⊞ a) (c ⊞ b) q
near_plus c a b q h = record { back = ≼_trans (⊞-mono (≼_refl c) h.back) (⊞-assoc' c b q); forth = ≼_trans (⊞-mono (≼_refl c) h.forth) (⊞-assoc' c a q) }

near_moved : {a a' b b' : Quotient} (q : Quotient) → a' ≼ a → a ≼ a' → b' ≼ b → b ≼ b' → Near a b q → Near a' b' q
near_moved q i i' j j' h = record { back = ≼_trans i (≼_trans h.back (⊞-mono j' (≼_refl q))); forth = ≼_trans j (≼_trans h.forth (⊞-mono i' (≼_refl q))) }

carried : (x : ℕ) (b : Quotient) → natural (suc x) ⊞ b ≼ natural x ⊞ (natural 1 ⊞ b)
carried x b = record { le = core x b.top b.base }
  where
    core : (x p d : ℕ) → (suc x * d + p * 1) * (1 * (1 * d)) ≤ (x * (1 * d) + (1 * d + p * 1) * 1) * (1 * d)
    core x p d = omega arith

carried' : (x : ℕ) (b : Quotient) → natural x ⊞ (natural 1 ⊞ b) ≼ natural (suc x) ⊞ b
carried' x b = record { le = core x b.top b.base }
  where
    core : (x p d : ℕ) → (x * (1 * d) + (1 * d + p * 1) * 1) * (1 * d) ≤ (suc x * d + p * 1) * (1 * (1 * d))
    core x p d = omega arith

-- ---- THE EXPONENTS of near numbers are x and x or x + 1
exponent_rises : (N D N' D' s t i j : ℕ) → 0 < D → 0 < D' → N ≡ D * s + i → N' ≡ D' * t + j → j < D' * t → N * D' ≤ N' * D → s < t * 2
exponent_rises N D N' D' s t i j d d' e f b h =
    lt_of_mul-lt-mul_right (D * D') (omega (arith, ap (λ (z : ℕ). z * D') e, ap (λ (z : ℕ). z * D) f, mul-lt-mul_of_pos_right b d))

exponent_stays : (N D N' D' s t i j : ℕ) → 0 < D → 0 < D' → N ≡ D * s + i → N' ≡ D' * t + j → i < D * s → 15 * (N' * D) ≤ 16 * (N * D') → t < s * 2 * 2
exponent_stays N D N' D' s t i j d d' e f b h =
    lt_of_mul-lt-mul_right (D * D') (omega (arith, ap (λ (z : ℕ). z * D') e, ap (λ (z : ℕ). z * D) f, mul-lt-mul_of_pos_right b d'))

-- ---- N / D ≤ N' / D' with N' / D' (1 - n / 2 ^ 24) ≤ N / D, under the powers of two s and t
same_power : (N D N' D' s t i j n w : ℕ) (k : 0 < D * s) (l : 0 < D' * t) → s ≡ t → N ≡ D * s + i → N' ≡ D' * t + j → j < D' * t → n + w ≡ 2 ^ 24 → 15 * n ≤ w
    → N * D' ≤ N' * D → N' * D * w ≤ N * D' * 2 ^ 24 → Near (series (at (D * s) i k)) (series (at (D' * t) j l)) (far n)
same_power N D N' D' s t i j n w k l r I J b z f h g =
    let K = D * s in
    let K' = D' * t in
    one_exponent (at K i k) (at K' j l) n
    (at_grows K i K' j k l (subst₂ (λ (M M' : ℕ). M * K' ≤ M' * K) I J (least N D N' D' s t r h)))
    (at_third K' j l (le_of_lt b))
    (at_near K i K' j n w k l z f (subst₂ (λ (M M' : ℕ). M' * K * w ≤ M * K' * 2 ^ 24) I J (most N D N' D' s t w (2 ^ 24) r g)))
  where
    least : (N D N' D' s t : ℕ) → s ≡ t → N * D' ≤ N' * D → N * (D' * t) ≤ N' * (D * s)
    least N D N' D' s t e h = omega (arith, mul-le-mul_right s h, ap (λ (y : ℕ). N * D' * y) e)

    most : (N D N' D' s t w Z : ℕ) → s ≡ t → N' * D * w ≤ N * D' * Z → N' * (D * s) * w ≤ N * (D' * t) * Z
    most N D N' D' s t w Z e h = omega (arith, mul-le-mul_right s h, ap (λ (y : ℕ). N * D' * Z * y) e)

third_at : third ≼ at 1 1 (zero-lt-suc 0)
unfolding at
third_at = record { le = lit≤ tt }

at_zero : at 1 0 (zero-lt-suc 0) ≼ quotient 0 2 (lit< tt)
unfolding at
at_zero = record { le = lit≤ tt }

-- t lies between N / D and N' / D'
next_power : (N D N' D' s t i j n w : ℕ) (k : 0 < D * s) (l : 0 < D' * t) → 0 < D → 0 < D' → t ≡ s * 2 → N ≡ D * s + i → N' ≡ D' * t + j → i < D * s → j < D' * t
    → n + w ≡ 2 ^ 24 → 15 * n ≤ w → N' * D * w ≤ N * D' * 2 ^ 24 → Near (series (at (D * s) i k)) (natural 1 ⊞ series (at (D' * t) j l)) (far n)
next_power N D N' D' s t i j n w k l d d' r I J a b z f g =
    let K = D * s in
    let K' = D' * t in
    two_exponents (at K i k) (at K' j l) n (at_third K i k (le_of_lt a)) (at_third K' j l (le_of_lt b))
    (≼_trans third_at (at_near K i 1 1 n w k (zero-lt-suc 0) z f (subst (λ (M : ℕ). (1 + 1) * K * w ≤ M * 1 * 2 ^ 24) I (until N D N' D' s t j w (2 ^ 24) d' r J g))))
    (≼_trans (at_near 1 0 K' j n w (zero-lt-suc 0) l z f (subst (λ (M : ℕ). M * 1 * w ≤ (1 + 0) * K' * 2 ^ 24) J (since N D N' D' s t i w (2 ^ 24) d r I a g)))
    (⊞-mono at_zero (≼_refl (step n))))
  where
    until : (N D N' D' s t j w Z : ℕ) → 0 < D' → t ≡ s * 2 → N' ≡ D' * t + j → N' * D * w ≤ N * D' * Z → (1 + 1) * (D * s) * w ≤ N * 1 * Z
    until N D N' D' s t j w Z d e f h = le_of_mul-le-mul_right (omega (arith, ap (λ (y : ℕ). y * (D * w)) f, ap (λ (y : ℕ). D' * (D * w) * y) e)) d

    since : (N D N' D' s t i w Z : ℕ) → 0 < D → t ≡ s * 2 → N ≡ D * s + i → i < D * s → N' * D * w ≤ N * D' * Z → N' * 1 * w ≤ (1 + 0) * (D' * t) * Z
    since N D N' D' s t i w Z d e f b h =
        le_of_mul-le-mul_right (omega (arith, ap (λ (y : ℕ). y * (D' * Z)) f, ap (λ (y : ℕ). D' * D * Z * y) e, mul-le-mul_right (D' * Z) (le_of_lt b))) d

-- ---- THE TWO LOGARITHMS, with their exponents
near_exponents : (x y : ℕ) (a b q : Quotient) → x < suc y → y < suc (suc x) → (x ≡ y → Near a b q) → (y ≡ suc x → Near a (natural 1 ⊞ b) q) → Near (natural x ⊞ a) (natural y ⊞ b) q
near_exponents x y a b q h k f g = elim (same_or_next h k) [ inl r ↦ same r | inr r ↦ next r ]
  where
    same : x ≡ y → Near (natural x ⊞ a) (natural y ⊞ b) q
    same r = subst (λ (z : ℕ). Near (natural x ⊞ a) (natural z ⊞ b) q) r (near_plus (natural x) a b q (f r))

    next : y ≡ suc x → Near (natural x ⊞ a) (natural y ⊞ b) q
    next r =
        let c = natural x ⊞ a in
        subst (λ (z : ℕ). Near c (natural z ⊞ b) q) (sym r) (near_moved q (≼_refl c) (≼_refl c) (carried x b) (carried' x b) (near_plus (natural x) a (natural 1 ⊞ b) q (g r)))

ordered : (a b : Fraction) (n w : ℕ) → n + w ≡ 2 ^ 24 → 15 * n ≤ w → Defined a → Defined b → Logged a → Logged b → num⁺ a * b.den ≤ num⁺ b * a.den
    → num⁺ b * a.den * w ≤ num⁺ a * b.den * 2 ^ 24 → Within (log2ℚ a) (log2ℚ b) (ratio (4 * n + 1) (2 ^ 24))
ordered a b n w z f A B p q h g =
    let N = num⁺ a in
    let D = a.den in
    let N' = num⁺ b in
    let D' = b.den in
    let x = p.x in
    let y = q.x in
    let s = 2 ^ x in
    let t = 2 ^ y in
    let i = p.i in
    let j = q.i in
    let rises = pow_less x (suc y) (subst (λ (o : ℕ). s < o) (sym (pow-suc 2 y)) (exponent_rises N D N' D' s t i j A B p.top q.top q.below h)) in
    let stays = pow_less y (suc (suc x)) (subst (λ (o : ℕ). t < o) (sym (pow-suc 2 (suc x) ∙ ap (λ (o : ℕ). o * 2) (pow-suc 2 x)))
    (exponent_stays N D N' D' s t i j A B p.top q.top p.below (sixteenth (N' * D) (N * D') n w z f g))) in
    let tight = near_exponents x y (series (at (D * s) i p.some)) (series (at (D' * t) j q.some)) (far n) rises stays
    (λ r. same_power N D N' D' s t i j n w p.some q.some (ap (λ (o : ℕ). 2 ^ o) r) p.top q.top q.below z f h g)
    (λ r. next_power N D N' D' s t i j n w p.some q.some A B (ap (λ (o : ℕ). 2 ^ o) r ∙ pow-suc 2 x) p.top q.top p.below q.below z f g) in
    let near = near_moved (far n) (⊞-mono (≼_refl (natural x)) (series_grows p.u_below)) (⊞-mono (≼_refl (natural x)) (series_grows p.u_above))
    (⊞-mono (≼_refl (natural y)) (series_grows q.u_below)) (⊞-mono (≼_refl (natural y)) (series_grows q.u_above)) tight in
    subst₂ (λ (l m : Fraction). Within l m (ratio (4 * n + 1) (2 ^ 24))) (sym p.is) (sym q.is)
    (≼-within (natural x ⊞ series p.u) (natural y ⊞ series q.u) (far n) near.back near.forth)

-- THE THEOREM
pub log2_near : (a b : Fraction) (n : ℕ) → n ≤ 2 ^ 20 → ratio 1 1 ≤ℚ a → ratio 1 1 ≤ℚ b → RelativelyWithin a b (ratio n (2 ^ 24)) → Within (log2ℚ a) (log2ℚ b) (ratio (4 * n + 1) (2 ^ 24))
log2_near a b n l i j h =
    let p = logged a.num a.den h.left (≤ℚ-parts (ratio 1 1) a i) in
    let q = logged b.num b.den h.right (≤ℚ-parts (ratio 1 1) b j) in
    let w = 2 ^ 24 - n in
    let c = relative_across a b n (2 ^ 24) h in
    elim (≤ℚ-total a b) [
      | inl k ↦ let r = plain (num⁺ a) (num⁻ a) a.den (num⁺ b) (num⁻ b) b.den p.low q.low (≤ℚ-parts a b k) in
          ordered a b n w (adds n l) (fifteen n l) h.left h.right p q r (first (num⁺ a) (num⁻ a) a.den (num⁺ b) (num⁻ b) b.den n w (2 ^ 24) (adds n l) p.low q.low c.ge)
      | inr k ↦ let r = plain (num⁺ b) (num⁻ b) b.den (num⁺ a) (num⁻ a) a.den q.low p.low (≤ℚ-parts b a k) in
          within_sym (ordered b a n w (adds n l) (fifteen n l) h.right h.left q p r (second (num⁺ a) (num⁻ a) a.den (num⁺ b) (num⁻ b) b.den n w (2 ^ 24) (adds n l) p.low q.low r c.le))
    ]
  where
    adds : (n : ℕ) → n ≤ 2 ^ 20 → n + (2 ^ 24 - n) ≡ 2 ^ 24
    adds n h = omega arith

    fifteen : (n : ℕ) → n ≤ 2 ^ 20 → 15 * n ≤ 2 ^ 24 - n
    fifteen n h = omega arith

    plain : (p n d P N D : ℕ) → n ≡ 0 → N ≡ 0 → p * D + N * d ≤ P * d + n * D → p * D ≤ P * d
    plain p n d P N D e f h = omega (arith, ap (λ (y : ℕ). y * D) e)

    first : (p n d P N D m w Z : ℕ) → m + w ≡ Z → n ≡ 0 → N ≡ 0 → (n * D + P * d) * Z ≤ (p * D + N * d) * Z + m * (P + N) * d → P * d * w ≤ p * D * Z
    first p n d P N D m w Z s e f h = omega (arith, ap (λ (y : ℕ). P * d * y) s, ap (λ (y : ℕ). y * (d * Z)) f, ap (λ (y : ℕ). m * y * d) f)

    second : (p n d P N D m w Z : ℕ) → m + w ≡ Z → n ≡ 0 → N ≡ 0 → P * d ≤ p * D → (p * D + N * d) * Z ≤ (n * D + P * d) * Z + m * (P + N) * d → p * D * w ≤ P * d * Z
    second p n d P N D m w Z s e f l h = omega (arith, ap (λ (y : ℕ). p * D * y) s, ap (λ (y : ℕ). y * (D * Z)) e, ap (λ (y : ℕ). m * y * d) f, mul-le-mul_right m l)
