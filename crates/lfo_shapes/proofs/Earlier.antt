-- THE CYCLE BEFORE: p ⊖ 1 lies in the cycle before that of p, for every phase up to 2 ^ 24, so that its sample is the one before. From 1/2 on the difference is
-- exact. Below that, and in the walk, it is rounded, but not out of its cycle; except for one position of the walk, -2 ^ -24, where p ⊖ 1 is rounded to -1.
-- Assumes nothing.
use mathlib.Core.Path.{◌≡◌, refl, sym, ap, subst, subst₂, ◌∙◌}
use mathlib.Core.Logic.{◌⊎◌, inl, inr}
use mathlib.Core.Bool.{Bool, true, false, not}
use Prim.Native.Nat.{ℕ, zero, suc, ◌+◌, ◌-◌, ◌*◌, ◌/◌, ◌^◌, ◌≤◌, ◌<◌}
use native.Mathlib.Nat.{mul-pos, lt_irrefl, le_of_lt, mul-le-mul_right, mul-lt-mul_of_pos_right, le_of_mul-le-mul_right, lt_of_mul-lt-mul_right}
use native.Mathlib.Omega.{arith}
use lib.IntN.{ℤ, pos, negsuc, ◌-ℤ◌}
use lib.Dec.{T, leb, leb→le, nleb→lt, lit<, lit≤}
use lib.ListN.{get_or}
use lib.Pow.{pow_pos}
use lib.Ieee.{Float, nan, inf, fin, binary32, up, down, of_bits, round, sum, neg, add, sub, le, fits}
use lib.Ieee.Fits.{down_pos, sub-fits}
use lib.Ieee.Order.{round_mono}
use lib.Ieee.Scale.{finite, grid, round_same, round_under}
use borrow.Author.Tests.{lt-ltb, le-ltb}
use Rattle.exact.specs.Fraction.{Fraction, Defined, ratio, whole, negℚ, floor_over, floorℚ, ◌-ℚ◌, ◌≤ℚ◌}
use Rattle.exact.specs.Value.{value, Equal}
use Rattle.exact.specs.Binary32.{◌⊖◌, half₃₂, one₃₂}
use Rattle.exact.proofs.Parts.{part⁺, part⁻, num⁺, num⁻, neg⁺, neg⁻}
use Rattle.exact.proofs.Defined.{value_defined}
use Rattle.exact.proofs.Order.{≤ℚ-parts, parts-≤ℚ, ≤ℚ-trans, ≤ℚ-total, equal_sym, equal_at_most, le_value, between_finite, equal⁻}
use Rattle.exact.proofs.Close.{Close}
use Rattle.rounding.proofs.Rounding.{round_value}
use Rattle.rounding.proofs.Operations.{Quanta}
use Rattle.rounding.proofs.Quanta.{in_format, nonnegative_quanta, quanta_value}
use Rattle.rounding.proofs.Sterbenz.{nonnegative_exact, finer_units, difference_exact}
use Rattle.rounding.proofs.Fract.{floor_negative}
use Rattle.floor.proofs.Phase.{Phase, from_zero, walked}
use Rattle.lfo_shapes.specs.Formula.{samples, sampled_of}
use Rattle.lfo_shapes.specs.Exact.{remainder}
use Rattle.exact.proofs.FloorUnique.{floor_unique, floor_equal, floor_less_one}
use Rattle.lfo_shapes.proofs.Scaling.{has_value}
use Rattle.lfo_shapes.proofs.Cycles.{Cycle, natural_cycle, before_zero, sampled_is}

-- ---- from 1/2 to 2 ^ 24 nothing is rounded
one_quanta : Quanta (2 ^ 149) one₃₂ (1 * 2 ^ 149) 0
unfolding of_bits
one_quanta = refl

module _ (p : Float) (f : T (fits binary32 p)) (t : T (finite p)) (low : ratio 1 2 ≤ℚ value p) (high : value p ≤ℚ ratio 16777216 1) where
  half_least : (P N D Q U : ℕ) → 0 < D → P * U + 0 * D ≡ N * U + Q * D → 1 * D + N * 2 ≤ P * 2 + 0 * D → U ≤ 2 * Q
  half_least P N D Q U d e h = le_of_mul-le-mul_right (omega (arith, mul-le-mul_right U h)) d

  at_most : (P N D Q U : ℕ) → 0 < D → P * U + 0 * D ≡ N * U + Q * D → P * 1 + 0 * D ≤ 16777216 * D + N * 1 → Q ≤ 16777216 * U
  at_most P N D Q U d e h = le_of_mul-le-mul_right (omega (arith, mul-le-mul_right U h)) d

  finer : (k B u U P : ℕ) → 0 < u → P ≡ k * u → U ≡ B * u → U ≤ 2 * P → Close k B k
  finer k B u U P v i j h = let b : B ≤ 2 * k = le_of_mul-le-mul_right (omega arith) v in omega arith

  coarser : (A U P : ℕ) → 0 < U → P ≡ A * U → U ≤ 2 * P → P ≤ 16777216 * U → Close A 1 (A - 1) × A - 1 < 16777216
  coarser A U P v i h l =
      let a : 1 ≤ 2 * A = le_of_mul-le-mul_right (omega arith) v in
      let b : A ≤ 16777216 = le_of_mul-le-mul_right (omega arith) v in
      (omega arith, omega arith)

  large : (c M : ℕ) → c < 16777216 → 16777216 ≤ M → c < M
  large c M h l = omega arith

  unit : (U : ℕ) → 1 * U + 0 * 1 ≡ 0 * U + 1 * U * 1
  unit U = omega arith

  exactly : Equal (value (p ⊖ one₃₂)) (value p -ℚ whole (pos 1))
  exactly =
      let U = 2 ^ 149 in
      let w = in_format binary32 p f t in
      let k = w.significand in
      let j = w.shift in
      let P = k * 2 ^ j in
      let q = nonnegative_quanta binary32 p w (≤ℚ-trans (ratio 0 1) (ratio 1 2) (value p) (lit< tt) (parts-≤ℚ (ratio 0 1) (ratio 1 2) (lit≤ tt)) low) in
      let v = quanta_value U p P 0 q in
      let d = (value_defined p).1 t in
      let l = half_least (num⁺ (value p)) (num⁻ (value p)) (value p).den P U d v (≤ℚ-parts (ratio 1 2) (value p) low) in
      let h = at_most (num⁺ (value p)) (num⁻ (value p)) (value p).den P U d v (≤ℚ-parts (value p) (ratio 16777216 1) high) in
      difference_exact binary32 p one₃₂ (value p) (whole (pos 1)) P 0 (1 * U) 0 d (lit< tt) v (unit U)
      (go k j q w.digits w.range l h (leb j 149) (leb→le j 149) (nleb→lt j 149))
    where
      go : (k j : ℕ) → Quanta (2 ^ 149) p (k * 2 ^ j) 0 → k < 2 ^ 24 → k * 2 ^ j < 2 ^ 277 → 2 ^ 149 ≤ 2 * (k * 2 ^ j) → k * 2 ^ j ≤ 16777216 * 2 ^ 149
          → (b : Bool) → (T b → j ≤ 149) → (T (not b) → 149 < j) → Quanta (2 ^ 149) (p ⊖ one₃₂) (k * 2 ^ j + 0) (0 + 1 * 2 ^ 149)
      go k j q d r l h true s t =
          let B = 1 * 2 ^ (149 - j) in
          let e : 1 * 2 ^ 149 ≡ B * 2 ^ j = finer_units 1 j 149 (s tt) in
          nonnegative_exact binary32 p one₃₂ k B (k * 2 ^ j) (1 * 2 ^ 149) j k refl e q one_quanta (finer k B (2 ^ j) (1 * 2 ^ 149) (k * 2 ^ j) (pow_pos j) refl e l) d r
      go k j q d r l h false s t =
          let A = k * 2 ^ (j - 149) in
          let e : k * 2 ^ j ≡ A * 2 ^ 149 = finer_units k 149 j (le_of_lt (t tt)) in
          let c = coarser A (2 ^ 149) (k * 2 ^ j) (pow_pos 149) e l h in
          let m : (A - 1) * 2 ^ 149 < 2 ^ 128 * 2 ^ 149 = mul-lt-mul_of_pos_right (large (A - 1) (2 ^ 128) c.1 (lit≤ tt)) (pow_pos 149) in
          nonnegative_exact binary32 p one₃₂ A 1 (k * 2 ^ j) (1 * 2 ^ 149) 149 (A - 1) e refl q one_quanta c.0 c.1 m

-- ---- a rounded number below 0, between two floats
neg_le : (a b : Fraction) → a ≤ℚ b → negℚ b ≤ℚ negℚ a
neg_le a b h = parts-≤ℚ (negℚ b) (negℚ a) (rw (neg⁺ b.num, neg⁻ b.num, neg⁺ a.num, neg⁻ a.num) (go (num⁺ a) (num⁻ a) a.den (num⁺ b) (num⁻ b) b.den (≤ℚ-parts a b h)))
  where
    go : (P N D Q M E : ℕ) → P * E + M * D ≤ Q * D + N * E → M * D + P * E ≤ N * E + Q * D
    go P N D Q M E h = omega arith

record Between (x : Float) (A B : Fraction) : Type 0 where
  defined : Defined (value x)
  from : A ≤ℚ value x
  to : value x ≤ℚ B

rounded : (a c : ℕ) (l h : Float) → 0 < c → T (finite l) → T (finite h) → T (le l (round binary32 false a c)) → T (le (round binary32 false a c) h)
    → Between (round binary32 true a c) (negℚ (value h)) (negℚ (value l))
rounded a c l h C tl th i j =
    let x = round binary32 false a c in
    let y = round binary32 true a c in
    let U = 2 ^ 149 in
    let g = grid binary32 a c in
    let t = between_finite l x h tl th i j in
    let u = round_under binary32 a c t in
    let ex = has_value x false g U (pow_pos 149) (round_value binary32 false a c u) in
    let ey = has_value y true g U (pow_pos 149) (round_value binary32 true a c u) in
    let lo = ≤ℚ-trans (value l) (value x) (ratio g U) ex.left ((le_value l x tl t).0 i) (equal_at_most ex).le in
    let hi = ≤ℚ-trans (ratio g U) (value x) (value h) ex.left (equal_at_most (equal_sym ex)).le ((le_value x h t th).0 j) in
    record {
      defined = ey.left;
      from = ≤ℚ-trans (negℚ (value h)) (negℚ (ratio g U)) (value y) ey.right (neg_le (ratio g U) (value h) hi) (equal_at_most (equal_sym ey)).le;
      to = ≤ℚ-trans (value y) (negℚ (ratio g U)) (negℚ (value l)) ey.right (equal_at_most ey).le (neg_le (value l) (ratio g U) lo);
    }

-- its floor, from -(n + 1) to below -n
floor_below : (R : Fraction) (n x y : ℕ) → 0 < y → n * y < x → Defined R → negℚ (ratio (suc n) 1) ≤ℚ R → R ≤ℚ negℚ (ratio x y) → floorℚ R ≡ negsuc n
floor_below R n x y Y l d h k =
    floor_unique R (negsuc n) d
    (record {
      low = least (num⁺ R) (num⁻ R) R.den (≤ℚ-parts (negℚ (ratio (suc n) 1)) R h);
      high = most (num⁺ R) (num⁻ R) R.den d (subst₂ (λ (a b : ℕ). num⁺ R * y + b * R.den ≤ a * R.den + num⁻ R * y) (neg⁺ (pos x)) (neg⁻ (pos x)) (≤ℚ-parts R (negℚ (ratio x y)) k));
    })
  where
    least : (P N D : ℕ) → 0 * D + N * 1 ≤ P * 1 + suc n * D → 0 * D + N ≤ P + suc n * D
    least P N D h = omega arith

    most : (P N D : ℕ) → 0 < D → P * y + x * D ≤ 0 * D + N * y → P + suc n * D < 0 * D + D + N
    most P N D d h = let r : P + n * D < N = lt_of_mul-lt-mul_right y (omega (arith, mul-lt-mul_of_pos_right l d)) in omega arith

-- ---- from 0 to 1/2: from -1 to -1/2
minus_is : (m : ℕ) (e : ℤ) → 2 * (m * up e) ≤ down e → fin false m e ⊖ one₃₂ ≡ round binary32 true (1 * 1 * down e - m * up e * 1) (down e * 1)
unfolding sub add neg of_bits sum
minus_is m e h = simp (lt-ltb (m * up e * 1) (1 * 1 * down e) (less (m * up e) (down e) (down_pos e) h))
  where
    less : (n d : ℕ) → 0 < d → 2 * n ≤ d → n * 1 < 1 * 1 * d
    less n d D h = omega arith

plus_is : (m : ℕ) (e : ℤ) → fin true m e ⊖ one₃₂ ≡ round binary32 true (m * up e * 1 + 1 * 1 * down e) (down e * 1)
unfolding sub add neg of_bits sum
plus_is m e = refl

unit_between : (a c : ℕ) → 0 < c → c ≤ 2 * a → a ≤ c → Between (round binary32 true a c) (negℚ (ratio 1 1)) (negℚ (ratio 1 2))
unfolding value round
unit_between a c C l h = rounded a c (round binary32 false 1 2) (round binary32 false 1 1) C tt tt (round_mono binary32 1 2 a c (lit< tt) C (left a c l)) (round_mono binary32 a c 1 1 C (lit< tt) (right a c h))
  where
    left : (a c : ℕ) → c ≤ 2 * a → 1 * c ≤ a * 2
    left a c h = omega arith

    right : (a c : ℕ) → a ≤ c → a * 1 ≤ 1 * c
    right a c h = omega arith

first_half : (p : Float) → T (finite p) → ratio 0 1 ≤ℚ value p → value p ≤ℚ ratio 1 2 → Between (p ⊖ one₃₂) (negℚ (ratio 1 1)) (negℚ (ratio 1 2))
first_half nan t l h = absurd t
first_half (inf s) t l h = absurd t
first_half (fin false m e) t l h =
    let n = m * up e in
    let d = down e in
    let b = twice n d (unfold value in ≤ℚ-parts (value (fin false m e)) (ratio 1 2) h) in
    subst (λ (x : Float). Between x (negℚ (ratio 1 1)) (negℚ (ratio 1 2))) (sym (minus_is m e b))
    (unit_between (1 * 1 * d - n * 1) (d * 1) (mul-pos (down_pos e) (lit< tt)) (least n d b) (most n d))
  where
    twice : (n d : ℕ) → n * 2 + 0 * d ≤ 1 * d + 0 * 2 → 2 * n ≤ d
    twice n d h = omega arith

    least : (n d : ℕ) → 2 * n ≤ d → d * 1 ≤ 2 * (1 * 1 * d - n * 1)
    least n d h = omega arith

    most : (n d : ℕ) → 1 * 1 * d - n * 1 ≤ d * 1
    most n d = omega arith
first_half (fin true m e) t l h =
    let n = m * up e in
    let d = down e in
    let b = none n d (unfold value in subst₂ (λ (p q : ℕ). 0 * d + q * 1 ≤ p * 1 + 0 * d) (neg⁺ (pos n)) (neg⁻ (pos n)) (≤ℚ-parts (ratio 0 1) (value (fin true m e)) l)) in
    subst (λ (x : Float). Between x (negℚ (ratio 1 1)) (negℚ (ratio 1 2))) (sym (plus_is m e))
    (unit_between (n * 1 + 1 * 1 * d) (d * 1) (mul-pos (down_pos e) (lit< tt)) (least n d b) (most n d b))
  where
    none : (n d : ℕ) → 0 * d + n * 1 ≤ 0 * 1 + 0 * d → n ≡ 0
    none n d h = omega arith

    least : (n d : ℕ) → n ≡ 0 → d * 1 ≤ 2 * (n * 1 + 1 * 1 * d)
    least n d h = omega arith

    most : (n d : ℕ) → n ≡ 0 → n * 1 + 1 * 1 * d ≤ d * 1
    most n d h = omega arith

-- ---- the walk's positions: -k / 2 ^ 24 less 1
walk_is : (p : Float) (k : ℕ) → 0 < k → Equal (value p) (negℚ (ratio k 16777216)) → p ⊖ one₃₂ ≡ round binary32 true (k + 16777216) 16777216
walk_is nan k K e = absurd ((value_defined nan).0 e.left)
walk_is (inf s) k K e = absurd ((value_defined (inf s)).0 e.left)
walk_is (fin false m e) k K g = absurd (none (m * up e) (down e) (mul-pos K (down_pos e)) (unfold value in subst (λ (b : ℕ). 0 * 16777216 ≡ b * down e) (neg⁻ (pos k)) (equal⁻ g)))
  where
    none : (n d : ℕ) → 0 < k * d → 0 * 16777216 ≡ k * d → ⊥
    none n d h i = omega arith
walk_is (fin true m e) k K g =
    plus_is m e
    ∙ round_same binary32 true (m * up e * 1 + 1 * 1 * down e) (down e * 1) (k + 16777216) 16777216 (mul-pos (down_pos e) (lit< tt)) (lit< tt)
    (across (m * up e) (down e) (unfold value in subst₂ (λ (a b : ℕ). a * 16777216 ≡ b * down e) (neg⁻ (pos (m * up e))) (neg⁻ (pos k)) (equal⁻ g)))
  where
    across : (n d : ℕ) → n * 16777216 ≡ k * d → (n * 1 + 1 * 1 * d) * 16777216 ≡ (k + 16777216) * (d * 1)
    across n d h = omega arith

-- from -2 to below -1, for k from 2 up
walk_between : (k : ℕ) → 2 ≤ k → k ≤ 16777216 → Between (round binary32 true (k + 16777216) 16777216) (negℚ (ratio 2 1)) (negℚ (ratio 8388609 8388608))
unfolding value round
walk_between k l h =
    rounded (k + 16777216) 16777216 (round binary32 false 16777218 16777216) (round binary32 false 2 1) (lit< tt) tt tt
    (round_mono binary32 16777218 16777216 (k + 16777216) 16777216 (lit< tt) (lit< tt) (left k l)) (round_mono binary32 (k + 16777216) 16777216 2 1 (lit< tt) (lit< tt) (right k h))
  where
    left : (k : ℕ) → 2 ≤ k → 16777218 * 16777216 ≤ (k + 16777216) * 16777216
    left k h = omega arith

    right : (k : ℕ) → k ≤ 16777216 → (k + 16777216) * 1 ≤ 2 * 16777216
    right k h = omega arith

tie_is : floorℚ (value (round binary32 true 16777217 16777216)) ≡ negsuc 0
unfolding value round
tie_is = refl

-- ---- THE EARLIER SAMPLE
pub data Previous (p : Float) : Type 0 where
  regular : sampled_of (p ⊖ one₃₂) ≡ get_or samples (remainder (floorℚ (value p) -ℤ pos 1)) half₃₂ → Previous p
  tie : sampled_of (p ⊖ one₃₂) ≡ get_or samples (remainder (negsuc 0)) half₃₂ → Equal (value p) (negℚ (ratio 1 16777216)) → Previous p

-- the floor of what is not negative
data Natural (z : ℤ) : Type 0 where
  natural : (n : ℕ) → z ≡ pos n → Natural z

floor_natural : (a : Fraction) → ratio 0 1 ≤ℚ a → Natural (floorℚ a)
floor_natural a h = go a.num a.den (≤ℚ-parts (ratio 0 1) a h)
  where
    go : (n : ℤ) (d : ℕ) → 0 * d + part⁻ n * 1 ≤ part⁺ n * 1 + 0 * d → Natural (floor_over n d)
    go (pos n) d h = natural (n / d) refl
    go (negsuc n) d h = absurd (none n d h)
      where
        none : (n d : ℕ) → 0 * d + suc n * 1 ≤ 0 * 1 + 0 * d → ⊥
        none n d h = omega arith

less_cycle : (z y : ℤ) → Natural z → y ≡ z -ℤ pos 1 → Cycle y
less_cycle z y (natural zero e) h = before_zero 0 (lit≤ tt) (h ∙ ap (λ (x : ℤ). x -ℤ pos 1) e)
less_cycle z y (natural (suc n) e) h = natural_cycle n (h ∙ ap (λ (x : ℤ). x -ℤ pos 1) e ∙ one_less n)
  where
    one_less : (q : ℕ) → pos (suc q) -ℤ pos 1 ≡ pos q
    one_less q =
        let h : 1 ≤ suc q = omega arith in
        let e : suc q - 1 ≡ q = omega arith in
        simp (le-ltb (suc q) 1 h, e)

sample_at : (p : Float) (z : ℤ) → T (finite (p ⊖ one₃₂)) → floorℚ (value (p ⊖ one₃₂)) ≡ z → Cycle z → sampled_of (p ⊖ one₃₂) ≡ get_or samples (remainder z) half₃₂
sample_at p z t e c = subst (λ (y : ℤ). sampled_of (p ⊖ one₃₂) ≡ get_or samples (remainder y) half₃₂) e (sampled_is (p ⊖ one₃₂) (sub-fits binary32 p one₃₂) t (subst Cycle (sym e) c))

pub previous : (p : Float) → T (fits binary32 p) → Phase p → value p ≤ℚ ratio 16777216 1 → Previous p
previous p f (from_zero t h) l = go (≤ℚ-total (value p) (ratio 1 2))
  where
    d : Defined (value p)
    d = (value_defined p).1 t

    least : (P N D : ℕ) → 0 * D + N * 1 ≤ P * 1 + 0 * D → 0 * D + N ≤ P + 0 * D
    least P N D h = omega arith

    most : (P N D : ℕ) → 0 < D → P * 2 + 0 * D ≤ 1 * D + N * 2 → P + 0 * D < 0 * D + D + N
    most P N D d h = omega arith

    go : (value p ≤ℚ ratio 1 2) ⊎ (ratio 1 2 ≤ℚ value p) → Previous p
    go (inl u) =
        let b = first_half p t h u in
        let e = floor_below (value (p ⊖ one₃₂)) 0 1 2 (lit< tt) (lit< tt) b.defined b.from b.to in
        let z : floorℚ (value p) ≡ pos 0 = floor_unique (value p) (pos 0) d (record { low = least (num⁺ (value p)) (num⁻ (value p)) (value p).den (≤ℚ-parts (ratio 0 1) (value p) h); high = most (num⁺ (value p)) (num⁻ (value p)) (value p).den d (≤ℚ-parts (value p) (ratio 1 2) u) }) in
        regular
        (subst (λ (y : ℤ). sampled_of (p ⊖ one₃₂) ≡ get_or samples (remainder (y -ℤ pos 1)) half₃₂) (sym z) (sample_at p (negsuc 0) ((value_defined (p ⊖ one₃₂)).0 b.defined) e (before_zero 0 (lit≤ tt) refl)))
    go (inr u) =
        let x = exactly p f t u l in
        let e = floor_equal x ∙ floor_less_one (value p) d in
        regular (sample_at p (floorℚ (value p) -ℤ pos 1) ((value_defined (p ⊖ one₃₂)).0 x.left) e (less_cycle (floorℚ (value p)) (floorℚ (value p) -ℤ pos 1) (floor_natural (value p) h) refl))
previous p f (walked zero K h e) l = absurd (lt_irrefl 0 K)
previous p f (walked (suc zero) K h e) l =
    let i = walk_is p 1 (lit< tt) e in
    let x : floorℚ (value (p ⊖ one₃₂)) ≡ negsuc 0 = ap (λ (y : Float). floorℚ (value y)) i ∙ tie_is in
    tie (sample_at p (negsuc 0) (subst (λ (y : Float). T (finite y)) (sym i) (unfold round in tt)) x (before_zero 0 (lit≤ tt) refl)) e
previous p f (walked (suc (suc k)) K h e) l =
    let i = walk_is p (suc (suc k)) K e in
    let b = walk_between (suc (suc k)) (two k) h in
    let r = round binary32 true (suc (suc k) + 16777216) 16777216 in
    let x : floorℚ (value (p ⊖ one₃₂)) ≡ negsuc 1 = ap (λ (y : Float). floorℚ (value y)) i ∙ floor_below (value r) 1 8388609 8388608 (lit< tt) (lit< tt) b.defined b.from b.to in
    let z = floor_negative (value p) (suc (suc k)) (2 ^ 24) K h e in
    regular
    (subst (λ (y : ℤ). sampled_of (p ⊖ one₃₂) ≡ get_or samples (remainder (y -ℤ pos 1)) half₃₂) (sym z)
    (sample_at p (negsuc 1) (subst (λ (y : Float). T (finite y)) (sym i) ((value_defined r).0 b.defined)) x (before_zero 1 (lit≤ tt) refl)))
  where
    two : (k : ℕ) → 2 ≤ suc (suc k)
    two k = omega arith

-- the cycle of a phase
pub floor_cycle : (p : Float) → Phase p → Cycle (floorℚ (value p))
floor_cycle p (from_zero t h) = elim (floor_natural (value p) h) [ natural n e ↦ natural_cycle n e ]
floor_cycle p (walked k K h e) = before_zero 0 (lit≤ tt) (floor_negative (value p) k (2 ^ 24) K h e)
