-- THE FRACTIONAL PART LOSES NOTHING: x - ⌊x⌋ is exact for any x of the format that is not negative, whatever float holds ⌊x⌋, since the difference is a
-- multiple of the unit of x and at most x. For a small negative x the difference x + 1 may need more digits than the format keeps; for one from -1 on
-- that is a multiple of 2 ^ -prec f it does not, and is exact too. Assumes nothing.
use mathlib.Core.Path.{◌≡◌, refl, sym, ap, subst, subst₂, ◌∙◌}
use mathlib.Core.Bool.{Bool, true, false, not}
use Prim.Native.Nat.{ℕ, suc, ◌+◌, ◌-◌, ◌*◌, ◌/◌, ◌%◌, ◌^◌, ◌≤◌, ◌<◌}
use native.Mathlib.Nat.{le_trans, le_of_lt, lt_of_le_of_lt, mul-pos, mul-le-mul_right, mul-lt-mul_of_pos_right, le_of_mul-le-mul_right, lt_of_mul-lt-mul_right}
use native.Mathlib.Nat.{sub-le, div-add-mod', mod-lt, div-eq_of_lt}
use native.Mathlib.Omega.{arith}
use lib.IntN.{ℤ, pos, negsuc}
use lib.Dec.{T, leb, leb→le, nleb→lt, lit≤}
use lib.Pow.{pow_pos, pow-lt}
use lib.Ieee.{Float, Format, binary32, binary64, prec, emax, low, sub, fits}
use lib.Ieee.Scale.{finite, overflow}
use Rattle.exact.specs.Fraction.{Fraction, ratio, whole, negℚ, ◌-ℚ◌, ◌≤ℚ◌, floorℚ, floor_over}
use Rattle.exact.specs.Value.{value, Equal}
use Rattle.exact.proofs.Close.{Close}
use Rattle.exact.proofs.Parts.{part⁺, part⁻, neg⁺, neg⁻}
use Rattle.exact.proofs.Order.{≤ℚ-parts, equal⁺, equal⁻}
use Rattle.rounding.proofs.Operations.{Quanta}
use Rattle.rounding.proofs.Quanta.{HasQuanta, InFormat, in_format, quanta_value, value_quanta, quanta_of_equal, equal_quanta, nonnegative_quanta}
use Rattle.exact.proofs.Defined.{value_defined}
use Rattle.rounding.proofs.Sterbenz.{multiples_exact, nonnegative_exact, smaller_exact, difference_exact, power_split, finer_units}

-- ---- of x that is not negative
-- the floor z of a number of g quanta
record Floor (t : ℤ) (g U : ℕ) : Type 0 where
  z : ℕ
  is : t ≡ pos z
  low : z * U ≤ g
  high : g < z * U + U

floor_quanta : (t : ℤ) (d g U : ℕ) → 0 < d → 0 < U → 0 * d + part⁻ t * 1 ≤ part⁺ t * 1 + 0 * d → part⁺ t * U + 0 * d ≡ part⁻ t * U + g * d → Floor (floor_over t d) g U
floor_quanta (negsuc k) d g U D P h e = absurd (none k d h)
  where
    none : (k d : ℕ) → 0 * d + suc k * 1 ≤ 0 * 1 + 0 * d → ⊥
    none k d h = omega arith
floor_quanta (pos k) d g U D P h e =
    record {
      z = k / d;
      is = refl;
      low = lower k d g (k / d) (k % d) D e (div-add-mod' k d);
      high = upper k d g (k / d) (k % d) P e (div-add-mod' k d) (mod-lt k D);
    }
  where
    lower : (k d g z r : ℕ) → 0 < d → k * U + 0 * d ≡ 0 * U + g * d → z * d + r ≡ k → z * U ≤ g
    lower k d g z r D e i = le_of_mul-le-mul_right (omega (arith, ap (λ (y : ℕ). y * U) i)) D

    upper : (k d g z r : ℕ) → 0 < U → k * U + 0 * d ≡ 0 * U + g * d → z * d + r ≡ k → r < d → g < z * U + U
    upper k d g z r P e i l = lt_of_mul-lt-mul_right d (omega (arith, ap (λ (y : ℕ). y * U) i, mul-lt-mul_of_pos_right l P))

floor_exact : (f : Format) (x y : Float) (w : InFormat f x) (P z : ℕ) → P ≡ w.significand * 2 ^ w.shift → z * 2 ^ low f ≤ P → P < z * 2 ^ low f + 2 ^ low f
    → Quanta (2 ^ low f) x P 0 → Quanta (2 ^ low f) y (z * 2 ^ low f) 0 → Quanta (2 ^ low f) (sub f x y) (P + 0) (0 + z * 2 ^ low f)
floor_exact f x y w P z i l r h g = go (leb w.shift (low f)) (leb→le w.shift (low f)) (nleb→lt w.shift (low f))
  where
    c : ℕ
    c = w.significand

    j : ℕ
    j = w.shift

    same : (A z U P : ℕ) → 0 < U → P ≡ A * U → z * U ≤ P → P < z * U + U → Close A z 0
    same A z U P Q e l r =
        let a : z ≤ A = le_of_mul-le-mul_right (omega arith) Q in
        let b : A < suc z = lt_of_mul-lt-mul_right U (omega arith) in
        omega arith

    go : (t : Bool) → (T t → j ≤ low f) → (T (not t) → low f < j) → Quanta (2 ^ low f) (sub f x y) (P + 0) (0 + z * 2 ^ low f)
    go true s t =
        let B = z * 2 ^ (low f - j) in
        let e : z * 2 ^ low f ≡ B * 2 ^ j = finer_units z j (low f) (s tt) in
        smaller_exact f x y c B P (z * 2 ^ low f) j i e h g l w.digits w.range
    go false s t =
        let A = c * 2 ^ (j - low f) in
        let e : P ≡ A * 2 ^ low f = i ∙ finer_units c (low f) j (le_of_lt (t tt)) in
        nonnegative_exact f x y A z P (z * 2 ^ low f) (low f) 0 e refl h g (same A z (2 ^ low f) P (pow_pos (low f)) e l r) (pow_pos (prec f))
        (nothing (2 ^ low f) (overflow f) (pow_pos (low f + suc (emax f))))
      where
        nothing : (u v : ℕ) → 0 < v → 0 * u < v
        nothing u v h = omega arith

pub fract_exact : (f : Format) (x y : Float) → T (fits f x) → T (finite x) → whole (pos 0) ≤ℚ value x → Equal (value y) (whole (floorℚ (value x)))
    → Equal (value (sub f x y)) (value x -ℚ whole (floorℚ (value x)))
fract_exact f x y fx tx h e =
    let U = 2 ^ low f in
    let w = in_format f x fx tx in
    let P = w.significand * 2 ^ w.shift in
    let qx = nonnegative_quanta f x w h in
    let vx = quanta_value U x P 0 qx in
    let t = floor_quanta (value x).num (value x).den P U ((value_defined x).1 tx) (pow_pos (low f)) (≤ℚ-parts (whole (pos 0)) (value x) h) vx in
    let vy : HasQuanta U (whole (floorℚ (value x))) (t.z * U) 0 = subst (λ (s : ℤ). HasQuanta U (whole s) (t.z * U) 0) (sym t.is) (flat t.z U) in
    difference_exact f x y (value x) (whole (floorℚ (value x))) P 0 (t.z * U) 0 ((value_defined x).1 tx) e.right vx vy
    (floor_exact f x y w P t.z refl t.low t.high qx (quanta_of_equal U y (whole (floorℚ (value x))) (t.z * U) 0 e vy))
  where
    flat : (z U : ℕ) → z * U + 0 * 1 ≡ 0 * U + z * U * 1
    flat z U = omega arith

-- ---- of x from -1 to below 0 that is a multiple of 2 ^ -prec f: its floor is -1
prec_le_low : (f : Format) → prec f ≤ low f
prec_le_low binary32 = lit≤ tt
prec_le_low binary64 = lit≤ tt

pub floor_negative : (a : Fraction) (k d : ℕ) → 0 < k → k ≤ d → Equal a (negℚ (ratio k d)) → floorℚ a ≡ negsuc 0
floor_negative a k d K l e = go a.num a.den e.left (equal⁺ e ∙ ap (λ (z : ℕ). z * a.den) (neg⁺ (pos k))) (equal⁻ e ∙ ap (λ (z : ℕ). z * a.den) (neg⁻ (pos k)))
  where
    none : (n c : ℕ) → 0 < c → 0 * d ≡ k * c → ⊥
    none n c C h = omega (arith, mul-pos K C)

    first : (n c : ℕ) → suc n * d ≡ k * c → n < c
    first n c h = le_of_mul-le-mul_right {m = suc n} {n = c} (omega (arith, mul-le-mul_right c l)) e.right

    go : (t : ℤ) (c : ℕ) → 0 < c → part⁺ t * d ≡ 0 * c → part⁻ t * d ≡ k * c → floor_over t c ≡ negsuc 0
    go (pos n) c C h i = absurd (none n c C i)
    go (negsuc n) c C h i = ap negsuc (div-eq_of_lt (first n c i))

pub minus_one_exact : (f : Format) (x y : Float) (k : ℕ) → 0 < k → k ≤ 2 ^ prec f → Equal (value x) (negℚ (ratio k (2 ^ prec f))) → Equal (value y) (whole (negsuc 0))
    → Equal (value (sub f x y)) (value x -ℚ whole (negsuc 0))
minus_one_exact f x y k K l e g =
    let U = 2 ^ low f in
    let Q = 2 ^ prec f in
    let j = low f - prec f in
    let u = 2 ^ j in
    let p : U ≡ u * Q = power_split (prec f) (low f) (prec_le_low f) in
    let vx : HasQuanta U (value x) (0 * u) (k * u) =
    equal_quanta U (value x) (negℚ (ratio k Q)) (0 * u) (k * u) e
    (subst₂ (λ (P N : ℕ). P * U + k * u * Q ≡ N * U + 0 * u * Q) (sym (neg⁺ (pos k))) (sym (neg⁻ (pos k))) (left U u Q p)) in
    let vy : HasQuanta U (whole (negsuc 0)) (0 * u) (Q * u) = right U u Q p in
    difference_exact f x y (value x) (whole (negsuc 0)) (0 * u) (k * u) (0 * u) (Q * u) e.left g.right vx vy
    (multiples_exact f x y 0 k 0 Q j (Q - k) (value_quanta U x (0 * u) (k * u) e.left vx) (quanta_of_equal U y (whole (negsuc 0)) (0 * u) (Q * u) g vy) (close Q l) (small Q l)
    (lt_of_le_of_lt (inside Q u U p) (pow-lt (up_to (low f) (emax f)))))
  where
    left : (U u Q : ℕ) → U ≡ u * Q → 0 * U + k * u * Q ≡ k * U + 0 * u * Q
    left U u Q e = omega (arith, ap (λ (z : ℕ). k * z) e)

    right : (U u Q : ℕ) → U ≡ u * Q → 0 * U + Q * u * 1 ≡ 1 * U + 0 * u * 1
    right U u Q e = omega arith

    close : (Q : ℕ) → k ≤ Q → Close (0 + Q) (k + 0) (Q - k)
    close Q l = omega arith

    small : (Q : ℕ) → k ≤ Q → Q - k < Q
    small Q l = omega arith

    inside : (Q u U : ℕ) → U ≡ u * Q → (Q - k) * u ≤ U
    inside Q u U e = le_trans (mul-le-mul_right u (sub-le Q k)) (omega arith)

    up_to : (l e : ℕ) → l < l + suc e
    up_to l e = omega arith

pub fract_exact_negative : (f : Format) (x y : Float) (k : ℕ) → 0 < k → k ≤ 2 ^ prec f → Equal (value x) (negℚ (ratio k (2 ^ prec f)))
    → Equal (value y) (whole (floorℚ (value x))) → Equal (value (sub f x y)) (value x -ℚ whole (floorℚ (value x)))
fract_exact_negative f x y k K l e =
    subst (λ (z : ℤ). Equal (value y) (whole z) → Equal (value (sub f x y)) (value x -ℚ whole z)) (sym (floor_negative (value x) k (2 ^ prec f) K l e)) (minus_one_exact f x y k K l e)
