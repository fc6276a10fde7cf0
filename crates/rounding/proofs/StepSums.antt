-- THE ANALYSER'S STEPS, one by one: one rounding, sums, negation and products. Where the step's tests pass the float is finite, the exact value lies within the
-- step's bounds, and the two differ by at most its error. Assumes nothing.
use mathlib.Core.Path.{◌≡◌, sym, subst₂}
use mathlib.Core.Bool.{Bool, true, false, ◌&&◌}
use Prim.Native.Nat.{ℕ, suc, ◌+◌, ◌-◌, ◌*◌, ◌^◌, ◌≤◌, ◌<◌, max}
use native.Mathlib.Nat.{le_refl, mul-pos}
use native.Mathlib.Omega.{arith}
use lib.IntN.{ℤ, pos, ◌+ℤ◌, ◌*ℤ◌}
use lib.Signed.{le_z}
use lib.Dec.{T, leb, leb→le}
use lib.Pow.{pow_pos}
use lib.Ieee.{Float, Format, prec, emax, low, size, add, mul, neg}
use lib.Ieee.Fits.{and_l, and_r}
use Rattle.exact.specs.Fraction.{Fraction, Defined, negℚ, ◌+ℚ◌, ◌*ℚ◌}
use Rattle.exact.proofs.Close.{Close, flip}
use Rattle.exact.proofs.Parts.{part⁺, part⁻, num⁺, num⁻, neg⁺, neg⁻, add_parts, mul⁺, mul⁻, scale⁺, scale⁻, le_z_parts, sum_parts}
use Rattle.rounding.proofs.Operations.{NearParts, neg_quanta, add_near, mul_near}
use Rattle.rounding.proofs.Propagation.{Propagated, AtLeast, AtMost, ProductAtMost, rounded_near, sum_error, product_error, magnitude_close, float_size, sum_at_least, sum_at_most, product_at_least, product_at_most, least→most, most→least}
use Rattle.rounding.proofs.Analyser.{Bound, Analysis, Approximates, Lower, Upper, Near, magnitude, fits_binade, rounding_of, plus_of, negated_of, times_of, encloses, times_ok}

-- ---- tests
pub both : (a b : Bool) → T (a && b) → T a × T b
both a b t = (and_l a b t, and_r a b t)

pub three : (a b c : Bool) → T (a && b && c) → T a × T b × T c
three true true c t = (tt, tt, t)
three true false c t = absurd t
three false b c t = absurd t

-- the bounds' size
pub inside_lo : (l h : ℤ) → part⁻ l ≤ part⁺ l + magnitude l h
inside_lo l h = le (part⁺ l) (part⁻ l) (part⁺ h)
  where
    le : (p n z : ℕ) → n ≤ p + max n z
    le p n z = omega arith

pub inside_hi : (l h : ℤ) → part⁺ h ≤ part⁻ h + magnitude l h
inside_hi l h = le (part⁺ h) (part⁻ h) (part⁻ l)
  where
    le : (p n z : ℕ) → p ≤ n + max z p
    le p n z = omega arith

-- the exact value is no larger than its bounds' size
pub sized : (U : ℕ) (A : Fraction) (l h : ℤ) → Lower U A l → Upper U A h → Close (num⁺ A * U) (num⁻ A * U) (magnitude l h * A.den)
sized U A l h a b = magnitude_close U (num⁺ A) (num⁻ A) A.den (part⁺ l) (part⁻ l) (part⁺ h) (part⁻ h) (magnitude l h) a b (inside_lo l h) (inside_hi l h)

-- ---- ONE ROUNDING
pub rounding_sound : (f : Format) (g : Bool) (l h : ℤ) (t : ℕ) (z : Float) (C : Fraction) (p n W : ℕ) → T (rounding_of f g l h t).ok → 0 < W → Defined C
    → ((M k : ℕ) → Close p n M → M * 2 ^ low f ≤ 2 ^ (prec f + suc k) * W → prec f + suc k ≤ low f + emax f → NearParts (2 ^ low f) z p n W (2 ^ k))
    → Propagated (2 ^ low f) p n W (num⁺ C) (num⁻ C) C.den t → Lower (2 ^ low f) C l → Upper (2 ^ low f) C h → Approximates f z C (rounding_of f g l h t).bound
unfolding rounding_of
rounding_sound f g l h t z C p n W ok w d op pr a b =
    let m = magnitude l h + t in
    let k = size (m - 1) - suc (prec f) in
    let s = and_r g (fits_binade f m k) ok in
    let i = leb→le m (2 ^ (prec f + suc k)) (and_l (leb m (2 ^ (prec f + suc k))) _ s) in
    let j = leb→le (prec f + suc k) (low f + emax f) (and_r (leb m (2 ^ (prec f + suc k))) _ s) in
    record {
      defined = d;
      near = rounded_near f z p n W (num⁺ C) (num⁻ C) C.den (magnitude l h) t k (t + 2 ^ k) w d (λ M u v. op M k u v j) pr (sized (2 ^ low f) C l h a b) i (le_refl (t + 2 ^ k));
      lower = a;
      upper = b;
    }

pub rounding_guard : (f : Format) (g : Bool) (l h : ℤ) (t : ℕ) → T (rounding_of f g l h t).ok → T g
unfolding rounding_of
rounding_guard f g l h t ok = let m = magnitude l h + t in and_l g (fits_binade f m (size (m - 1) - suc (prec f))) ok

-- ---- SUMS
pub plus_sound : (f : Format) (x y : Float) (A B : Fraction) (a b : Analysis) → Approximates f x A a.bound → Approximates f y B b.bound → T (plus_of f a b).ok
    → Approximates f (add f x y) (A +ℚ B) (plus_of f a b).bound
unfolding plus_of
plus_sound f x y A B a b h k ok =
    let U = 2 ^ low f in
    let r = h.near in
    let s = k.near in
    let u = a.bound in
    let v = b.bound in
    let e = sum_parts A B in
    rounding_sound f (a.ok && b.ok) (u.lo +ℤ v.lo) (u.hi +ℤ v.hi) (u.err + v.err) (add f x y) (A +ℚ B) (r.plus + s.plus) (r.minus + s.minus) U ok (pow_pos (low f))
    (mul-pos h.defined k.defined) (λ M j w l q. add_near f x y r.plus r.minus s.plus s.minus M j r.quanta s.quanta w l q)
    (sum_error U r.plus r.minus (num⁺ A) (num⁻ A) A.den u.err s.plus s.minus (num⁺ B) (num⁻ B) B.den v.err (num⁺ (A +ℚ B)) (num⁻ (A +ℚ B)) r.close s.close e)
    (sum_at_least U (num⁺ A) (num⁻ A) A.den (num⁺ B) (num⁻ B) B.den (num⁺ (A +ℚ B)) (num⁻ (A +ℚ B)) (part⁺ u.lo) (part⁻ u.lo) (part⁺ v.lo) (part⁻ v.lo)
    (part⁺ (u.lo +ℤ v.lo)) (part⁻ (u.lo +ℤ v.lo)) h.lower k.lower e (same (add_parts u.lo v.lo)))
    (sum_at_most U (num⁺ A) (num⁻ A) A.den (num⁺ B) (num⁻ B) B.den (num⁺ (A +ℚ B)) (num⁻ (A +ℚ B)) (part⁺ u.hi) (part⁻ u.hi) (part⁺ v.hi) (part⁻ v.hi)
    (part⁺ (u.hi +ℤ v.hi)) (part⁻ (u.hi +ℤ v.hi)) h.upper k.upper e (same (sym (add_parts u.hi v.hi))))
  where
    same : {x y : ℕ} → x ≡ y → x ≤ y
    same {x} {y} e = omega arith

pub plus_guard : (f : Format) (a b : Analysis) → T (plus_of f a b).ok → T a.ok × T b.ok
unfolding plus_of
plus_guard f a b ok = both a.ok b.ok (rounding_guard f (a.ok && b.ok) (a.bound.lo +ℤ b.bound.lo) (a.bound.hi +ℤ b.bound.hi) (a.bound.err + b.bound.err) ok)

-- ---- NEGATION
pub near_neg : (U : ℕ) (x : Float) (p n W r : ℕ) → NearParts U x p n W r → NearParts U (neg x) n p W r
near_neg U x p n W r h = record { plus = h.minus; minus = h.plus; quanta = neg_quanta U x h.plus h.minus h.quanta; close = flip h.close }

pub negated_sound : (f : Format) (x : Float) (A : Fraction) (a : Analysis) → Approximates f x A a.bound → Approximates f (neg x) (negℚ A) (negated_of a).bound
unfolding negated_of
negated_sound f x A a h =
    let U = 2 ^ low f in
    let u = a.bound in
    record {
      defined = h.defined;
      near = rw (neg⁺ A.num, neg⁻ A.num) (near_neg U x (num⁺ A) (num⁻ A) A.den u.err h.near);
      lower = rw (neg⁺ A.num, neg⁻ A.num, neg⁺ u.hi, neg⁻ u.hi) (most→least U (num⁺ A) (num⁻ A) A.den (part⁺ u.hi) (part⁻ u.hi) h.upper);
      upper = rw (neg⁺ A.num, neg⁻ A.num, neg⁺ u.lo, neg⁻ u.lo) (least→most U (num⁺ A) (num⁻ A) A.den (part⁺ u.lo) (part⁻ u.lo) h.lower);
    }

-- ---- PRODUCTS
-- x y ≤ H U and L U ≤ x y, by parts
pub most : (U : ℕ) (x y H : ℤ) → T (le_z (x *ℤ y) (H *ℤ pos U)) → ProductAtMost (part⁺ y) (part⁻ y) (part⁺ x) (part⁻ x) (part⁺ H * U) (part⁻ H * U)
most U x y H t =
    core (part⁺ x) (part⁻ x) (part⁺ y) (part⁻ y) (part⁺ (x *ℤ y)) (part⁻ (x *ℤ y)) (part⁺ (H *ℤ pos U)) (part⁻ (H *ℤ pos U)) (part⁺ H * U) (part⁻ H * U)
    (mul⁺ x y) (mul⁻ x y) (scale⁺ H U) (scale⁻ H U) (le_z_parts (x *ℤ y) (H *ℤ pos U) t)
  where
    core : (p n q m c c' g g' G G' : ℕ) → c ≡ p * q + n * m → c' ≡ p * m + n * q → g ≡ G → g' ≡ G' → c + g' ≤ g + c' → ProductAtMost q m p n G G'
    core p n q m c c' g g' G G' i j k l h = omega arith

pub least : (U : ℕ) (x y L : ℤ) → T (le_z (L *ℤ pos U) (x *ℤ y)) → ProductAtMost (part⁺ y) (part⁻ y) (part⁻ x) (part⁺ x) (part⁻ L * U) (part⁺ L * U)
least U x y L t =
    core (part⁺ x) (part⁻ x) (part⁺ y) (part⁻ y) (part⁺ (x *ℤ y)) (part⁻ (x *ℤ y)) (part⁺ (L *ℤ pos U)) (part⁻ (L *ℤ pos U)) (part⁺ L * U) (part⁻ L * U)
    (mul⁺ x y) (mul⁻ x y) (scale⁺ L U) (scale⁻ L U) (le_z_parts (L *ℤ pos U) (x *ℤ y) t)
  where
    core : (p n q m c c' g g' G G' : ℕ) → c ≡ p * q + n * m → c' ≡ p * m + n * q → g ≡ G → g' ≡ G' → g + c' ≤ c + g' → ProductAtMost q m n p G' G
    core p n q m c c' g g' G G' i j k l h = omega arith

-- nothing is to be known of the numbers that `times_of` finds but that the tests passed
pub times_step : (f : Format) (g : Bool) (x y : Float) (A B : Fraction) (u v : Bound) (L H : ℤ) (t : ℕ) → Approximates f x A u → Approximates f y B v → T (times_ok (2 ^ low f) u v L H t)
    → T (rounding_of f g L H t).ok → Approximates f (mul f x y) (A *ℚ B) (rounding_of f g L H t).bound
times_step f g x y A B u v L H t h k ts ok =
    rounding_sound f g L H t (mul f x y) (A *ℚ B) x⁺ x⁻ (U * U) ok (mul-pos P P) (mul-pos h.defined k.defined)
    (λ M j i l o. mul_near f x y r.plus r.minus s.plus s.minus M j r.quanta s.quanta i l o)
    (parts (λ (X Y : ℕ). Propagated U x⁺ x⁻ (U * U) X Y (d * c) t) error) (parts (λ (X Y : ℕ). AtLeast U X Y (d * c) (part⁺ L) (part⁻ L)) lower) (parts (λ (X Y : ℕ). AtMost U X Y (d * c) (part⁺ H) (part⁻ H)) upper)
  where
    U : ℕ
    U = 2 ^ low f

    P : 0 < U
    P = pow_pos (low f)

    r : Near U x A u.err
    r = h.near

    s : Near U y B v.err
    s = k.near

    p : ℕ
    p = num⁺ A

    n : ℕ
    n = num⁻ A

    d : ℕ
    d = A.den

    q : ℕ
    q = num⁺ B

    m : ℕ
    m = num⁻ B

    c : ℕ
    c = B.den

    x⁺ : ℕ
    x⁺ = r.plus * s.plus + r.minus * s.minus

    x⁻ : ℕ
    x⁻ = r.plus * s.minus + r.minus * s.plus

    -- a fact of the product's parts, as one of the fraction's
    parts : (Q : ℕ → ℕ → Type 0) → Q (p * q + n * m) (p * m + n * q) → Q (num⁺ (A *ℚ B)) (num⁻ (A *ℚ B))
    parts Q z = subst₂ Q (sym (mul⁺ A.num B.num)) (sym (mul⁻ A.num B.num)) z

    t₁ : Bool
    t₁ = encloses U L H (u.lo *ℤ v.lo)

    t₂ : Bool
    t₂ = encloses U L H (u.lo *ℤ v.hi)

    t₃ : Bool
    t₃ = encloses U L H (u.hi *ℤ v.lo)

    t₄ : Bool
    t₄ = encloses U L H (u.hi *ℤ v.hi)

    w : T (t₁ && t₂) × T (t₃ && t₄) × T (leb ((magnitude u.lo u.hi + u.err) * v.err + u.err * magnitude v.lo v.hi) (t * U))
    w = three (t₁ && t₂) (t₃ && t₄) (leb ((magnitude u.lo u.hi + u.err) * v.err + u.err * magnitude v.lo v.hi) (t * U)) ts

    at_most : (a b : ℤ) → T (encloses U L H (a *ℤ b)) → ProductAtMost (part⁺ b) (part⁻ b) (part⁺ a) (part⁻ a) (part⁺ H * U) (part⁻ H * U)
    at_most a b e = most U a b H (and_r (le_z (L *ℤ pos U) (a *ℤ b)) (le_z (a *ℤ b) (H *ℤ pos U)) e)

    at_least : (a b : ℤ) → T (encloses U L H (a *ℤ b)) → ProductAtMost (part⁺ b) (part⁻ b) (part⁻ a) (part⁺ a) (part⁻ L * U) (part⁺ L * U)
    at_least a b e = least U a b L (and_l (le_z (L *ℤ pos U) (a *ℤ b)) (le_z (a *ℤ b) (H *ℤ pos U)) e)

    upper : AtMost U (p * q + n * m) (p * m + n * q) (d * c) (part⁺ H) (part⁻ H)
    upper =
        product_at_most U p n d (part⁺ u.lo) (part⁻ u.lo) (part⁺ u.hi) (part⁻ u.hi) q m c (part⁺ v.lo) (part⁻ v.lo) (part⁺ v.hi) (part⁻ v.hi) (part⁺ H) (part⁻ H) P
        h.lower h.upper k.lower k.upper (at_most u.lo v.lo (and_l t₁ t₂ w.0)) (at_most u.lo v.hi (and_r t₁ t₂ w.0))
        (at_most u.hi v.lo (and_l t₃ t₄ w.1)) (at_most u.hi v.hi (and_r t₃ t₄ w.1))

    lower : AtLeast U (p * q + n * m) (p * m + n * q) (d * c) (part⁺ L) (part⁻ L)
    lower =
        product_at_least U p n d (part⁺ u.lo) (part⁻ u.lo) (part⁺ u.hi) (part⁻ u.hi) q m c (part⁺ v.lo) (part⁻ v.lo) (part⁺ v.hi) (part⁻ v.hi) (part⁺ L) (part⁻ L) P
        h.lower h.upper k.lower k.upper (at_least u.hi v.lo (and_l t₃ t₄ w.1)) (at_least u.hi v.hi (and_r t₃ t₄ w.1))
        (at_least u.lo v.lo (and_l t₁ t₂ w.0)) (at_least u.lo v.hi (and_r t₁ t₂ w.0))

    error : Propagated U x⁺ x⁻ (U * U) (p * q + n * m) (p * m + n * q) (d * c) t
    error =
        product_error U r.plus r.minus p n d u.err s.plus s.minus q m c v.err (magnitude u.lo u.hi + u.err) (magnitude v.lo v.hi) t r.close s.close
        (float_size U r.plus r.minus p n d u.err (magnitude u.lo u.hi) h.defined r.close (sized U A u.lo u.hi h.lower h.upper))
        (sized U B v.lo v.hi k.lower k.upper) (leb→le ((magnitude u.lo u.hi + u.err) * v.err + u.err * magnitude v.lo v.hi) (t * U) w.2)

pub times_sound : (f : Format) (x y : Float) (A B : Fraction) (a b : Analysis) → Approximates f x A a.bound → Approximates f y B b.bound → T (times_of f a b).ok
    → Approximates f (mul f x y) (A *ℚ B) (times_of f a b).bound
unfolding times_of
times_sound f x y A B a b h k ok = times_step f _ x y A B a.bound b.bound _ _ _ h k (three a.ok b.ok _ (rounding_guard f _ _ _ _ ok)).2 ok

pub times_guard : (f : Format) (a b : Analysis) → T (times_of f a b).ok → T a.ok × T b.ok
unfolding times_of
times_guard f a b ok = let w = three a.ok b.ok _ (rounding_guard f _ _ _ _ ok) in (w.0, w.1)
