-- THE ANALYSER'S STEPS: quotients, with bounds brought along or worked from the operands'. The divisor's bounds rule out a divisor of 0 or below, in floats and
-- exactly. Assumes nothing.
use mathlib.Core.Path.{◌≡◌, sym, ap, subst, subst₂}
use mathlib.Core.Bool.{Bool, ◌&&◌}
use Prim.Native.Nat.{ℕ, zero, suc, ◌+◌, ◌-◌, ◌*◌, ◌^◌, ◌≤◌, ◌<◌}
use native.Mathlib.Nat.{mul-pos, zero-lt-suc, mul-le-mul_right, le_of_mul-le-mul_right}
use native.Mathlib.Omega.{arith}
use lib.IntN.{ℤ, pos, negsuc, ◌*ℤ◌}
use lib.Signed.{le_z}
use lib.Dec.{T, leb, ltb, leb→le, ltb→lt}
use lib.Pow.{pow_pos}
use lib.Ieee.{Float, Format, low, up, size, div}
use lib.Ieee.Fits.{and_l, and_r}
use Rattle.exact.specs.Fraction.{Fraction, over, ◌/ℚ◌}
use Rattle.exact.proofs.Close.{Close}
use Rattle.exact.proofs.Parts.{part⁺, part⁻, num⁺, num⁻, mul⁺, mul⁻, scale⁺, scale⁻, le_z_parts}
use Rattle.rounding.proofs.Operations.{Quanta, div_near}
use Rattle.rounding.proofs.Propagation.{Propagated, AtLeast, AtMost, ProductAtMost, quotient_error, quotient_at_least, quotient_at_most}
use Rattle.rounding.proofs.Analyser.{Bound, Analysis, Approximates, Lower, Upper, magnitude, rounding_of, divisor_ok, quotient_ok, quotient_of, over_ok, over_of, divisor_least, inherited, least_over, most_over}
use Rattle.rounding.proofs.StepSums.{three, sized, rounding_sound, rounding_guard}

-- ---- QUOTIENTS
-- the divisor's bounds rule out a divisor of 0 or below
pub not_negative : (U j c l l' e w : ℕ) → 0 < U → l' + e + w ≤ l → l * c + suc j * U ≤ 0 * U + l' * c → ⊥
not_negative U j c l l' e w P k h = omega (arith, mul-le-mul_right c k, mul-pos (zero-lt-suc j) P)

pub not_zero : (U c l l' e w : ℕ) → 0 < c → 0 < w → l' + e + w ≤ l → l * c + 0 * U ≤ 0 * U + l' * c → ⊥
not_zero U c l l' e w C W k h = omega (arith, mul-le-mul_right c k, mul-pos W C)

-- the divisor's float is y - y' quanta, at least w of them
pub at_least_w : (U y y' β c l l' e w : ℕ) → 0 < c → Close (y * c + 0 * U) (y' * c + β * U) (e * c) → l * c + 0 * U ≤ β * U + l' * c → l' + e + w ≤ l → y' + w ≤ y
at_least_w U y y' β c l l' e w C h k i = le_of_mul-le-mul_right (omega (arith, mul-le-mul_right c i)) C

pub record Rest (y y' w : ℕ) : Type 0 where
  pub is : y ≡ y' + (y - y')
  pub enough : w ≤ y - y'

pub rest : (y y' w : ℕ) → y' + w ≤ y → Rest y y' w
rest y y' w h = record { is = omega arith; enough = omega arith }

pub apart : (U y y' β c e W : ℕ) → y ≡ y' + W → Close (y * c + 0 * U) (y' * c + β * U) (e * c) → Close (W * c) (β * U) (e * c)
apart U y y' β c e W q h = omega (arith, ap (λ (z : ℕ). z * c) q)

pub grows : (r t w W : ℕ) → r ≤ t * w → w ≤ W → r ≤ t * W
grows r t w W h k = omega (arith, mul-le-mul_right t k)

pub positive : {w W : ℕ} → 0 < w → w ≤ W → 0 < W
positive {w} {W} a b = omega arith

pub quotient_step : (f : Format) (g : Bool) (x y : Float) (A : Fraction) (u v : Bound) (L H : ℤ) (w t : ℕ) (bn : ℤ) (bd : ℕ) → Approximates f x A u → Approximates f y (record { num = bn; den = bd }) v
    → Lower (2 ^ low f) (over A bn bd) L → Upper (2 ^ low f) (over A bn bd) H → T (quotient_ok (2 ^ low f) u v L H w t) → T (rounding_of f g L H t).ok
    → Approximates f (div f x y) (over A bn bd) (rounding_of f g L H t).bound
quotient_step f g x y A u v L H w t bn bd h k dn up ts ok = go bn bd k dn up
  where
    U : ℕ
    U = 2 ^ low f

    P : 0 < U
    P = pow_pos (low f)

    t₁ : Bool
    t₁ = ltb 0 w

    t₂ : Bool
    t₂ = leb (part⁻ v.lo + v.err + w) (part⁺ v.lo)

    t₃ : Bool
    t₃ = leb (u.err * U + magnitude L H * v.err) (t * w)

    w_pos : 0 < w
    w_pos = ltb→lt 0 w (and_l t₁ t₂ (and_l (t₁ && t₂) t₃ ts))

    room : part⁻ v.lo + v.err + w ≤ part⁺ v.lo
    room = leb→le (part⁻ v.lo + v.err + w) (part⁺ v.lo) (and_r t₁ t₂ (and_l (t₁ && t₂) t₃ ts))

    enough : u.err * U + magnitude L H * v.err ≤ t * w
    enough = leb→le (u.err * U + magnitude L H * v.err) (t * w) (and_r (t₁ && t₂) t₃ ts)

    none : 0 < 0 → ⊥
    none h = omega arith

    go : (bn : ℤ) (bd : ℕ) → Approximates f y (record { num = bn; den = bd }) v → Lower U (over A bn bd) L → Upper U (over A bn bd) H → Approximates f (div f x y) (over A bn bd) (rounding_of f g L H t).bound
    go bn zero k dn up = absurd (none k.defined)
    go (negsuc j) (suc c) k dn up = absurd (not_negative U j (suc c) (part⁺ v.lo) (part⁻ v.lo) v.err w P room k.lower)
    go (pos zero) (suc c) k dn up = absurd (not_zero U (suc c) (part⁺ v.lo) (part⁻ v.lo) v.err w k.defined w_pos room k.lower)
    go (pos (suc j)) (suc c) k dn up =
        let r = h.near in
        let s = k.near in
        let p = num⁺ A in
        let n = num⁻ A in
        let d = A.den in
        let β = suc j in
        let W = s.plus - s.minus in
        let eq = rest s.plus s.minus w (at_least_w U s.plus s.minus β (suc c) (part⁺ v.lo) (part⁻ v.lo) v.err w k.defined s.close k.lower room) in
        let hp : num⁺ (over A (pos β) (suc c)) ≡ p * suc c = scale⁺ A.num (suc c) in
        let hn : num⁻ (over A (pos β) (suc c)) ≡ n * suc c = scale⁻ A.num (suc c) in
        let size = sized U (over A (pos β) (suc c)) L H dn up in
        let error = quotient_error U r.plus r.minus p n d u.err W β (suc c) v.err (magnitude L H) t k.defined r.close
        (apart U s.plus s.minus β (suc c) v.err W eq.is s.close) (subst₂ (λ (X Y : ℕ). Close (X * U) (Y * U) (magnitude L H * (d * β))) hp hn size)
        (grows (u.err * U + magnitude L H * v.err) t w W enough eq.enough) in
        rounding_sound f g L H t (div f x y) (over A (pos β) (suc c)) r.plus r.minus W ok (positive w_pos eq.enough) (mul-pos h.defined (zero-lt-suc j))
        (λ M i a l o. div_near f x y r.plus r.minus s.minus W M i (positive w_pos eq.enough) r.quanta (subst (λ (z : ℕ). Quanta U y z s.minus) eq.is s.quanta) a l o)
        (subst₂ (λ (X Y : ℕ). Propagated U r.plus r.minus W X Y (d * β) t) (sym hp) (sym hn) error) dn up

pub quotient_tests : (f : Format) (g : Bool) (L H : ℤ) (a b : Analysis) → T (quotient_of f g L H a b).ok → T a.ok × T b.ok × T g
unfolding quotient_of
quotient_tests f g L H a b ok = let w = three a.ok b.ok _ (rounding_guard f _ _ _ _ ok) in (w.0, w.1, and_l g _ w.2)

pub quotient_sound : (f : Format) (g : Bool) (x y : Float) (A B : Fraction) (L H : ℤ) (a b : Analysis) → Approximates f x A a.bound → Approximates f y B b.bound
    → Lower (2 ^ low f) (A /ℚ B) L → Upper (2 ^ low f) (A /ℚ B) H → T (quotient_of f g L H a b).ok → Approximates f (div f x y) (A /ℚ B) (quotient_of f g L H a b).bound
unfolding quotient_of
quotient_sound f g x y A B L H a b h k dn up ok =
    quotient_step f _ x y A a.bound b.bound L H (divisor_least b.bound) _ B.num B.den h k dn up (and_r g _ (three a.ok b.ok _ (rounding_guard f _ _ _ _ ok)).2) ok

-- ---- QUOTIENTS whose bounds are worked from the operands'
-- x.hi U ≤ y H and y L ≤ x.lo U, by parts
pub over_most : (U : ℕ) (x y H : ℤ) → T (le_z (x *ℤ pos U) (y *ℤ H)) → ProductAtMost (part⁺ y) (part⁻ y) (part⁻ H) (part⁺ H) (part⁻ x * U) (part⁺ x * U)
over_most U x y H t =
    core (part⁺ y) (part⁻ y) (part⁺ H) (part⁻ H) (part⁺ (y *ℤ H)) (part⁻ (y *ℤ H)) (part⁺ (x *ℤ pos U)) (part⁻ (x *ℤ pos U)) (part⁺ x * U) (part⁻ x * U)
    (mul⁺ y H) (mul⁻ y H) (scale⁺ x U) (scale⁻ x U) (le_z_parts (x *ℤ pos U) (y *ℤ H) t)
  where
    core : (k k' H H' c c' g g' G G' : ℕ) → c ≡ k * H + k' * H' → c' ≡ k * H' + k' * H → g ≡ G → g' ≡ G' → g + c' ≤ c + g' → ProductAtMost k k' H' H G' G
    core k k' H H' c c' g g' G G' i j a b h = omega arith

pub over_least : (U : ℕ) (x y L : ℤ) → T (le_z (y *ℤ L) (x *ℤ pos U)) → ProductAtMost (part⁺ y) (part⁻ y) (part⁺ L) (part⁻ L) (part⁺ x * U) (part⁻ x * U)
over_least U x y L t =
    core (part⁺ y) (part⁻ y) (part⁺ L) (part⁻ L) (part⁺ (y *ℤ L)) (part⁻ (y *ℤ L)) (part⁺ (x *ℤ pos U)) (part⁻ (x *ℤ pos U)) (part⁺ x * U) (part⁻ x * U)
    (mul⁺ y L) (mul⁻ y L) (scale⁺ x U) (scale⁻ x U) (le_z_parts (y *ℤ L) (x *ℤ pos U) t)
  where
    core : (k k' L L' c c' g g' G G' : ℕ) → c ≡ k * L + k' * L' → c' ≡ k * L' + k' * L → g ≡ G → g' ≡ G' → c + g' ≤ g + c' → ProductAtMost k k' L L' G G'
    core k k' L L' c c' g g' G G' i j a b h = omega arith

pub over_bounds : (f : Format) (x y : Float) (A : Fraction) (u v : Bound) (L H : ℤ) (w : ℕ) (bn : ℤ) (bd : ℕ) → Approximates f x A u → Approximates f y (record { num = bn; den = bd }) v
    → T (over_ok (2 ^ low f) u v L H) → T (divisor_ok v w) → Lower (2 ^ low f) (over A bn bd) L × Upper (2 ^ low f) (over A bn bd) H
over_bounds f x y A u v L H w bn bd h k ts ds = go bn bd k
  where
    U : ℕ
    U = 2 ^ low f

    P : 0 < U
    P = pow_pos (low f)

    t₁ : Bool
    t₁ = le_z (u.hi *ℤ pos U) (v.lo *ℤ H)

    t₂ : Bool
    t₂ = le_z (u.hi *ℤ pos U) (v.hi *ℤ H)

    t₃ : Bool
    t₃ = le_z (v.lo *ℤ L) (u.lo *ℤ pos U)

    t₄ : Bool
    t₄ = le_z (v.hi *ℤ L) (u.lo *ℤ pos U)

    room : part⁻ v.lo + v.err + w ≤ part⁺ v.lo
    room = leb→le (part⁻ v.lo + v.err + w) (part⁺ v.lo) (and_r (ltb 0 w) _ ds)

    none : 0 < 0 → ⊥
    none h = omega arith

    go : (bn : ℤ) (bd : ℕ) → Approximates f y (record { num = bn; den = bd }) v → Lower U (over A bn bd) L × Upper U (over A bn bd) H
    go bn zero k = absurd (none k.defined)
    go (negsuc j) (suc c) k = absurd (not_negative U j (suc c) (part⁺ v.lo) (part⁻ v.lo) v.err w P room k.lower)
    go (pos zero) (suc c) k = absurd (not_zero U (suc c) (part⁺ v.lo) (part⁻ v.lo) v.err w k.defined (ltb→lt 0 w (and_l (ltb 0 w) _ ds)) room k.lower)
    go (pos (suc j)) (suc c) k =
        let p = num⁺ A in
        let n = num⁻ A in
        let d = A.den in
        let β = suc j in
        let hp : p * suc c ≡ num⁺ (over A (pos β) (suc c)) = sym (scale⁺ A.num (suc c)) in
        let hn : n * suc c ≡ num⁻ (over A (pos β) (suc c)) = sym (scale⁻ A.num (suc c)) in (
          subst₂ (λ (X Y : ℕ). AtLeast U X Y (d * β) (part⁺ L) (part⁻ L)) hp hn
              (quotient_at_least U p n d (part⁺ u.lo) (part⁻ u.lo) β (suc c) (part⁺ v.lo) (part⁻ v.lo) (part⁺ v.hi) (part⁻ v.hi) (part⁺ L) (part⁻ L) P h.lower k.lower k.upper
              (over_least U u.lo v.lo L (and_l t₃ t₄ (and_r (t₁ && t₂) (t₃ && t₄) ts))) (over_least U u.lo v.hi L (and_r t₃ t₄ (and_r (t₁ && t₂) (t₃ && t₄) ts)))),
          subst₂ (λ (X Y : ℕ). AtMost U X Y (d * β) (part⁺ H) (part⁻ H)) hp hn
              (quotient_at_most U p n d (part⁺ u.hi) (part⁻ u.hi) β (suc c) (part⁺ v.lo) (part⁻ v.lo) (part⁺ v.hi) (part⁻ v.hi) (part⁺ H) (part⁻ H) P h.upper k.lower k.upper
              (over_most U u.hi v.lo H (and_l t₁ t₂ (and_l (t₁ && t₂) (t₃ && t₄) ts))) (over_most U u.hi v.hi H (and_r t₁ t₂ (and_l (t₁ && t₂) (t₃ && t₄) ts)))),
        )

-- the test of the divisor, out of all of them
pub quotient_divisor : (f : Format) (g : Bool) (L H : ℤ) (a b : Analysis) → T (quotient_of f g L H a b).ok → T (divisor_ok b.bound (divisor_least b.bound))
unfolding quotient_of
quotient_divisor f g L H a b ok =
    let x = a.bound in
    let y = b.bound in
    and_l (divisor_ok y (divisor_least y)) (leb (x.err * 2 ^ low f + magnitude L H * y.err) (inherited (2 ^ low f) x y L H * divisor_least y))
    (and_r g _ (three a.ok b.ok _ (rounding_guard f _ _ _ _ ok)).2)

pub over_sound : (f : Format) (x y : Float) (A B : Fraction) (a b : Analysis) → Approximates f x A a.bound → Approximates f y B b.bound → T (over_of f a b).ok
    → Approximates f (div f x y) (A /ℚ B) (over_of f a b).bound
unfolding over_of
over_sound f x y A B a b h k ok =
    let U = 2 ^ low f in
    let L = least_over U a.bound b.bound in
    let H = most_over U a.bound b.bound in
    let g = over_ok U a.bound b.bound L H in
    let w = over_bounds f x y A a.bound b.bound L H (divisor_least b.bound) B.num B.den h k (quotient_tests f g L H a b ok).2 (quotient_divisor f g L H a b ok) in
    quotient_sound f g x y A B L H a b h k w.0 w.1 ok

pub over_guard : (f : Format) (a b : Analysis) → T (over_of f a b).ok → T a.ok × T b.ok
unfolding over_of
over_guard f a b ok =
    let U = 2 ^ low f in
    let L = least_over U a.bound b.bound in
    let H = most_over U a.bound b.bound in
    let w = quotient_tests f (over_ok U a.bound b.bound L H) L H a b ok in
    (w.0, w.1)
