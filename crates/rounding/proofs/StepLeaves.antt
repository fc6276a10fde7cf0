-- THE ANALYSER'S STEPS: constants, constants that stand for a fraction, a shorter computation for a longer one, bounds brought along, and the clamp. Assumes nothing.
use mathlib.Core.Path.{◌≡◌}
use mathlib.Core.Bool.{Bool, true, false, ◌&&◌, cond}
use Prim.Native.Nat.{ℕ, ◌+◌, ◌*◌, ◌/◌, ◌^◌, ◌≤◌, max}
use native.Mathlib.Omega.{arith}
use lib.IntN.{ℤ, neg_ℤ, ◌-ℤ◌}
use lib.Dec.{T, leb, ltb, leb→le, ltb→lt, eqb→eq}
use lib.Pow.{pow_pos}
use lib.Ieee.{Float, nan, inf, fin, Format, low, up, down}
use lib.Ieee.Fits.{and_l, and_r, down_pos}
use Rattle.exact.specs.Fraction.{Fraction, clamp_unitℚ}
use Rattle.exact.specs.Value.{value}
use Rattle.exact.proofs.Close.{Close}
use Rattle.exact.proofs.Parts.{part⁺, part⁻, num⁺, num⁻, neg⁺, neg⁻, add_parts, signed⁺, signed⁻}
use Rattle.rounding.proofs.Operations.{Signed, Quanta}
use Rattle.rounding.proofs.Propagation.{exchange}
use Rattle.rounding.proofs.Clamp.{clamp_near, unit_lower, unit_upper}
use Rattle.rounding.proofs.Analyser.{Analysis, Approximates, Lower, Upper, clamp_unit, negated_of, clamped_of, truncated_of, enclosed_of, signedℤ, constant_of, approx_ok, approx_of}
use Rattle.rounding.proofs.StepSums.{both, three}

-- ---- CONSTANTS
pub constant_signed : (s : Bool) (m d g U : ℕ) → m * U ≡ g * d → Signed s m d (part⁺ (signedℤ s g)) (part⁻ (signedℤ s g)) U
constant_signed s m d g U e = rw (signed⁺ s g, signed⁻ s g) (go s)
  where
    go : (s : Bool) → Signed s m d (cond s 0 g) (cond s g 0) U
    go false = omega arith
    go true = omega arith

pub constant_quanta : (f : Format) (x : Float) → T (constant_of f x).ok → Quanta (2 ^ low f) x (part⁺ (constant_of f x).bound.lo) (part⁻ (constant_of f x).bound.lo)
unfolding constant_of
constant_quanta f nan ok = absurd ok
constant_quanta f (inf s) ok = absurd ok
constant_quanta f (fin s m e) ok =
    let U = 2 ^ low f in
    let g = m * up e * U / down e in
    constant_signed s (m * up e) (down e) g U (eqb→eq (m * up e * U) (g * down e) ok)

-- a float that is p - n quanta, and its value
pub exactly : (s : Bool) (M d p n U : ℕ) → Signed s M d p n U → p * d + part⁻ (signedℤ s M) * U ≡ n * d + part⁺ (signedℤ s M) * U
exactly s M d p n U h = rw (signed⁺ s M, signed⁻ s M) (go s h)
  where
    go : (s : Bool) → Signed s M d p n U → p * d + cond s M 0 * U ≡ n * d + cond s 0 M * U
    go false h = omega arith
    go true h = omega arith

pub constant_sound : (f : Format) (x : Float) → T (constant_of f x).ok → Approximates f x (value x) (constant_of f x).bound
unfolding constant_of value
constant_sound f nan ok = absurd ok
constant_sound f (inf s) ok = absurd ok
constant_sound f (fin s m e) ok =
    let U = 2 ^ low f in
    let M = m * up e in
    let d = down e in
    let g = M * U / d in
    let h = constant_signed s M d g U (eqb→eq (M * U) (g * d) ok) in
    let q = exactly s M d (part⁺ (signedℤ s g)) (part⁻ (signedℤ s g)) U h in
    record {
      defined = down_pos e;
      near = record { plus = part⁺ (signedℤ s g); minus = part⁻ (signedℤ s g); quanta = h; close = no_error _ _ d q };
      lower = at_least _ _ _ _ q;
      upper = at_most _ _ _ _ q;
    }
  where
    no_error : (x y d : ℕ) → x ≡ y → Close x y (0 * d)
    no_error x y d e = omega arith

    at_least : (a b c d : ℕ) → a + b ≡ c + d → a + b ≤ d + c
    at_least a b c d e = omega arith

    at_most : (a b c d : ℕ) → a + b ≡ c + d → d + c ≤ a + b
    at_most a b c d e = omega arith

-- ---- A CONSTANT FOR A FRACTION NEAR IT
pub approx_step : (f : Format) (x : Float) (q : Fraction) (z L H : ℤ) (e : ℕ) → Quanta (2 ^ low f) x (part⁺ z) (part⁻ z) → T (approx_ok (2 ^ low f) z (num⁺ q) (num⁻ q) q.den L H e)
    → Approximates f x q (record { lo = L; hi = H; err = e })
approx_step f x q z L H e h ts =
    let U = 2 ^ low f in
    let p = num⁺ q in
    let n = num⁻ q in
    let d = q.den in
    let a₁ = ltb 0 d in
    let a₂ = leb (part⁺ L * d + n * U) (p * U + part⁻ L * d) in
    let a₃ = leb (p * U + part⁻ H * d) (part⁺ H * d + n * U) in
    let b₁ = leb (part⁺ z * d + n * U) (part⁻ z * d + p * U + e * d) in
    let b₂ = leb (part⁻ z * d + p * U) (part⁺ z * d + n * U + e * d) in
    let a = three a₁ a₂ a₃ (and_l (a₁ && a₂ && a₃) (b₁ && b₂) ts) in
    let b = both b₁ b₂ (and_r (a₁ && a₂ && a₃) (b₁ && b₂) ts) in
    record {
      defined = ltb→lt 0 d a.0;
      near = record {
        plus = part⁺ z;
        minus = part⁻ z;
        quanta = h;
        close = record { le = leb→le (part⁺ z * d + n * U) (part⁻ z * d + p * U + e * d) b.0; ge = leb→le (part⁻ z * d + p * U) (part⁺ z * d + n * U + e * d) b.1 };
      };
      lower = leb→le (part⁺ L * d + n * U) (p * U + part⁻ L * d) a.1;
      upper = leb→le (p * U + part⁻ H * d) (part⁺ H * d + n * U) a.2;
    }

pub approx_sound : (f : Format) (x : Float) (q : Fraction) → T (approx_of f x q).ok → Approximates f x q (approx_of f x q).bound
unfolding approx_of
approx_sound f x q ok = approx_step f x q (constant_of f x).bound.lo _ _ _ (constant_quanta f x (and_l (constant_of f x).ok _ ok)) (and_r (constant_of f x).ok _ ok)

-- ---- A SHORTER COMPUTATION FOR A LONGER ONE
pub truncated_sound : (f : Format) (x y : Float) (P Q : Fraction) (a b : Analysis) → Approximates f x P a.bound → Approximates f y Q b.bound → Approximates f x Q (truncated_of a b).bound
unfolding truncated_of
truncated_sound f x y P Q a b h k =
    let u = a.bound in
    let v = b.bound in
    let r = h.near in
    record {
      defined = k.defined;
      near = record {
        plus = r.plus;
        minus = r.minus;
        quanta = r.quanta;
        close =
            exchange (2 ^ low f) r.plus r.minus (num⁺ P) (num⁻ P) P.den u.err (num⁺ Q) (num⁻ Q) Q.den (part⁺ u.lo) (part⁻ u.lo) (part⁺ u.hi) (part⁻ u.hi)
            (part⁺ v.lo) (part⁻ v.lo) (part⁺ v.hi) (part⁻ v.hi) (max (part⁺ (u.hi -ℤ v.lo)) (part⁺ (v.hi -ℤ u.lo))) h.defined r.close h.lower h.upper k.lower k.upper
            (left u.hi v.lo (part⁺ (v.hi -ℤ u.lo))) (right v.hi u.lo (part⁺ (u.hi -ℤ v.lo)));
      };
      lower = k.lower;
      upper = k.upper;
    }
  where
    -- h - l is at most its positive part
    difference : (h l : ℤ) → part⁺ h + part⁻ l ≤ part⁻ h + part⁺ l + part⁺ (h -ℤ l)
    difference h l = core (part⁺ h) (part⁻ h) (part⁺ l) (part⁻ l) (part⁺ (neg_ℤ l)) (part⁻ (neg_ℤ l)) (part⁺ (h -ℤ l)) (part⁻ (h -ℤ l)) (neg⁺ l) (neg⁻ l) (add_parts h (neg_ℤ l))
      where
        core : (p n q m q' m' z z' : ℕ) → q' ≡ m → m' ≡ q → z + (n + m') ≡ z' + (p + q') → p + m ≤ n + q + z
        core p n q m q' m' z z' i j e = omega arith

    left : (h l : ℤ) (z : ℕ) → part⁺ h + part⁻ l ≤ part⁻ h + part⁺ l + max (part⁺ (h -ℤ l)) z
    left h l z = core _ (part⁻ h + part⁺ l) (part⁺ (h -ℤ l)) (difference h l)
      where
        core : (x y d : ℕ) → x ≤ y + d → x ≤ y + max d z
        core x y d e = omega arith

    right : (h l : ℤ) (z : ℕ) → part⁺ h + part⁻ l ≤ part⁻ h + part⁺ l + max z (part⁺ (h -ℤ l))
    right h l z = core _ (part⁻ h + part⁺ l) (part⁺ (h -ℤ l)) (difference h l)
      where
        core : (x y d : ℕ) → x ≤ y + d → x ≤ y + max z d
        core x y d e = omega arith

pub truncated_guard : (a b : Analysis) → T (truncated_of a b).ok → T a.ok × T b.ok
unfolding truncated_of
truncated_guard a b ok = both a.ok b.ok ok

-- ---- BOUNDS BROUGHT ALONG, AND THE CLAMP
pub enclosed_sound : (f : Format) (x : Float) (A : Fraction) (l h : ℤ) (a : Analysis) → Approximates f x A a.bound → Lower (2 ^ low f) A l → Upper (2 ^ low f) A h → Approximates f x A (enclosed_of l h a).bound
unfolding enclosed_of
enclosed_sound f x A l h a k u v = record { defined = k.defined; near = k.near; lower = u; upper = v }

pub enclosed_guard : (l h : ℤ) (a : Analysis) → T (enclosed_of l h a).ok → T a.ok
unfolding enclosed_of
enclosed_guard l h a ok = ok

pub clamped_sound : (f : Format) (x : Float) (A : Fraction) (a : Analysis) → Approximates f x A a.bound → Approximates f (clamp_unit x) (clamp_unitℚ A) (clamped_of f a).bound
unfolding clamped_of
clamped_sound f x A a h =
    record { defined = h.defined; near = clamp_near (2 ^ low f) x A a.bound.err (pow_pos (low f)) h.near; lower = unit_lower (2 ^ low f) A; upper = unit_upper (2 ^ low f) A }

pub clamped_guard : (f : Format) (a : Analysis) → T (clamped_of f a).ok → T a.ok
unfolding clamped_of
clamped_guard f a ok = ok

pub negated_guard : (a : Analysis) → T (negated_of a).ok → T a.ok
unfolding negated_of
negated_guard a ok = ok
