-- THE ERROR ANALYSER. An expression is data. It is worked twice: in floats, each operation rounded (`eval_float`), and exactly (`eval_exact`).
-- `analyse` computes for every part of it bounds of the exact value and a bound of the float's absolute error, all in quanta, 2 ^ low f of
-- which are 1, and tests each of them: how the numbers are found does not matter to the proof. Soundness.antt says that where the tests pass
-- the bounds hold. `certified` is the test that an application computes by `tt`. Definitions only.
use mathlib.Core.Bool.{Bool, true, false, ◌&&◌, cond}
use Prim.Native.Nat.{ℕ, suc, ◌+◌, ◌-◌, ◌*◌, ◌/◌, ◌^◌, max}
use lib.IntN.{ℤ, pos, neg_ℤ, ◌+ℤ◌, ◌-ℤ◌, ◌*ℤ◌}
use lib.Signed.{le_z, non_neg}
use lib.Dec.{leb, ltb, eqb}
use lib.Ieee.{Float, nan, inf, fin, Format, prec, emax, low, up, down, size, add, sub, mul, div, neg, lt}
use Rattle.exact.specs.Fraction.{Fraction, Defined, smaller, larger, floor_over, clamp_unitℚ, negℚ, ◌+ℚ◌, ◌-ℚ◌, ◌*ℚ◌, ◌/ℚ◌}
use Rattle.exact.specs.Value.{value}
use Rattle.exact.proofs.Parts.{part⁺, part⁻, num⁺, num⁻}
use Rattle.rounding.proofs.Operations.{NearParts}
use Rattle.rounding.proofs.Propagation.{AtLeast, AtMost}

-- ---- what is known of a float and its exact value
-- The exact value lies from lo to hi quanta, and the float is at most err quanta from it.
pub record Bound : Type 0 where
  pub lo : ℤ
  pub hi : ℤ
  pub err : ℕ

-- the largest size that such a value can have
abbrev pub magnitude : ℤ → ℤ → ℕ
magnitude l h = max (part⁻ l) (part⁺ h)

-- z quanta, U of which are 1, are at most A, and at least A
abbrev pub Lower : ℕ → Fraction → ℤ → Type 0
Lower U A z = AtLeast U (num⁺ A) (num⁻ A) A.den (part⁺ z) (part⁻ z)

abbrev pub Upper : ℕ → Fraction → ℤ → Type 0
Upper U A z = AtMost U (num⁺ A) (num⁻ A) A.den (part⁺ z) (part⁻ z)

-- x is finite and at most e quanta from A
abbrev pub Near : ℕ → Float → Fraction → ℕ → Type 0
Near U x A e = NearParts U x (num⁺ A) (num⁻ A) A.den e

pub record Approximates (f : Format) (x : Float) (A : Fraction) (b : Bound) : Type 0 where
  pub defined : Defined A
  pub near : Near (2 ^ low f) x A b.err
  pub lower : Lower (2 ^ low f) A b.lo
  pub upper : Upper (2 ^ low f) A b.hi

-- ---- expressions and their two values
pub data Expr : Type 0 where
  -- an input, by its number
  var : ℕ → Expr
  -- a float that stands for its own value, and one that stands for a fraction near it
  constant : Float → Expr
  approx : Float → Fraction → Expr
  negated : Expr → Expr
  plus : Expr → Expr → Expr
  minus : Expr → Expr → Expr
  times : Expr → Expr → Expr
  over : Expr → Expr → Expr
  -- to 0..1
  clamped : Expr → Expr
  -- computed by the first, meant as the second: what a shorter series leaves out
  truncated : Expr → Expr → Expr
  -- with bounds of the exact value, in quanta, that are proved where it is used: where intervals cannot see that two parts depend on one input
  enclosed : ℤ → ℤ → Expr → Expr
  quotient : ℤ → ℤ → Expr → Expr → Expr

-- the clamp in floats
abbrev pub clamp_unit : Float → Float
clamp_unit x = cond (lt x (fin false 0 (pos 0))) (fin false 0 (pos 0)) (cond (lt (fin false 1 (pos 0)) x) (fin false 1 (pos 0)) x)

unfoldable pub eval_float : Format → (ℕ → Float) → Expr → Float
eval_float f ρ (var i) = ρ i
eval_float f ρ (constant x) = x
eval_float f ρ (approx x q) = x
eval_float f ρ (negated a) = neg (eval_float f ρ a)
eval_float f ρ (plus a b) = add f (eval_float f ρ a) (eval_float f ρ b)
eval_float f ρ (minus a b) = sub f (eval_float f ρ a) (eval_float f ρ b)
eval_float f ρ (times a b) = mul f (eval_float f ρ a) (eval_float f ρ b)
eval_float f ρ (over a b) = div f (eval_float f ρ a) (eval_float f ρ b)
eval_float f ρ (clamped a) = clamp_unit (eval_float f ρ a)
eval_float f ρ (truncated a b) = eval_float f ρ a
eval_float f ρ (enclosed l h a) = eval_float f ρ a
eval_float f ρ (quotient l h a b) = div f (eval_float f ρ a) (eval_float f ρ b)

unfoldable pub eval_exact : (ℕ → Fraction) → Expr → Fraction
unfolding value
eval_exact σ (var i) = σ i
eval_exact σ (constant x) = value x
eval_exact σ (approx x q) = q
eval_exact σ (negated a) = negℚ (eval_exact σ a)
eval_exact σ (plus a b) = eval_exact σ a +ℚ eval_exact σ b
eval_exact σ (minus a b) = eval_exact σ a -ℚ eval_exact σ b
eval_exact σ (times a b) = eval_exact σ a *ℚ eval_exact σ b
eval_exact σ (over a b) = eval_exact σ a /ℚ eval_exact σ b
eval_exact σ (clamped a) = clamp_unitℚ (eval_exact σ a)
eval_exact σ (truncated a b) = eval_exact σ b
eval_exact σ (enclosed l h a) = eval_exact σ a
eval_exact σ (quotient l h a b) = eval_exact σ a /ℚ eval_exact σ b

-- what the bounds that an expression brings along take for granted
unfoldable pub Facts : Format → (ℕ → Fraction) → Expr → Type 0
unfolding eval_exact
Facts f σ (var i) = Unit {0}
Facts f σ (constant x) = Unit {0}
Facts f σ (approx x q) = Unit {0}
Facts f σ (negated a) = Facts f σ a
Facts f σ (plus a b) = Facts f σ a × Facts f σ b
Facts f σ (minus a b) = Facts f σ a × Facts f σ b
Facts f σ (times a b) = Facts f σ a × Facts f σ b
Facts f σ (over a b) = Facts f σ a × Facts f σ b
Facts f σ (clamped a) = Facts f σ a
Facts f σ (truncated a b) = Facts f σ a × Facts f σ b
Facts f σ (enclosed l h a) = Facts f σ a × Lower (2 ^ low f) (eval_exact σ a) l × Upper (2 ^ low f) (eval_exact σ a) h
Facts f σ (quotient l h a b) =
    (Facts f σ a × Facts f σ b) × Lower (2 ^ low f) (eval_exact σ a /ℚ eval_exact σ b) l × Upper (2 ^ low f) (eval_exact σ a /ℚ eval_exact σ b) h

-- an expression that brings no bounds along takes nothing for granted
unfoldable pub plain : Expr → Bool
plain (var i) = true
plain (constant x) = true
plain (approx x q) = true
plain (negated a) = plain a
plain (plus a b) = plain a && plain b
plain (minus a b) = plain a && plain b
plain (times a b) = plain a && plain b
plain (over a b) = plain a && plain b
plain (clamped a) = plain a
plain (truncated a b) = plain a && plain b
plain (enclosed l h a) = false
plain (quotient l h a b) = false

-- ---- the analysis: whether all tests passed, and the bound
pub record Analysis : Type 0 where
  pub ok : Bool
  pub bound : Bound

-- from an exact result between l and h quanta, and the operands' errors t, to the result after one rounding, which moves it by at most 2 ^ k quanta
abbrev pub fits_binade : Format → ℕ → ℕ → Bool
fits_binade f m k = leb m (2 ^ (prec f + suc k)) && leb (prec f + suc k) (low f + emax f)

unfoldable pub rounding_of : Format → Bool → ℤ → ℤ → ℕ → Analysis
unfolding size
rounding_of f g l h t =
    let m = magnitude l h + t in
    let k = size (m - 1) - suc (prec f) in
    record { ok = g && fits_binade f m k; bound = record { lo = l; hi = h; err = t + 2 ^ k } }

unfoldable pub plus_of : Format → Analysis → Analysis → Analysis
plus_of f a b =
    let x = a.bound in
    let y = b.bound in
    rounding_of f (a.ok && b.ok) (x.lo +ℤ y.lo) (x.hi +ℤ y.hi) (x.err + y.err)

unfoldable pub negated_of : Analysis → Analysis
negated_of a = let x = a.bound in record { ok = a.ok; bound = record { lo = neg_ℤ x.hi; hi = neg_ℤ x.lo; err = x.err } }

-- the quotients by d, rounded down and up
abbrev pub ceil_over : ℤ → ℕ → ℤ
ceil_over z d = neg_ℤ (floor_over (neg_ℤ z) d)

abbrev pub ceil : ℕ → ℕ → ℕ
ceil n d = (n + (d - 1)) / d

-- L U and H U enclose the product of x and y, at each pair of their ends; and t quanta enclose what the two errors come to
abbrev pub encloses : ℕ → ℤ → ℤ → ℤ → Bool
encloses U L H c = le_z (L *ℤ pos U) c && le_z c (H *ℤ pos U)

abbrev pub times_ok : ℕ → Bound → Bound → ℤ → ℤ → ℕ → Bool
times_ok U x y L H t =
    (encloses U L H (x.lo *ℤ y.lo) && encloses U L H (x.lo *ℤ y.hi)) && (encloses U L H (x.hi *ℤ y.lo) && encloses U L H (x.hi *ℤ y.hi))
    && leb ((magnitude x.lo x.hi + x.err) * y.err + x.err * magnitude y.lo y.hi) (t * U)

unfoldable pub times_of : Format → Analysis → Analysis → Analysis
times_of f a b =
    let x = a.bound in
    let y = b.bound in
    let U = 2 ^ low f in
    let c₁ = x.lo *ℤ y.lo in
    let c₂ = x.lo *ℤ y.hi in
    let c₃ = x.hi *ℤ y.lo in
    let c₄ = x.hi *ℤ y.hi in
    let L = floor_over (smaller (smaller c₁ c₂) (smaller c₃ c₄)) U in
    let H = ceil_over (larger (larger c₁ c₂) (larger c₃ c₄)) U in
    let t = ceil ((magnitude x.lo x.hi + x.err) * y.err + x.err * magnitude y.lo y.hi) U in
    rounding_of f (a.ok && b.ok && times_ok U x y L H t) L H t

-- the divisor's float is at least w quanta, w above 0; the exact quotient lies between L and H; and t quanta enclose what the two errors come to
abbrev pub divisor_ok : Bound → ℕ → Bool
divisor_ok y w = ltb 0 w && leb (part⁻ y.lo + y.err + w) (part⁺ y.lo)

abbrev pub quotient_ok : ℕ → Bound → Bound → ℤ → ℤ → ℕ → ℕ → Bool
quotient_ok U x y L H w t = divisor_ok y w && leb (x.err * U + magnitude L H * y.err) (t * w)

abbrev pub over_ok : ℕ → Bound → Bound → ℤ → ℤ → Bool
over_ok U x y L H =
    (le_z (x.hi *ℤ pos U) (y.lo *ℤ H) && le_z (x.hi *ℤ pos U) (y.hi *ℤ H)) && (le_z (y.lo *ℤ L) (x.lo *ℤ pos U) && le_z (y.hi *ℤ L) (x.lo *ℤ pos U))

-- a bound from below of the divisor's float, and the error that the quotient inherits
abbrev pub divisor_least : Bound → ℕ
divisor_least y = part⁺ y.lo - part⁻ y.lo - y.err

abbrev pub inherited : ℕ → Bound → Bound → ℤ → ℤ → ℕ
inherited U x y L H = ceil (x.err * U + magnitude L H * y.err) (divisor_least y)

unfoldable pub quotient_of : Format → Bool → ℤ → ℤ → Analysis → Analysis → Analysis
quotient_of f g L H a b =
    let x = a.bound in
    let y = b.bound in
    let U = 2 ^ low f in
    let t = inherited U x y L H in
    rounding_of f (a.ok && b.ok && (g && quotient_ok U x y L H (divisor_least y) t)) L H t

-- the exact quotient's ends, for a divisor above 0
abbrev pub least_over : ℕ → Bound → Bound → ℤ
least_over U x y = floor_over (x.lo *ℤ pos U) (part⁺ (cond (non_neg x.lo) y.hi y.lo))

abbrev pub most_over : ℕ → Bound → Bound → ℤ
most_over U x y = ceil_over (x.hi *ℤ pos U) (part⁺ (cond (non_neg x.hi) y.lo y.hi))

unfoldable pub over_of : Format → Analysis → Analysis → Analysis
unfolding quotient_of
over_of f a b =
    let U = 2 ^ low f in
    let L = least_over U a.bound b.bound in
    let H = most_over U a.bound b.bound in
    quotient_of f (over_ok U a.bound b.bound L H) L H a b

unfoldable pub clamped_of : Format → Analysis → Analysis
clamped_of f a = record { ok = a.ok; bound = record { lo = pos 0; hi = pos (2 ^ low f); err = a.bound.err } }

unfoldable pub truncated_of : Analysis → Analysis → Analysis
truncated_of a b =
    let x = a.bound in
    let y = b.bound in
    record { ok = a.ok && b.ok; bound = record { lo = y.lo; hi = y.hi; err = x.err + max (part⁺ (x.hi -ℤ y.lo)) (part⁺ (y.hi -ℤ x.lo)) } }

unfoldable pub enclosed_of : ℤ → ℤ → Analysis → Analysis
enclosed_of l h a = record { ok = a.ok; bound = record { lo = l; hi = h; err = a.bound.err } }

-- a constant is a whole number of quanta
abbrev pub signedℤ : Bool → ℕ → ℤ
signedℤ s g = cond s (neg_ℤ (pos g)) (pos g)

unfoldable pub constant_of : Format → Float → Analysis
constant_of f nan = record { ok = false; bound = record { lo = pos 0; hi = pos 0; err = 0 } }
constant_of f (inf s) = record { ok = false; bound = record { lo = pos 0; hi = pos 0; err = 0 } }
constant_of f (fin s m e) =
    let g = m * up e * 2 ^ low f / down e in
    record { ok = eqb (m * up e * 2 ^ low f) (g * down e); bound = record { lo = signedℤ s g; hi = signedℤ s g; err = 0 } }

-- z quanta in place of (p - n) / d, which lies between L and H quanta: at most e away
abbrev pub approx_ok : ℕ → ℤ → ℕ → ℕ → ℕ → ℤ → ℤ → ℕ → Bool
approx_ok U z p n d L H e =
    (ltb 0 d && leb (part⁺ L * d + n * U) (p * U + part⁻ L * d) && leb (p * U + part⁻ H * d) (part⁺ H * d + n * U))
    && (leb (part⁺ z * d + n * U) (part⁻ z * d + p * U + e * d) && leb (part⁻ z * d + p * U) (part⁺ z * d + n * U + e * d))

unfoldable pub approx_of : Format → Float → Fraction → Analysis
unfolding constant_of
approx_of f x q =
    let c = constant_of f x in
    let z = c.bound.lo in
    let U = 2 ^ low f in
    let d = q.den in
    let L = floor_over (q.num *ℤ pos U) d in
    let H = ceil_over (q.num *ℤ pos U) d in
    let a = part⁺ z * d + num⁻ q * U in
    let b = part⁻ z * d + num⁺ q * U in
    let e = ceil ((a - b) + (b - a)) d in
    record { ok = c.ok && approx_ok U z (num⁺ q) (num⁻ q) d L H e; bound = record { lo = L; hi = H; err = e } }

-- β has the bounds of the inputs
unfoldable pub analyse : Format → (ℕ → Bound) → Expr → Analysis
unfolding constant_of approx_of negated_of plus_of times_of over_of quotient_of clamped_of truncated_of enclosed_of rounding_of
analyse f β (var i) = record { ok = true; bound = β i }
analyse f β (constant x) = constant_of f x
analyse f β (approx x q) = approx_of f x q
analyse f β (negated a) = negated_of (analyse f β a)
analyse f β (plus a b) = plus_of f (analyse f β a) (analyse f β b)
analyse f β (minus a b) = plus_of f (analyse f β a) (negated_of (analyse f β b))
analyse f β (times a b) = times_of f (analyse f β a) (analyse f β b)
analyse f β (over a b) = over_of f (analyse f β a) (analyse f β b)
analyse f β (clamped a) = clamped_of f (analyse f β a)
analyse f β (truncated a b) = truncated_of (analyse f β a) (analyse f β b)
analyse f β (enclosed l h a) = enclosed_of l h (analyse f β a)
analyse f β (quotient l h a b) = quotient_of f true l h (analyse f β a) (analyse f β b)

-- ---- what an application computes: the tests pass, and the error is at most r / s
abbrev pub error_at_most : Format → ℕ → ℕ → Analysis → Bool
error_at_most f r s a = a.ok && leb (a.bound.err * s) (r * 2 ^ low f)

unfoldable pub certified : Format → (ℕ → Bound) → Expr → ℕ → ℕ → Bool
unfolding analyse
certified f β e r s = error_at_most f r s (analyse f β e)
