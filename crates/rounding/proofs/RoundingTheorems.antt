-- THE ROUNDING THEOREMS, as distances between fractions. `round f s a c` is the float of the format f that is nearest to ±a / c (negative where s is
-- true). Where it is finite, its value differs from ±a / c by at most half a unit in the last place, and by at most 2 ^ -prec of a / c (the unit
-- roundoff) and half a quantum for what underflows. Where a / c is a whole number of quanta the unit roundoff alone is enough. From the bounds
-- in quanta (Rounding), multiplied across. `signed s a c` is ±a / c. All over the format. Assumes nothing.
use mathlib.Core.Path.{◌≡◌, refl, sym, ap, subst, subst₂, ◌∙◌}
use mathlib.Core.Bool.{Bool, true, false, cond}
use Prim.Native.Nat.{ℕ, zero, suc, ◌+◌, ◌-◌, ◌*◌, ◌/◌, ◌^◌, ◌≤◌, ◌<◌}
use native.Mathlib.Nat.{zero-lt-suc, mul-pos, le_of_mul-le-mul_right, mul-div_cancel, pow-suc}
use native.Mathlib.Omega.{arith}
use lib.IntN.{pos, neg_ℤ, nat_abs}
use lib.Dec.{T, ltb, ltb→lt}
use lib.Pow.{pow_pos, pow-add}
use lib.Ieee.{Float, nan, inf, fin, Format, prec, low, up, down, size, odd, units, round}
use lib.Ieee.Digits.{size_reaches}
use lib.Ieee.Fits.{two, two-le_pos, round_is, down_pos}
use lib.Ieee.Exact.{HasValue}
use lib.Ieee.Order.{drop, kept}
use lib.Ieee.Scale.{finite, grid, overflow}
use Rattle.exact.specs.Fraction.{ratio, signed, ◌+ℚ◌, ◌*ℚ◌}
use Rattle.exact.specs.Value.{value, Within, RelativelyWithin}
use Rattle.exact.proofs.Close.{Close, times, cancel}
use Rattle.exact.proofs.Parts.{signed⁺, signed⁻}
use Rattle.exact.proofs.Order.{close_within}
use Rattle.rounding.proofs.Rounding.{half_ulp, relative, round_value}

pub signed_abs : (s : Bool) (a : ℕ) → nat_abs (cond s (neg_ℤ (pos a)) (pos a)) ≡ a
signed_abs false a = refl
signed_abs true zero = refl
signed_abs true (suc a) = refl

-- ---- a finite result is below the overflow
units_under : (f : Format) (s : Bool) (q k : ℕ) → T (finite (units f s q k)) → q * 2 ^ k < overflow f
unfolding units
units_under f s q k = go (ltb (q * 2 ^ k) (overflow f)) (ltb→lt (q * 2 ^ k) (overflow f))
  where
    go : (b : Bool) → (T b → q * 2 ^ k < overflow f) → T (finite (cond b (odd (suc (prec f)) s q k (low f)) (inf s))) → q * 2 ^ k < overflow f
    go true h t = h tt
    go false h t = absurd t

pub round_finite : (f : Format) (s : Bool) (a c : ℕ) → T (finite (round f s a c)) → grid f a c < overflow f
round_finite f s a c t = units_under f s (kept (prec f) (a * 2 ^ low f) c) (drop (prec f) (a * 2 ^ low f) c) (subst (λ (z : Float). T (finite z)) (round_is f s a c) t)

-- ---- g quanta against a / c, as a distance between fractions: |g / U - a / c| ≤ r / q
grid_within : (x : Float) (s : Bool) (g U a c r q : ℕ) → 0 < U → 0 < c → 0 < q → HasValue x s g U → Close (g * c * q) (a * U * q) (r * (U * c)) → Within (value x) (signed s a c) (ratio r q)
unfolding value
grid_within nan s g U a c r q P C Q v h = absurd v
grid_within (inf t) s g U a c r q P C Q v h = absurd v
grid_within (fin t m e) s g U a c r q P C Q v h =
    subst (λ (b : Bool). Within (signed b M d) (signed s a c) (ratio r q)) (sym v.0)
    (close_within (down_pos e) C Q
    (rw (signed⁺ s M, signed⁻ s M, signed⁺ s a, signed⁻ s a) (go s (core M d v.1))))
  where
    M : ℕ
    M = m * up e

    d : ℕ
    d = down e

    core : (M d : ℕ) → M * U ≡ g * d → Close (M * c * q) (a * d * q) (r * (d * c))
    core M d e = cancel U P (omega (arith, times d h, ap (λ (z : ℕ). z * (c * q)) e))

    go : (s : Bool) → Close (M * c * q) (a * d * q) (r * (d * c))
        → Close ((cond s 0 M * c + cond s a 0 * d) * q) ((cond s M 0 * c + cond s 0 a * d) * q) (r * (d * c))
    go false h = omega arith
    go true h = omega arith

-- ---- HALF A UNIT IN THE LAST PLACE, which is 2 ^ drop quanta
pub round_within_ulp : (f : Format) (s : Bool) (a c : ℕ) → 0 < c → T (finite (round f s a c))
    → Within (value (round f s a c)) (signed s a c) (ratio (2 ^ drop (prec f) (a * 2 ^ low f) c) (2 * 2 ^ low f))
round_within_ulp f s a c C t =
    let U = 2 ^ low f in
    let u = 2 ^ drop (prec f) (a * U) c in
    grid_within (round f s a c) s (grid f a c) U a c u (2 * U) (pow_pos (low f)) C (mul-pos (zero-lt-suc 1) (pow_pos (low f))) (round_value f s a c (round_finite f s a c t)) (core (grid f a c) U u (half_ulp f a c C))
  where
    core : (g U u : ℕ) → Close (g * c * 2) (a * U * 2) (c * u) → Close (g * c * (2 * U)) (a * U * (2 * U)) (u * (U * c))
    core g U u h = omega (arith, times U h)

-- ---- THE UNIT ROUNDOFF 2 ^ -prec, AND HALF A QUANTUM
half_power : (f : Format) → 2 ^ prec f ≡ 2 * 2 ^ (prec f - 1)
half_power f = ap (λ (z : ℕ). 2 ^ z) (before (prec f) (two-le_pos (prec f) (two f))) ∙ pow-suc 2 (prec f - 1) ∙ turn (2 ^ (prec f - 1))
  where
    before : (p : ℕ) → 0 < p → p ≡ suc (p - 1)
    before p h = omega arith

    turn : (x : ℕ) → x * 2 ≡ 2 * x
    turn x = omega arith

pub round_within : (f : Format) (s : Bool) (a c : ℕ) → 0 < c → T (finite (round f s a c))
    → Within (value (round f s a c)) (signed s a c) (ratio 1 (2 ^ prec f) *ℚ ratio a c +ℚ ratio 1 (2 * 2 ^ low f))
round_within f s a c C t =
    let U = 2 ^ low f in
    let Q = 2 ^ prec f in
    grid_within (round f s a c) s (grid f a c) U a c (1 * a * (2 * U) + 1 * (Q * c)) (Q * c * (2 * U)) (pow_pos (low f)) C (mul-pos (mul-pos (pow_pos (prec f)) C) (mul-pos (zero-lt-suc 1) (pow_pos (low f)))) (round_value f s a c (round_finite f s a c t))
    (core (grid f a c) U (2 ^ (prec f - 1)) Q (half_power f) (relative f a c C))
  where
    core : (g U H Q : ℕ) → Q ≡ 2 * H → Close (g * c * (2 * H)) (a * U * (2 * H)) (a * U + c * H)
        → Close (g * c * (Q * c * (2 * U))) (a * U * (Q * c * (2 * U))) ((1 * a * (2 * U) + 1 * (Q * c)) * (U * c))
    core g U H Q e h =
        let w : Close (g * c * Q) (a * U * Q) (a * U + c * H) = subst (λ (z : ℕ). Close (g * c * z) (a * U * z) (a * U + c * H)) (sym e) h in
        omega (arith, times (c * (2 * U)) w, ap (λ (z : ℕ). z * (c * (U * c))) e)

-- ---- THE UNIT ROUNDOFF ALONE, where a / c is a whole number b of quanta: half a unit in the last place is at most b 2 ^ -prec quanta, or nothing is lost
pub whole_relative : (f : Format) (a c b : ℕ) → 0 < c → a * 2 ^ low f ≡ b * c → Close (grid f a c * 2 ^ prec f) (b * 2 ^ prec f) b
whole_relative f a c b C e = go (size (n / c) - prec f) refl
  where
    n : ℕ
    n = a * 2 ^ low f

    g : ℕ
    g = grid f a c

    q : n / c ≡ b
    q = ap (λ (z : ℕ). z / c) e ∙ mul-div_cancel b C

    base : Close (g * c * 2) (b * c * 2) (c * 2 ^ (size (n / c) - prec f))
    base = subst (λ (z : ℕ). Close (g * c * 2) (z * 2) (c * 2 ^ (size (n / c) - prec f))) e (half_ulp f a c C)

    -- a whole number that is at most a half away is the same
    tight : (g Q : ℕ) → Close (g * c * 2) (b * c * 2) (c * 1) → Close (g * Q) (b * Q) b
    tight g Q h =
        let x : 2 * g ≤ 2 * b + 1 = le_of_mul-le-mul_right (omega arith) C in
        let y : 2 * b ≤ 2 * g + 1 = le_of_mul-le-mul_right (omega arith) C in
        let i : g ≡ b = omega arith in
        omega (arith, ap (λ (z : ℕ). z * Q) i)

    -- half a unit t is at most b / Q, where b has more than the digits that Q stands for
    loose : (g t Q : ℕ) → Close (g * c * 2) (b * c * 2) (c * (t * 2)) → Q * t ≤ b → Close (g * Q) (b * Q) b
    loose g t Q h l = let w : Close g b t = cancel (c * 2) (mul-pos C (zero-lt-suc 1)) (omega arith) in omega (arith, times Q w)

    inside : (z p k : ℕ) → 0 < p → z - p ≡ suc k → p + k < z
    inside z p k P h = omega arith

    go : (k : ℕ) → size (n / c) - prec f ≡ k → Close (g * 2 ^ prec f) (b * 2 ^ prec f) b
    go zero h = tight g (2 ^ prec f) (subst (λ (z : ℕ). Close (g * c * 2) (b * c * 2) (c * 2 ^ z)) h base)
    go (suc k) h =
        loose g (2 ^ k) (2 ^ prec f) (subst (λ (z : ℕ). Close (g * c * 2) (b * c * 2) (c * z)) (pow-suc 2 k) (subst (λ (z : ℕ). Close (g * c * 2) (b * c * 2) (c * 2 ^ z)) h base))
        (subst₂ (λ (x y : ℕ). x ≤ y) (pow-add 2 (prec f) k) q (size_reaches (n / c) (prec f + k) (inside (size (n / c)) (prec f) k (two-le_pos (prec f) (two f)) h)))

pub round_relative : (f : Format) (s : Bool) (a c b : ℕ) → 0 < c → a * 2 ^ low f ≡ b * c → T (finite (round f s a c))
    → RelativelyWithin (value (round f s a c)) (signed s a c) (ratio 1 (2 ^ prec f))
round_relative f s a c b C e t =
    let U = 2 ^ low f in
    let Q = 2 ^ prec f in
    subst (λ (z : ℕ). Within (value (round f s a c)) (signed s a c) (ratio (1 * z) (Q * c))) (sym (signed_abs s a))
    (grid_within (round f s a c) s (grid f a c) U a c (1 * a) (Q * c) (pow_pos (low f)) C (mul-pos (pow_pos (prec f)) C) (round_value f s a c (round_finite f s a c t)) (core (grid f a c) U Q e (whole_relative f a c b C e)))
  where
    core : (g U Q : ℕ) → a * U ≡ b * c → Close (g * Q) (b * Q) b → Close (g * c * (Q * c)) (a * U * (Q * c)) (1 * a * (U * c))
    core g U Q e h = omega (arith, times (c * c) h, ap (λ (z : ℕ). z * (Q * c)) e, ap (λ (z : ℕ). z * c) e)
