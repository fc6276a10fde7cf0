-- A FLOAT LESS A POWER OF TWO, AN EXACT TEST. Where y is 2 ^ k quanta and x is from y to 2 ^ prec f times y, x ⊖ y loses nothing; where x is below y,
-- x ⊖ y is not above 0. So z < x ⊖ y decides the exact z + y < x, for every z that is not negative. Over either format. Assumes nothing.
use mathlib.Core.Path.{◌≡◌, sym, subst, ◌∙◌}
use mathlib.Core.Bool.{Bool, true, false, not, cond}
use Prim.Native.Nat.{ℕ, suc, ◌+◌, ◌-◌, ◌*◌, ◌^◌, ◌≤◌, ◌<◌}
use native.Mathlib.Nat.{le_of_lt, lt_of_mul-lt-mul_right, mul-lt-mul_of_pos_right}
use native.Mathlib.Omega.{arith}
use lib.Dec.{T, ltb, leb, leb→le, nleb→lt}
use lib.Pow.{pow_pos}
use lib.Ieee.{Float, nan, inf, fin, Format, prec, low, odd, units, round, sub, lt}
use lib.Ieee.Fits.{round_is}
use lib.Ieee.Exact.{odd_sign}
use lib.Ieee.Order.{drop, kept}
use lib.Ieee.Scale.{overflow}
use Rattle.exact.proofs.Order.{Decides}
use Rattle.rounding.proofs.Operations.{Signed, Quanta, of_value, sub_is}
use Rattle.rounding.proofs.Quanta.{InFormat}
use Rattle.rounding.proofs.Comparison.{lt_quanta, nlt_quanta}
use Rattle.rounding.proofs.Sterbenz.{smaller_exact, finer_units, power_split}

-- ---- x - y is exact
pub less_power_exact : (f : Format) (x y : Float) (w : InFormat f x) (P k : ℕ) → P ≡ w.significand * 2 ^ w.shift → Quanta (2 ^ low f) x P 0 → Quanta (2 ^ low f) y (2 ^ k) 0
    → 2 ^ k ≤ P → P < 2 ^ prec f * 2 ^ k → Quanta (2 ^ low f) (sub f x y) (P + 0) (0 + 2 ^ k)
less_power_exact f x y w P k i h g l r = go (leb j k) (leb→le j k) (nleb→lt j k)
  where
    j : ℕ
    j = w.shift

    a : ℕ
    a = w.significand

    once : (u : ℕ) → u ≡ 1 * u
    once u = omega arith

    few : (a u P F : ℕ) → P ≡ a * u → P < F * u → a < F
    few a u P F e h = lt_of_mul-lt-mul_right u (omega arith)

    go : (t : Bool) → (T t → j ≤ k) → (T (not t) → k < j) → Quanta (2 ^ low f) (sub f x y) (P + 0) (0 + 2 ^ k)
    go true s t =
        let b = 2 ^ (k - j) in
        let e : 2 ^ k ≡ b * 2 ^ j = power_split j k (s tt) in
        smaller_exact f x y a b P (2 ^ k) j i e h g l w.digits w.range
    go false s t =
        let A = a * 2 ^ (j - k) in
        let e : P ≡ A * 2 ^ k = i ∙ finer_units a k j (le_of_lt (t tt)) in
        smaller_exact f x y A 1 P (2 ^ k) k e (once (2 ^ k)) h g l (few A (2 ^ k) P (2 ^ prec f) e r)
        (subst (λ (z : ℕ). z < overflow f) (sym i ∙ e) w.range)

-- ---- what is rounded from below 0 is not above a number that is not negative
bottom : (U : ℕ) (z : Float) (Q : ℕ) → Quanta U z Q 0 → T (lt z (inf true)) → ⊥
unfolding lt
bottom U nan Q h t = h
bottom U (inf s) Q h t = h
bottom U (fin s m e) Q h t = t

not_above : (f : Format) (z : Float) (Q a c : ℕ) → Quanta (2 ^ low f) z Q 0 → T (lt z (round f true a c)) → ⊥
unfolding units
not_above f z Q a c h t = go (ltb (q * 2 ^ k) (overflow f)) (subst (λ (y : Float). T (lt z y)) (round_is f true a c) t)
  where
    q : ℕ
    q = kept (prec f) (a * 2 ^ low f) c

    k : ℕ
    k = drop (prec f) (a * 2 ^ low f) c

    none : Q + q * 2 ^ k < 0 + 0 → ⊥
    none h = omega arith

    go : (b : Bool) → T (lt z (cond b (odd (suc (prec f)) true q k (low f)) (inf true))) → ⊥
    go true t = none (lt_quanta (2 ^ low f) z (odd (suc (prec f)) true q k (low f)) Q 0 0 (q * 2 ^ k) (pow_pos (low f)) h (of_value (odd (suc (prec f)) true q k (low f)) true (q * 2 ^ k) (2 ^ low f) (odd_sign (suc (prec f)) true q k (low f))) t)
    go false t = bottom (2 ^ low f) z Q h t

-- x ⊖ y, where x is below y
less_power_below : (f : Format) (x y z : Float) (P R Q : ℕ) → Quanta (2 ^ low f) x P 0 → Quanta (2 ^ low f) y R 0 → Quanta (2 ^ low f) z Q 0 → P < R → T (lt z (sub f x y)) → ⊥
less_power_below f x y z P R Q h g o l t =
    let w = sub_is f x y P 0 R 0 h g in
    go w.rounded.sign w.rounded.size w.over w.over_pos w.rounded.val (subst (λ (u : Float). T (lt z u)) w.rounded.is t)
  where
    none : (a c U : ℕ) → 0 < c → a * U + (0 + R) * c ≡ (P + 0) * c → ⊥
    none a c U C e = omega (arith, mul-lt-mul_of_pos_right l C)

    go : (s : Bool) (a c : ℕ) → 0 < c → Signed s a c (P + 0) (0 + R) (2 ^ low f) → T (lt z (round f s a c)) → ⊥
    go false a c C e t = none a c (2 ^ low f) C e
    go true a c C e t = not_above f z Q a c o t

-- ---- THE TEST: z < x ⊖ y decides z + y < x
pub less_power_decides : (f : Format) (x y z : Float) (w : InFormat f x) (P Q k : ℕ) → P ≡ w.significand * 2 ^ w.shift → Quanta (2 ^ low f) x P 0 → Quanta (2 ^ low f) y (2 ^ k) 0
    → Quanta (2 ^ low f) z Q 0 → P < 2 ^ prec f * 2 ^ k → Decides (lt z (sub f x y)) (Q + 2 ^ k) P
less_power_decides f x y z w P Q k i h g o r = go (leb (2 ^ k) P) (leb→le (2 ^ k) P) (nleb→lt (2 ^ k) P)
  where
    R : ℕ
    R = 2 ^ k

    U : ℕ
    U = 2 ^ low f

    more : (Q R P : ℕ) → Q + (0 + R) < P + 0 + 0 → Q + R < P
    more Q R P h = omega arith

    less : (Q R P : ℕ) → P + 0 + 0 ≤ Q + (0 + R) → P ≤ Q + R
    less Q R P h = omega arith

    under : (Q R P : ℕ) → P < R → P ≤ Q + R
    under Q R P h = omega arith

    go : (t : Bool) → (T t → R ≤ P) → (T (not t) → P < R) → Decides (lt z (sub f x y)) (Q + R) P
    go true s t =
        let e = less_power_exact f x y w P k i h g (s tt) r in
        record {
          passed = λ b. more Q R P (lt_quanta U z (sub f x y) Q 0 (P + 0) (0 + R) (pow_pos (low f)) o e b);
          failed = λ b. less Q R P (nlt_quanta U z (sub f x y) Q 0 (P + 0) (0 + R) o e b);
        }
    go false s t = record { passed = λ b. absurd (less_power_below f x y z P R Q h g o (t tt) b); failed = λ b. under Q R P (t tt) }
