-- THE COMPARISON BY QUANTA: where x is G / U, x is below n / W where G W < n U, and above it where n U < G W. Assumes nothing.
use mathlib.Core.Path.{◌≡◌, ap}
use mathlib.Core.Bool.{Bool, true, false}
use Prim.Native.Nat.{ℕ, ◌+◌, ◌-◌, ◌*◌, ◌/◌, ◌≤◌, ◌<◌}
use native.Mathlib.Nat.{div-lt_iff_lt-mul, le-div_iff_mul-le, mul-le-mul_right, mul-lt-mul_of_pos_right, le_of_mul-le-mul_right, lt_of_mul-lt-mul_right}
use native.Mathlib.Omega.{arith}
use lib.Dec.{ltb, ltb→lt, nltb→le}
use borrow.Author.Tests.{lt-ltb, le-ltb}
use lib.Ieee.{Float}
use Rattle.exact.specs.Fraction.{ratio, ltℚ}
use Rattle.exact.specs.Value.{value}
use Rattle.exact.proofs.Parts.{num⁺, num⁻}
use Rattle.exact.proofs.Order.{Decides, ltℚ_parts, nltℚ_parts}
use Rattle.rounding.proofs.Operations.{Quanta}
use Rattle.rounding.proofs.Quanta.{quanta_defined, quanta_value}

-- ---- P - N over D is G / U
lt_of : (P N D G U n W : ℕ) → 0 < U → 0 < D → P * U + 0 * D ≡ N * U + G * D → P * W + 0 * D < n * D + N * W → G * W < n * U
lt_of P N D G U n W u d e h = lt_of_mul-lt-mul_right D (omega (arith, mul-lt-mul_of_pos_right h u, ap (λ (x : ℕ). x * W) e))

ge_of : (P N D G U n W : ℕ) → 0 < U → 0 < D → P * U + 0 * D ≡ N * U + G * D → n * D + N * W ≤ P * W + 0 * D → n * U ≤ G * W
ge_of P N D G U n W u d e h = le_of_mul-le-mul_right {k = D} (omega (arith, mul-le-mul_right U h, ap (λ (x : ℕ). x * W) e)) d

gt_of : (P N D G U n W : ℕ) → 0 < U → 0 < D → P * U + 0 * D ≡ N * U + G * D → n * D + N * W < P * W + 0 * D → n * U < G * W
gt_of P N D G U n W u d e h = lt_of_mul-lt-mul_right D (omega (arith, mul-lt-mul_of_pos_right h u, ap (λ (x : ℕ). x * W) e))

le_of : (P N D G U n W : ℕ) → 0 < U → 0 < D → P * U + 0 * D ≡ N * U + G * D → P * W + 0 * D ≤ n * D + N * W → G * W ≤ n * U
le_of P N D G U n W u d e h = le_of_mul-le-mul_right {k = D} (omega (arith, mul-le-mul_right U h, ap (λ (x : ℕ). x * W) e)) d

module _ (x : Float) (G U n W : ℕ) (u : 0 < U) (q : Quanta U x G 0) where
  pub below_decides : Decides (ltℚ (value x) (ratio n W)) (G * W) (n * U)
  below_decides =
      let a = value x in
      let d = quanta_defined U x G 0 q in
      let e = quanta_value U x G 0 q in
      record {
        passed = λ h. lt_of (num⁺ a) (num⁻ a) a.den G U n W u d e (ltℚ_parts a (ratio n W) h);
        failed = λ h. ge_of (num⁺ a) (num⁻ a) a.den G U n W u d e (nltℚ_parts a (ratio n W) h);
      }

  pub above_decides : Decides (ltℚ (ratio n W) (value x)) (n * U) (G * W)
  above_decides =
      let a = value x in
      let d = quanta_defined U x G 0 q in
      let e = quanta_value U x G 0 q in
      record {
        passed = λ h. gt_of (num⁺ a) (num⁻ a) a.den G U n W u d e (ltℚ_parts (ratio n W) a h);
        failed = λ h. le_of (num⁺ a) (num⁻ a) a.den G U n W u d e (nltℚ_parts (ratio n W) a h);
      }

-- ---- a quotient, rounded down or up
pub low_missed : (n d low : ℕ) → 0 < d → n / d < low → ltb n (low * d) ≡ true
low_missed n d low p h = lt-ltb n (low * d) ((div-lt_iff_lt-mul p).0 h)

pub low_met : (n d low : ℕ) → 0 < d → low ≤ n / d → ltb n (low * d) ≡ false
low_met n d low p h = le-ltb n (low * d) ((le-div_iff_mul-le p).0 h)

pub high_passed : (n d high : ℕ) → 0 < d → high < (n + (d - 1)) / d → ltb (high * d) n ≡ true
high_passed n d high p h = let l : (high + 1) * d ≤ n + (d - 1) = (le-div_iff_mul-le p).0 (omega arith) in lt-ltb (high * d) n (omega arith)

pub high_met : (n d high : ℕ) → 0 < d → (n + (d - 1)) / d ≤ high → ltb (high * d) n ≡ false
high_met n d high p h = let l : n + (d - 1) < (high + 1) * d = (div-lt_iff_lt-mul p).0 (omega arith) in le-ltb (high * d) n (omega arith)

-- ---- a factor K of both sides changes no test
pub ltb_decides : (a b : ℕ) → Decides (ltb a b) a b
ltb_decides a b = record { passed = ltb→lt a b; failed = nltb→le a b }

pub scaled_decides : (t : Bool) (a b A B K : ℕ) → 0 < K → A ≡ a * K → B ≡ b * K → Decides t A B → Decides t a b
scaled_decides t a b A B K k e f h =
    record {
      passed = λ p. lt_of_mul-lt-mul_right K (lower a b A B K e f (h.passed p));
      failed = λ p. le_of_mul-le-mul_right {k = K} (upper a b A B K e f (h.failed p)) k;
    }
  where
    lower : (a b A B K : ℕ) → A ≡ a * K → B ≡ b * K → A < B → a * K < b * K
    lower a b A B K e f h = omega arith

    upper : (a b A B K : ℕ) → A ≡ a * K → B ≡ b * K → B ≤ A → b * K ≤ a * K
    upper a b A B K e f h = omega arith
