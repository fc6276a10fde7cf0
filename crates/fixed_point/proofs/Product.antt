-- THE PRODUCT OF A FLOAT AND A NUMBER, ROUNDED, from the float's quanta: where p is G / U, the whole number nearest to p n is (2 G n + U) / 2 U, rounded down. Assumes nothing.
use mathlib.Core.Path.{◌≡◌, ap}
use Prim.Native.Nat.{ℕ, ◌+◌, ◌*◌, ◌/◌, ◌≤◌, ◌<◌}
use native.Mathlib.Nat.{mul-le-mul_right, mul-lt-mul_of_pos_right, le_of_mul-le-mul_right, lt_of_mul-lt-mul_right, div-add-mod', mod-lt}
use native.Mathlib.Omega.{arith}
use lib.IntN.{pos, nat_abs}
use lib.Ieee.{Float}
use Rattle.exact.specs.Fraction.{ratio, ◌+ℚ◌, ◌*ℚ◌}
use Rattle.exact.specs.Value.{value}
use Rattle.exact.proofs.Parts.{part⁺, part⁻, num⁺, num⁻, scale⁺, scale⁻, sum_parts}
use Rattle.rounding.proofs.Operations.{Quanta}
use Rattle.rounding.proofs.Quanta.{quanta_defined, quanta_value}
use Rattle.exact.proofs.FloorUnique.{floor_unique}
use Rattle.fixed_point.specs.Nearest.{nearestℚ}

-- p n + 1/2, over 2 D, has B - C in place of its numerator, times U
scaled : (P N D G n U B C : ℕ) → P * U + 0 * D ≡ N * U + G * D → B + (N * n * 2 + 0 * (D * 1)) ≡ C + (P * n * 2 + 1 * (D * 1)) → B * U ≡ C * U + (G * n * 2 + U) * D
scaled P N D G n U B C e f = omega (arith, ap (λ (x : ℕ). x * U) f, ap (λ (x : ℕ). x * (n * 2)) e)

low_of : (D G n U B C z : ℕ) → 0 < U → z * (U * 2) ≤ G * n * 2 + U → B * U ≡ C * U + (G * n * 2 + U) * D → z * (D * 1 * 2) + C ≤ B + 0 * (D * 1 * 2)
low_of D G n U B C z u h e = le_of_mul-le-mul_right {k = U} (omega (arith, mul-le-mul_right D h)) u

high_of : (D G n U B C z : ℕ) → 0 < D → G * n * 2 + U < z * (U * 2) + U * 2 → B * U ≡ C * U + (G * n * 2 + U) * D → B + 0 * (D * 1 * 2) < z * (D * 1 * 2) + D * 1 * 2 + C
high_of D G n U B C z d h e = lt_of_mul-lt-mul_right U (omega (arith, mul-lt-mul_of_pos_right h d))

pub product : (U : ℕ) (p : Float) (G n : ℕ) → 0 < U → Quanta U p G 0 → nearestℚ (value p *ℚ ratio n 1) ≡ (G * n * 2 + U) / (U * 2)
product U p G n u q =
    let a = value p in
    let b = a *ℚ ratio n 1 +ℚ ratio 1 2 in
    let D = a.den in
    let d : 0 < D = quanta_defined U p G 0 q in
    let z = (G * n * 2 + U) / (U * 2) in
    let s : num⁺ b + (part⁻ a.num * n * 2 + 0 * (D * 1)) ≡ num⁻ b + (part⁺ a.num * n * 2 + 1 * (D * 1)) = rw (← scale⁺ a.num n, ← scale⁻ a.num n) (sum_parts (a *ℚ ratio n 1) (ratio 1 2)) in
    let e = scaled (num⁺ a) (num⁻ a) D G n U (num⁺ b) (num⁻ b) (quanta_value U p G 0 q) s in
    let w : 0 < U * 2 = omega arith in
    let l : z * (U * 2) ≤ G * n * 2 + U = omega (arith, div-add-mod' (G * n * 2 + U) (U * 2)) in
    let h : G * n * 2 + U < z * (U * 2) + U * 2 = omega (arith, div-add-mod' (G * n * 2 + U) (U * 2), mod-lt (G * n * 2 + U) w) in
    ap nat_abs (floor_unique b (pos z) (defined D d) (record { low = low_of D G n U (num⁺ b) (num⁻ b) z u l e; high = high_of D G n U (num⁺ b) (num⁻ b) z d h e }))
  where
    defined : (D : ℕ) → 0 < D → 0 < D * 1 * 2
    defined D d = omega arith
