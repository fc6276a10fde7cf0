-- THE SINE'S SERIES AT AN ANGLE IS AT MOST 1 + 321 / 10 ^ 8, where its terms from order 9 up are at most 274 / 10 ^ 8 times the angle's power. What is left is a polynomial of order 9 in
-- the angle a; by x = 226 a and y = 355 - 226 a (355 / 226 is just above a quarter turn) its distance to the bound has no negative coefficient. Assumes nothing.
use mathlib.Core.Path.{◌≡◌, refl, sym, ap, subst, subst₂, ◌∙◌}
use Prim.Native.Nat.{ℕ, ◌+◌, ◌-◌, ◌*◌, ◌^◌, ◌≤◌, ◌<◌}
use native.Mathlib.Nat.{mul-pos, mul-le-mul_right, le_of_mul-le-mul_right}
use native.Mathlib.Omega.{arith}
use lib.Dec.{lit<, lit≤}
use Rattle.exact.specs.Fraction.{Fraction, ratio, ◌+ℚ◌, ◌*ℚ◌, ◌≤ℚ◌}
use Rattle.exact.proofs.Close.{ring, semiring}
use Rattle.exact.proofs.Parts.{num⁺, num⁻, times⁺, times⁻, sum_parts}
use Rattle.exact.proofs.Order.{parts-≤ℚ}
use Rattle.series.specs.Horner.{hornerℚ}
use Rattle.series.specs.Terms.{terms, factorial}
use Rattle.sine.specs.Exact.{sine_term, sine_terms, sine_of_angleℚ}

-- ---- x ≤ (P - N) / D, in naturals
pub record Below (x : Fraction) (P N D : ℕ) : Type 0 where
  pub le : num⁺ x * D + N * x.den ≤ P * x.den + num⁻ x * D

spread : (a b c d e f z : ℕ) → a + (b + c) ≡ d + (e + f) → a * z + (b * z + c * z) ≡ d * z + (e * z + f * z)
spread a b c d e f z h = omega (arith, ap (λ (t : ℕ). t * z) h)

recast : {a b a' b' : ℕ} → a ≤ b → a ≡ a' → b ≡ b' → a' ≤ b'
recast h i j = subst₂ (λ (x y : ℕ). x ≤ y) i j h

linear : (s r b a g f l k n p : ℕ) → s + (b + g) ≡ r + (a + f) → a + l ≤ k + b → f + n ≤ p + g → s + (l + n) ≤ k + p + r
linear s r b a g f l k n p e h i = omega arith

-- a step of Horner's rule: c + (m / q) e, with c and e bounded over E and E D
step : (c e : Fraction) (m q k l E P N D : ℕ) → Below c k l E → Below e P N (E * D) → Below (c +ℚ ratio m q *ℚ e) (k * (q * D) + m * P) (l * (q * D) + m * N) (E * (q * D))
step c e m q k l E P N D h i =
    let t = ratio m q *ℚ e in
    let s = c +ℚ t in
    record {
      le = core (num⁺ c) (num⁻ c) c.den (num⁺ e) (num⁻ e) e.den (num⁺ t) (num⁻ t) (num⁺ s) (num⁻ s) (times⁺ m e.num) (times⁻ m e.num) (sum_parts c t) h.le i.le;
    }
  where
    core : (A B C F G H X Y S R : ℕ) → X ≡ m * F → Y ≡ m * G → S + (B * (q * H) + Y * C) ≡ R + (A * (q * H) + X * C) → A * E + l * C ≤ k * C + B * E → F * (E * D) + N * H ≤ P * H + G * (E * D)
        → S * (E * (q * D)) + (l * (q * D) + m * N) * (C * (q * H)) ≤ (k * (q * D) + m * P) * (C * (q * H)) + R * (E * (q * D))
    core A B C F G H X Y S R x y e h i =
        let Z = E * (q * D) in
        let W = C * (q * H) in
        recast
        (linear (S * Z) (R * Z) (B * (q * H) * Z) (A * (q * H) * Z) (Y * C * Z) (X * C * Z) (l * (q * D) * W) (k * (q * D) * W) (m * N * W) (m * P * W)
        (spread S (B * (q * H)) (Y * C) R (A * (q * H)) (X * C) Z e)
        (recast (mul-le-mul_right (q * D * (q * H)) h) (simp semiring) (simp semiring))
        (recast (mul-le-mul_right (m * C * q) i) (rw x (simp semiring)) (rw y (simp semiring))))
        (simp semiring) (simp semiring)

-- ---- the polynomial of order 9 in x and z = x + y
-- z ^ 2, z ^ 4, z ^ 6, z ^ 8 and z ^ 9, times the power of x that makes the order 9, by the monomials m of x and y
linear_top : (t0 t1 t3 t5 t7 m0 m1 m2 m3 m4 m5 m6 m7 m8 m9 : ℕ) → t0 ≡ 1 * m0 + 9 * m1 + 36 * m2 + 84 * m3 + 126 * m4 + 126 * m5 + 84 * m6 + 36 * m7 + 9 * m8 + 1 * m9 → t1 ≡ 1 * m0 + 8 * m1 + 28 * m2 + 56 * m3 + 70 * m4 + 56 * m5 + 28 * m6 + 8 * m7 + 1 * m8 → t3 ≡ 1 * m0 + 6 * m1 + 15 * m2 + 20 * m3 + 15 * m4 + 6 * m5 + 1 * m6 → t5 ≡ 1 * m0 + 4 * m1 + 6 * m2 + 4 * m3 + 1 * m4 → t7 ≡ 1 * m0 + 2 * m1 + 1 * m2
    → 157079647 * t1 + 7969273 * t5 + 15953 * m0 ≤ 100000321 * t0 + 64596423 * t3 + 468169 * t7
linear_top t0 t1 t3 t5 t7 m0 m1 m2 m3 m4 m5 m6 m7 m8 m9 h0 h1 h3 h5 h7 = omega arith

square : (x y : ℕ) → (x + y) * (x + y) ≡ 1 * (x * x) + 2 * (x * y) + 1 * (y * y)
square x y = omega arith

fourth : (x y : ℕ) → (x + y) * (x + y) * ((x + y) * (x + y)) ≡ 1 * (x * x * x * x) + 4 * (x * x * x * y) + 6 * (x * x * y * y) + 4 * (x * y * y * y) + 1 * (y * y * y * y)
fourth x y = ap (λ (t : ℕ). t * t) (square x y) ∙ go
  where
    go : (1 * (x * x) + 2 * (x * y) + 1 * (y * y)) * (1 * (x * x) + 2 * (x * y) + 1 * (y * y)) ≡ 1 * (x * x * x * x) + 4 * (x * x * x * y) + 6 * (x * x * y * y) + 4 * (x * y * y * y) + 1 * (y * y * y * y)
    go = omega arith

eighth : (x y : ℕ) → (x + y) * (x + y) * ((x + y) * (x + y)) * ((x + y) * (x + y) * ((x + y) * (x + y))) ≡ 1 * (x * x * x * x * x * x * x * x) + 8 * (x * x * x * x * x * x * x * y) + 28 * (x * x * x * x * x * x * y * y) + 56 * (x * x * x * x * x * y * y * y) + 70 * (x * x * x * x * y * y * y * y) + 56 * (x * x * x * y * y * y * y * y) + 28 * (x * x * y * y * y * y * y * y) + 8 * (x * y * y * y * y * y * y * y) + 1 * (y * y * y * y * y * y * y * y)
eighth x y = ap (λ (t : ℕ). t * t) (fourth x y) ∙ go
  where
    go : (1 * (x * x * x * x) + 4 * (x * x * x * y) + 6 * (x * x * y * y) + 4 * (x * y * y * y) + 1 * (y * y * y * y)) * (1 * (x * x * x * x) + 4 * (x * x * x * y) + 6 * (x * x * y * y) + 4 * (x * y * y * y) + 1 * (y * y * y * y)) ≡ 1 * (x * x * x * x * x * x * x * x) + 8 * (x * x * x * x * x * x * x * y) + 28 * (x * x * x * x * x * x * y * y) + 56 * (x * x * x * x * x * y * y * y) + 70 * (x * x * x * x * y * y * y * y) + 56 * (x * x * x * y * y * y * y * y) + 28 * (x * x * y * y * y * y * y * y) + 8 * (x * y * y * y * y * y * y * y) + 1 * (y * y * y * y * y * y * y * y)
    go = simp ring (omega arith)

ninth : (x y z8 : ℕ) → z8 ≡ 1 * (x * x * x * x * x * x * x * x) + 8 * (x * x * x * x * x * x * x * y) + 28 * (x * x * x * x * x * x * y * y) + 56 * (x * x * x * x * x * y * y * y) + 70 * (x * x * x * x * y * y * y * y) + 56 * (x * x * x * y * y * y * y * y) + 28 * (x * x * y * y * y * y * y * y) + 8 * (x * y * y * y * y * y * y * y) + 1 * (y * y * y * y * y * y * y * y) → (x + y) * z8 ≡ 1 * (x * x * x * x * x * x * x * x * x) + 9 * (x * x * x * x * x * x * x * x * y) + 36 * (x * x * x * x * x * x * x * y * y) + 84 * (x * x * x * x * x * x * y * y * y) + 126 * (x * x * x * x * x * y * y * y * y) + 126 * (x * x * x * x * y * y * y * y * y) + 84 * (x * x * x * y * y * y * y * y * y) + 36 * (x * x * y * y * y * y * y * y * y) + 9 * (x * y * y * y * y * y * y * y * y) + 1 * (y * y * y * y * y * y * y * y * y)
ninth x y z8 e = ap (λ (t : ℕ). (x + y) * t) e ∙ go
  where
    go : (x + y) * (1 * (x * x * x * x * x * x * x * x) + 8 * (x * x * x * x * x * x * x * y) + 28 * (x * x * x * x * x * x * y * y) + 56 * (x * x * x * x * x * y * y * y) + 70 * (x * x * x * x * y * y * y * y) + 56 * (x * x * x * y * y * y * y * y) + 28 * (x * x * y * y * y * y * y * y) + 8 * (x * y * y * y * y * y * y * y) + 1 * (y * y * y * y * y * y * y * y)) ≡ 1 * (x * x * x * x * x * x * x * x * x) + 9 * (x * x * x * x * x * x * x * x * y) + 36 * (x * x * x * x * x * x * x * y * y) + 84 * (x * x * x * x * x * x * y * y * y) + 126 * (x * x * x * x * x * y * y * y * y) + 126 * (x * x * x * x * y * y * y * y * y) + 84 * (x * x * x * y * y * y * y * y * y) + 36 * (x * x * y * y * y * y * y * y * y) + 9 * (x * y * y * y * y * y * y * y * y) + 1 * (y * y * y * y * y * y * y * y * y)
    go = simp ring (omega arith)

first_eighth : (x y z8 : ℕ) → z8 ≡ 1 * (x * x * x * x * x * x * x * x) + 8 * (x * x * x * x * x * x * x * y) + 28 * (x * x * x * x * x * x * y * y) + 56 * (x * x * x * x * x * y * y * y) + 70 * (x * x * x * x * y * y * y * y) + 56 * (x * x * x * y * y * y * y * y) + 28 * (x * x * y * y * y * y * y * y) + 8 * (x * y * y * y * y * y * y * y) + 1 * (y * y * y * y * y * y * y * y) → x * z8 ≡ 1 * (x * x * x * x * x * x * x * x * x) + 8 * (x * x * x * x * x * x * x * x * y) + 28 * (x * x * x * x * x * x * x * y * y) + 56 * (x * x * x * x * x * x * y * y * y) + 70 * (x * x * x * x * x * y * y * y * y) + 56 * (x * x * x * x * y * y * y * y * y) + 28 * (x * x * x * y * y * y * y * y * y) + 8 * (x * x * y * y * y * y * y * y * y) + 1 * (x * y * y * y * y * y * y * y * y)
first_eighth x y z8 e = ap (λ (t : ℕ). x * t) e ∙ go
  where
    go : x * (1 * (x * x * x * x * x * x * x * x) + 8 * (x * x * x * x * x * x * x * y) + 28 * (x * x * x * x * x * x * y * y) + 56 * (x * x * x * x * x * y * y * y) + 70 * (x * x * x * x * y * y * y * y) + 56 * (x * x * x * y * y * y * y * y) + 28 * (x * x * y * y * y * y * y * y) + 8 * (x * y * y * y * y * y * y * y) + 1 * (y * y * y * y * y * y * y * y)) ≡ 1 * (x * x * x * x * x * x * x * x * x) + 8 * (x * x * x * x * x * x * x * x * y) + 28 * (x * x * x * x * x * x * x * y * y) + 56 * (x * x * x * x * x * x * y * y * y) + 70 * (x * x * x * x * x * y * y * y * y) + 56 * (x * x * x * x * y * y * y * y * y) + 28 * (x * x * x * y * y * y * y * y * y) + 8 * (x * x * y * y * y * y * y * y * y) + 1 * (x * y * y * y * y * y * y * y * y)
    go = simp ring (omega arith)

third_sixth : (x y z4 z2 : ℕ) → z4 ≡ 1 * (x * x * x * x) + 4 * (x * x * x * y) + 6 * (x * x * y * y) + 4 * (x * y * y * y) + 1 * (y * y * y * y) → z2 ≡ 1 * (x * x) + 2 * (x * y) + 1 * (y * y) → x * x * x * (z4 * z2) ≡ 1 * (x * x * x * x * x * x * x * x * x) + 6 * (x * x * x * x * x * x * x * x * y) + 15 * (x * x * x * x * x * x * x * y * y) + 20 * (x * x * x * x * x * x * y * y * y) + 15 * (x * x * x * x * x * y * y * y * y) + 6 * (x * x * x * x * y * y * y * y * y) + 1 * (x * x * x * y * y * y * y * y * y)
third_sixth x y z4 z2 e h = ap (λ (t : ℕ). x * x * x * (t * z2)) e ∙ ap (λ (t : ℕ). x * x * x * ((1 * (x * x * x * x) + 4 * (x * x * x * y) + 6 * (x * x * y * y) + 4 * (x * y * y * y) + 1 * (y * y * y * y)) * t)) h ∙ ap (λ (t : ℕ). x * x * x * t) six ∙ go
  where
    six : (1 * (x * x * x * x) + 4 * (x * x * x * y) + 6 * (x * x * y * y) + 4 * (x * y * y * y) + 1 * (y * y * y * y)) * (1 * (x * x) + 2 * (x * y) + 1 * (y * y)) ≡ 1 * (x * x * x * x * x * x) + 6 * (x * x * x * x * x * y) + 15 * (x * x * x * x * y * y) + 20 * (x * x * x * y * y * y) + 15 * (x * x * y * y * y * y) + 6 * (x * y * y * y * y * y) + 1 * (y * y * y * y * y * y)
    six = simp ring (omega arith)

    go : x * x * x * (1 * (x * x * x * x * x * x) + 6 * (x * x * x * x * x * y) + 15 * (x * x * x * x * y * y) + 20 * (x * x * x * y * y * y) + 15 * (x * x * y * y * y * y) + 6 * (x * y * y * y * y * y) + 1 * (y * y * y * y * y * y)) ≡ 1 * (x * x * x * x * x * x * x * x * x) + 6 * (x * x * x * x * x * x * x * x * y) + 15 * (x * x * x * x * x * x * x * y * y) + 20 * (x * x * x * x * x * x * y * y * y) + 15 * (x * x * x * x * x * y * y * y * y) + 6 * (x * x * x * x * y * y * y * y * y) + 1 * (x * x * x * y * y * y * y * y * y)
    go = simp ring (omega arith)

fifth_fourth : (x y z4 : ℕ) → z4 ≡ 1 * (x * x * x * x) + 4 * (x * x * x * y) + 6 * (x * x * y * y) + 4 * (x * y * y * y) + 1 * (y * y * y * y) → x * x * x * x * x * z4 ≡ 1 * (x * x * x * x * x * x * x * x * x) + 4 * (x * x * x * x * x * x * x * x * y) + 6 * (x * x * x * x * x * x * x * y * y) + 4 * (x * x * x * x * x * x * y * y * y) + 1 * (x * x * x * x * x * y * y * y * y)
fifth_fourth x y z4 e = ap (λ (t : ℕ). x * x * x * x * x * t) e ∙ go
  where
    go : x * x * x * x * x * (1 * (x * x * x * x) + 4 * (x * x * x * y) + 6 * (x * x * y * y) + 4 * (x * y * y * y) + 1 * (y * y * y * y)) ≡ 1 * (x * x * x * x * x * x * x * x * x) + 4 * (x * x * x * x * x * x * x * x * y) + 6 * (x * x * x * x * x * x * x * y * y) + 4 * (x * x * x * x * x * x * y * y * y) + 1 * (x * x * x * x * x * y * y * y * y)
    go = simp ring (omega arith)

seventh_square : (x y z2 : ℕ) → z2 ≡ 1 * (x * x) + 2 * (x * y) + 1 * (y * y) → x * x * x * x * x * x * x * z2 ≡ 1 * (x * x * x * x * x * x * x * x * x) + 2 * (x * x * x * x * x * x * x * x * y) + 1 * (x * x * x * x * x * x * x * y * y)
seventh_square x y z2 e = ap (λ (t : ℕ). x * x * x * x * x * x * x * t) e ∙ go
  where
    go : x * x * x * x * x * x * x * (1 * (x * x) + 2 * (x * y) + 1 * (y * y)) ≡ 1 * (x * x * x * x * x * x * x * x * x) + 2 * (x * x * x * x * x * x * x * x * y) + 1 * (x * x * x * x * x * x * x * y * y)
    go = simp ring (omega arith)

top : (x y z z2 z4 z8 : ℕ) → z ≡ x + y → z2 ≡ z * z → z4 ≡ z2 * z2 → z8 ≡ z4 * z4
    → 157079647 * (x * z8) + 7969273 * (x * x * x * x * x * z4) + 15953 * (x * x * x * x * x * x * x * x * x) ≤ 100000321 * (z * z8) + 64596423 * (x * x * x * (z4 * z2)) + 468169 * (x * x * x * x * x * x * x * z2)
top x y z z2 z4 z8 e e2 e4 e8 =
    let p : z2 ≡ (x + y) * (x + y) = e2 ∙ ap (λ (t : ℕ). t * t) e in
    let q : z4 ≡ (x + y) * (x + y) * ((x + y) * (x + y)) = e4 ∙ ap (λ (t : ℕ). t * t) p in
    let r : z8 ≡ (x + y) * (x + y) * ((x + y) * (x + y)) * ((x + y) * (x + y) * ((x + y) * (x + y))) = e8 ∙ ap (λ (t : ℕ). t * t) q in
    linear_top (z * z8) (x * z8) (x * x * x * (z4 * z2)) (x * x * x * x * x * z4) (x * x * x * x * x * x * x * z2)
    (x * x * x * x * x * x * x * x * x) (x * x * x * x * x * x * x * x * y) (x * x * x * x * x * x * x * y * y) (x * x * x * x * x * x * y * y * y) (x * x * x * x * x * y * y * y * y) (x * x * x * x * y * y * y * y * y) (x * x * x * y * y * y * y * y * y) (x * x * y * y * y * y * y * y * y) (x * y * y * y * y * y * y * y * y) (y * y * y * y * y * y * y * y * y)
    (ap (λ (t : ℕ). t * z8) e ∙ ninth x y z8 (r ∙ eighth x y)) (first_eighth x y z8 (r ∙ eighth x y)) (third_sixth x y z4 z2 (q ∙ fourth x y) (p ∙ square x y)) (fifth_fourth x y z4 (q ∙ fourth x y)) (seventh_square x y z2 (p ∙ square x y))

-- ---- the same in n and d, for n / d at most 355 / 226
monomial1 : (α β n d : ℕ) → (α * n) * ((((β * d) * (β * d)) * ((β * d) * (β * d))) * (((β * d) * (β * d)) * ((β * d) * (β * d)))) ≡ (α * (((β * β) * (β * β)) * ((β * β) * (β * β)))) * (n * (d * d * (d * d) * (d * d * (d * d))))
monomial1 α β n d = simp semiring

monomial5 : (α β n d : ℕ) → (α * n) * (α * n) * (α * n) * (α * n) * (α * n) * (((β * d) * (β * d)) * ((β * d) * (β * d))) ≡ (α * α * α * α * α * ((β * β) * (β * β))) * (n * n * n * n * n * (d * d * (d * d)))
monomial5 α β n d = simp semiring

monomial9 : (α β n d : ℕ) → (α * n) * (α * n) * (α * n) * (α * n) * (α * n) * (α * n) * (α * n) * (α * n) * (α * n) ≡ (α * α * α * α * α * α * α * α * α) * (n * n * n * n * n * n * n * n * n)
monomial9 α β n d = simp semiring

monomial0 : (α β n d : ℕ) → (β * d) * ((((β * d) * (β * d)) * ((β * d) * (β * d))) * (((β * d) * (β * d)) * ((β * d) * (β * d)))) ≡ (β * (((β * β) * (β * β)) * ((β * β) * (β * β)))) * (d * (d * d * (d * d) * (d * d * (d * d))))
monomial0 α β n d = simp semiring

monomial3 : (α β n d : ℕ) → (α * n) * (α * n) * (α * n) * ((((β * d) * (β * d)) * ((β * d) * (β * d))) * ((β * d) * (β * d))) ≡ (α * α * α * (((β * β) * (β * β)) * (β * β))) * (n * n * n * ((d * d * (d * d)) * (d * d)))
monomial3 α β n d = simp semiring

monomial7 : (α β n d : ℕ) → (α * n) * (α * n) * (α * n) * (α * n) * (α * n) * (α * n) * (α * n) * ((β * d) * (β * d)) ≡ (α * α * α * α * α * α * α * (β * β)) * (n * n * n * n * n * n * n * (d * d))
monomial7 α β n d = simp semiring

assemble : (K1 K5 K9 K0 K3 K7 A1 A5 A9 A0 A3 A7 m1 m5 m9 m0 m3 m7 t1 t5 t9 t0 t3 t7 : ℕ) → K1 * t1 + K5 * t5 + K9 * t9 ≤ K0 * t0 + K3 * t3 + K7 * t7
    → t1 ≡ A1 * m1 → t5 ≡ A5 * m5 → t9 ≡ A9 * m9 → t0 ≡ A0 * m0 → t3 ≡ A3 * m3 → t7 ≡ A7 * m7 → K1 * A1 * m1 + K5 * A5 * m5 + K9 * A9 * m9 ≤ K0 * A0 * m0 + K3 * A3 * m3 + K7 * A7 * m7
assemble K1 K5 K9 K0 K3 K7 A1 A5 A9 A0 A3 A7 m1 m5 m9 m0 m3 m7 t1 t5 t9 t0 t3 t7 h e1 e5 e9 e0 e3 e7 =
    recast (rw (e1, e5, e9, e0, e3, e7) at h) (simp semiring) (simp semiring)

weigh : (Y c1 c5 c9 c0 c3 c7 g1 g5 g9 g0 g3 g7 m1 m5 m9 m0 m3 m7 : ℕ) → 0 < Y → c1 * m1 + c5 * m5 + c9 * m9 ≤ c0 * m0 + c3 * m3 + c7 * m7
    → Y * g1 ≤ c1 → Y * g5 ≤ c5 → Y * g9 ≤ c9 → c0 ≤ Y * g0 → c3 ≤ Y * g3 → c7 ≤ Y * g7 → g1 * m1 + g5 * m5 + g9 * m9 ≤ g0 * m0 + g3 * m3 + g7 * m7
weigh Y c1 c5 c9 c0 c3 c7 g1 g5 g9 g0 g3 g7 m1 m5 m9 m0 m3 m7 u h a b c d e f =
    le_of_mul-le-mul_right
    (recast (total (Y * g1 * m1) (Y * g5 * m5) (Y * g9 * m9) (Y * g0 * m0) (Y * g3 * m3) (Y * g7 * m7) (c1 * m1) (c5 * m5) (c9 * m9) (c0 * m0) (c3 * m3) (c7 * m7) h
    (mul-le-mul_right m1 a) (mul-le-mul_right m5 b) (mul-le-mul_right m9 c) (mul-le-mul_right m0 d) (mul-le-mul_right m3 e) (mul-le-mul_right m7 f)) (simp semiring) (simp semiring)) u
  where
    total : (a b c d e f p q r s t u : ℕ) → p + q + r ≤ s + t + u → a ≤ p → b ≤ q → c ≤ r → s ≤ d → t ≤ e → u ≤ f → a + b + c ≤ d + e + f
    total a b c d e f p q r s t u h i j k l m n = omega arith

order_nine : (n d y : ℕ) → 355 * d ≡ 226 * n + y
    → 100000000 * (n * (d * d * (d * d) * (d * d * (d * d)))) + 833334 * (n * n * n * n * n * (d * d * (d * d))) + 274 * (n * n * n * n * n * n * n * n * n) ≤ 100000321 * (d * (d * d * (d * d) * (d * d * (d * d)))) + 16666666 * (n * n * n * ((d * d * (d * d)) * (d * d))) + 19841 * (n * n * n * n * n * n * n * (d * d))
order_nine n d y e =
    weigh (355 ^ 9) (157079647 * (226 * (((355 * 355) * (355 * 355)) * ((355 * 355) * (355 * 355))))) (7969273 * (226 * 226 * 226 * 226 * 226 * ((355 * 355) * (355 * 355)))) (15953 * (226 * 226 * 226 * 226 * 226 * 226 * 226 * 226 * 226)) (100000321 * (355 * (((355 * 355) * (355 * 355)) * ((355 * 355) * (355 * 355))))) (64596423 * (226 * 226 * 226 * (((355 * 355) * (355 * 355)) * (355 * 355)))) (468169 * (226 * 226 * 226 * 226 * 226 * 226 * 226 * (355 * 355))) 100000000 833334 274 100000321 16666666 19841 (n * (d * d * (d * d) * (d * d * (d * d)))) (n * n * n * n * n * (d * d * (d * d))) (n * n * n * n * n * n * n * n * n) (d * (d * d * (d * d) * (d * d * (d * d)))) (n * n * n * ((d * d * (d * d)) * (d * d))) (n * n * n * n * n * n * n * (d * d)) (lit< tt)
    (assemble 157079647 7969273 15953 100000321 64596423 468169 (226 * (((355 * 355) * (355 * 355)) * ((355 * 355) * (355 * 355)))) (226 * 226 * 226 * 226 * 226 * ((355 * 355) * (355 * 355))) (226 * 226 * 226 * 226 * 226 * 226 * 226 * 226 * 226) (355 * (((355 * 355) * (355 * 355)) * ((355 * 355) * (355 * 355)))) (226 * 226 * 226 * (((355 * 355) * (355 * 355)) * (355 * 355))) (226 * 226 * 226 * 226 * 226 * 226 * 226 * (355 * 355)) (n * (d * d * (d * d) * (d * d * (d * d)))) (n * n * n * n * n * (d * d * (d * d))) (n * n * n * n * n * n * n * n * n) (d * (d * d * (d * d) * (d * d * (d * d)))) (n * n * n * ((d * d * (d * d)) * (d * d))) (n * n * n * n * n * n * n * (d * d)) ((226 * n) * ((((355 * d) * (355 * d)) * ((355 * d) * (355 * d))) * (((355 * d) * (355 * d)) * ((355 * d) * (355 * d))))) ((226 * n) * (226 * n) * (226 * n) * (226 * n) * (226 * n) * (((355 * d) * (355 * d)) * ((355 * d) * (355 * d)))) ((226 * n) * (226 * n) * (226 * n) * (226 * n) * (226 * n) * (226 * n) * (226 * n) * (226 * n) * (226 * n)) ((355 * d) * ((((355 * d) * (355 * d)) * ((355 * d) * (355 * d))) * (((355 * d) * (355 * d)) * ((355 * d) * (355 * d))))) ((226 * n) * (226 * n) * (226 * n) * ((((355 * d) * (355 * d)) * ((355 * d) * (355 * d))) * ((355 * d) * (355 * d)))) ((226 * n) * (226 * n) * (226 * n) * (226 * n) * (226 * n) * (226 * n) * (226 * n) * ((355 * d) * (355 * d)))
    (top (226 * n) y (355 * d) ((355 * d) * (355 * d)) (((355 * d) * (355 * d)) * ((355 * d) * (355 * d))) ((((355 * d) * (355 * d)) * ((355 * d) * (355 * d))) * (((355 * d) * (355 * d)) * ((355 * d) * (355 * d)))) e refl refl refl)
    (monomial1 226 355 n d) (monomial5 226 355 n d) (monomial9 226 355 n d) (monomial0 226 355 n d) (monomial3 226 355 n d) (monomial7 226 355 n d))
    (lit≤ tt) (lit≤ tt) (lit≤ tt) (lit≤ tt) (lit≤ tt) (lit≤ tt)

-- ---- THE SERIES AT AN ANGLE n / d
abbrev pub tail_at : Fraction → Fraction
tail_at u = hornerℚ (terms sine_term 4 7) u

series_is : (a : Fraction) → sine_of_angleℚ a ≡ a *ℚ (sine_term 0 +ℚ a *ℚ a *ℚ (sine_term 1 +ℚ a *ℚ a *ℚ (sine_term 2 +ℚ a *ℚ a *ℚ (sine_term 3 +ℚ a *ℚ a *ℚ tail_at (a *ℚ a)))))
unfolding sine_of_angleℚ hornerℚ sine_terms terms
series_is a = refl

term0 : Below (sine_term 0) 100000000 0 100000000
unfolding sine_term factorial
term0 = record { le = lit≤ tt }

term1 : Below (sine_term 1) 0 16666666 100000000
unfolding sine_term factorial
term1 = record { le = lit≤ tt }

term2 : Below (sine_term 2) 833334 0 100000000
unfolding sine_term factorial
term2 = record { le = lit≤ tt }

term3 : Below (sine_term 3) 0 19841 100000000
unfolding sine_term factorial
term3 = record { le = lit≤ tt }

-- n / d times what is at most (P - N) / (E D)
finish : (e : Fraction) (n d P N D M E : ℕ) → 0 < D → Below e P N (E * D) → n * P ≤ n * N + M * (d * D) → ratio n d *ℚ e ≤ℚ ratio M E
finish e n d P N D M E O h l =
    let s = ratio n d *ℚ e in
    parts-≤ℚ s (ratio M E) (core (num⁺ e) (num⁻ e) e.den (num⁺ s) (num⁻ s) (times⁺ n e.num) (times⁻ n e.num) h.le)
  where
    linear_finish : (x y a b c : ℕ) → x + a ≤ b + y → b ≤ a + c → x ≤ c + y
    linear_finish x y a b c h k = omega arith

    core : (F G H X Y : ℕ) → X ≡ n * F → Y ≡ n * G → F * (E * D) + N * H ≤ P * H + G * (E * D) → X * E + 0 * (d * H) ≤ M * (d * H) + Y * E
    core F G H X Y x y i =
        le_of_mul-le-mul_right
        (recast
        (linear_finish (n * F * E * D) (n * G * E * D) (n * N * H) (n * P * H) (M * (d * D) * H) (recast (mul-le-mul_right n i) (simp semiring) (simp semiring)) (recast (mul-le-mul_right H l) refl (simp semiring)))
        (rw x (grouped (n * F) E D (d * H))) (rw y (simp semiring))) O
      where
        grouped : (a e c k : ℕ) → a * e * c ≡ (a * e + 0 * k) * c
        grouped a e c k = omega arith

-- the bounds of the steps, multiplied out
multiplied : (n d : ℕ) → 226 * n ≤ 355 * d
    → n * (100000000 * (d * d * (d * d * (d * d * (d * d * 1)))) + n * n * (0 * (d * d * (d * d * (d * d * 1))) + n * n * (833334 * (d * d * (d * d * 1)) + n * n * (0 * (d * d * 1) + n * n * 274))))
    ≤ n * (0 * (d * d * (d * d * (d * d * (d * d * 1)))) + n * n * (16666666 * (d * d * (d * d * (d * d * 1))) + n * n * (0 * (d * d * (d * d * 1)) + n * n * (19841 * (d * d * 1) + n * n * 0)))) + 100000321 * (d * (d * d * (d * d * (d * d * (d * d * 1)))))
multiplied n d h =
    recast (order_nine n d (355 * d - 226 * n) (rest n d h)) (left n d) (right n d)
  where
    rest : (n d : ℕ) → 226 * n ≤ 355 * d → 355 * d ≡ 226 * n + (355 * d - 226 * n)
    rest n d h = omega arith

    left : (n d : ℕ) → 100000000 * (n * (d * d * (d * d) * (d * d * (d * d)))) + 833334 * (n * n * n * n * n * (d * d * (d * d))) + 274 * (n * n * n * n * n * n * n * n * n) ≡ n * (100000000 * (d * d * (d * d * (d * d * (d * d * 1)))) + n * n * (0 * (d * d * (d * d * (d * d * 1))) + n * n * (833334 * (d * d * (d * d * 1)) + n * n * (0 * (d * d * 1) + n * n * 274))))
    left n d = simp ring (omega arith)

    right : (n d : ℕ) → 100000321 * (d * (d * d * (d * d) * (d * d * (d * d)))) + 16666666 * (n * n * n * ((d * d * (d * d)) * (d * d))) + 19841 * (n * n * n * n * n * n * n * (d * d)) ≡ n * (0 * (d * d * (d * d * (d * d * (d * d * 1)))) + n * n * (16666666 * (d * d * (d * d * (d * d * 1))) + n * n * (0 * (d * d * (d * d * 1)) + n * n * (19841 * (d * d * 1) + n * n * 0)))) + 100000321 * (d * (d * d * (d * d * (d * d * (d * d * 1)))))
    right n d = simp ring (omega arith)

pub angle_most : (n d : ℕ) → 0 < d → 226 * n ≤ 355 * d → Below (tail_at (ratio n d *ℚ ratio n d)) 274 0 (100000000 * 1) → sine_of_angleℚ (ratio n d) ≤ℚ ratio 100000321 100000000
angle_most n d D h t =
    let N = n * n in
    let E : ℕ = 100000000 in
    let q = d * d in
    let u = ratio n d *ℚ ratio n d in
    let e3 = sine_term 3 +ℚ u *ℚ tail_at u in
    let e2 = sine_term 2 +ℚ u *ℚ e3 in
    let e1 = sine_term 1 +ℚ u *ℚ e2 in
    let e0 = sine_term 0 +ℚ u *ℚ e1 in
    let b3 = step (sine_term 3) (tail_at u) N q 0 19841 E 274 0 1 term3 t in
    let b2 = step (sine_term 2) e3 N q 833334 0 E (0 * (q * 1) + N * 274) (19841 * (q * 1) + N * 0) (q * 1) term2 b3 in
    let b1 = step (sine_term 1) e2 N q 0 16666666 E (833334 * (q * (q * 1)) + N * (0 * (q * 1) + N * 274)) (0 * (q * (q * 1)) + N * (19841 * (q * 1) + N * 0)) (q * (q * 1)) term1 b2 in
    let b0 = step (sine_term 0) e1 N q 100000000 0 E (0 * (q * (q * (q * 1))) + N * (833334 * (q * (q * 1)) + N * (0 * (q * 1) + N * 274))) (16666666 * (q * (q * (q * 1))) + N * (0 * (q * (q * 1)) + N * (19841 * (q * 1) + N * 0))) (q * (q * (q * 1))) term0 b1 in
    let O = mul-pos D D in
    subst (λ (x : Fraction). x ≤ℚ ratio 100000321 100000000) (sym (series_is (ratio n d)))
    (finish e0 n d _ _ (q * (q * (q * (q * 1)))) 100000321 E (mul-pos O (mul-pos O (mul-pos O (mul-pos O (lit< tt))))) b0 (multiplied n d h))
