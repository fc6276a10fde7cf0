-- A BLEND a + (b - a) u OF TWO NUMBERS FROM 0 TO 1, by a u from 0 to 1, is a number from 0 to 1. Assumes nothing.
use mathlib.Core.Path.{◌≡◌, ap, ◌∙◌}
use Prim.Native.Nat.{ℕ, ◌+◌, ◌-◌, ◌*◌, ◌≤◌}
use native.Mathlib.Nat.{mul-le-mul_right}
use native.Mathlib.Omega.{arith}
use lib.Ieee.{Float}
use Rattle.exact.specs.Fraction.{Fraction, ratio, ◌+ℚ◌, ◌-ℚ◌, ◌*ℚ◌, ◌≤ℚ◌}
use Rattle.exact.specs.Value.{value}
use Rattle.exact.specs.Binary32.{zero₃₂, one₃₂}
use Rattle.exact.proofs.Parts.{num⁺, num⁻, mul⁺, mul⁻, sum_parts, difference_parts, OneSided, one_sided, up, down}
use Rattle.exact.proofs.Defined.{value_defined}
use Rattle.exact.proofs.Order.{≤ℚ-parts, parts-≤ℚ, ≤ℚ-trans, equal_sym, equal_at_most, le_value}
use Rattle.curve.proofs.Positions.{Level, level_finite}
use Rattle.lfo_shapes.proofs.Wrapped.{zero_equal, one_equal}

-- a number from 0 to 1
pub record Unit₀₁ (a : Fraction) : Type 0 where
  pub from : ratio 0 1 ≤ℚ a
  pub to : a ≤ℚ ratio 1 1

-- the value of a level
pub level_unit : (x : Float) → Level x → Unit₀₁ (value x)
level_unit x l =
    let t = level_finite x l in
    record {
      from = ≤ℚ-trans (ratio 0 1) (value zero₃₂) (value x) zero_equal.left (equal_at_most (equal_sym zero_equal)).le ((le_value zero₃₂ x ((value_defined zero₃₂).0 zero_equal.left) t).0 l.from);
      to = ≤ℚ-trans (value x) (value one₃₂) (ratio 1 1) one_equal.left ((le_value x one₃₂ t ((value_defined one₃₂).0 one_equal.left)).0 l.to) (equal_at_most one_equal).le;
    }

-- in naturals: it has no negative part
no_minus : (a : Fraction) → Unit₀₁ a → num⁻ a ≡ 0
no_minus a h = go (num⁺ a) (num⁻ a) a.den (one_sided a.num) (≤ℚ-parts (ratio 0 1) a h.from)
  where
    go : (P N D : ℕ) → OneSided P N → 0 * D + N * 1 ≤ P * 1 + 0 * D → N ≡ 0
    go P N D (up e) h = e
    go P N D (down e) h = omega arith

at_most : (a : Fraction) → Unit₀₁ a → num⁺ a ≤ a.den
at_most a h = go (num⁺ a) (num⁻ a) a.den (no_minus a h) (≤ℚ-parts a (ratio 1 1) h.to)
  where
    go : (P N D : ℕ) → N ≡ 0 → P * 1 + 0 * D ≤ 1 * D + N * 1 → P ≤ D
    go P N D e h = omega arith

-- A / D + (X - Y) / (E D) K / F, where X - Y = B D - A E
core : (A D B E K F X Y S R W : ℕ) → A ≤ D → B ≤ E → F ≡ K + W → X + A * E ≡ Y + B * D → S + Y * K * D ≡ R + (A * (E * D * F) + X * K * D)
    → (R ≤ S) × (S ≤ R + D * (E * D * F))
core A D B E K F X Y S R W a b w h k = (low, high)
  where
    net : S + A * E * K * D ≡ R + (A * (E * D * F) + B * D * K * D)
    net = omega (arith, ap (λ (x : ℕ). x * (K * D)) h)

    split : A * (E * D * F) ≡ A * E * K * D + A * E * D * W
    split = omega (arith, ap (λ (x : ℕ). A * (E * D * x)) w)

    whole : D * (E * D * F) ≡ D * E * D * K + D * E * D * W
    whole = omega (arith, ap (λ (x : ℕ). D * (E * D * x)) w)

    low : R ≤ S
    low = omega (arith, net, split)

    high : S ≤ R + D * (E * D * F)
    high = omega (arith, net, split, whole, mul-le-mul_right (E * D * W) a, mul-le-mul_right (D * K * D) b)

pub blend_unit : (a b u : Fraction) → Unit₀₁ a → Unit₀₁ b → Unit₀₁ u → Unit₀₁ (a +ℚ (b -ℚ a) *ℚ u)
blend_unit a b u ha hb hu =
    let d = b -ℚ a in
    let m = d *ℚ u in
    let s = a +ℚ m in
    let A = num⁺ a in
    let D = a.den in
    let B = num⁺ b in
    let E = b.den in
    let K = num⁺ u in
    let F = u.den in
    let X = num⁺ d in
    let Y = num⁻ d in
    let za = no_minus a ha in
    let zb = no_minus b hb in
    let zu = no_minus u hu in
    let w : F ≡ K + (F - K) = rest K F (at_most u hu) in
    let e = difference X Y A B D E (num⁻ a) (num⁻ b) za zb (difference_parts b a) in
    let mp : num⁺ m ≡ X * K = mul⁺ d.num u.num ∙ product X Y K (num⁻ u) zu in
    let mn : num⁻ m ≡ Y * K = mul⁻ d.num u.num ∙ product' X Y K (num⁻ u) zu in
    let k = total A D (E * D * F) (num⁺ m) (num⁻ m) (X * K) (Y * K) (num⁺ s) (num⁻ s) (num⁻ a) za mp mn (sum_parts a m) in
    let c = core A D B E K F X Y (num⁺ s) (num⁻ s) (F - K) (at_most a ha) (at_most b hb) w e k in
    record {
      from = parts-≤ℚ (ratio 0 1) s (low (num⁺ s) (num⁻ s) s.den c.0);
      to = parts-≤ℚ s (ratio 1 1) (high (num⁺ s) (num⁻ s) s.den c.1);
    }
  where
    rest : (K F : ℕ) → K ≤ F → F ≡ K + (F - K)
    rest K F h = omega arith

    difference : (X Y A B D E N M : ℕ) → N ≡ 0 → M ≡ 0 → X + (M * D + A * E) ≡ Y + (B * D + N * E) → X + A * E ≡ Y + B * D
    difference X Y A B D E N M n m h = omega (arith, ap (λ (x : ℕ). x * E) n, ap (λ (x : ℕ). x * D) m)

    product : (X Y K N : ℕ) → N ≡ 0 → X * K + Y * N ≡ X * K
    product X Y K N n = omega (arith, ap (λ (x : ℕ). Y * x) n)

    product' : (X Y K N : ℕ) → N ≡ 0 → X * N + Y * K ≡ Y * K
    product' X Y K N n = omega (arith, ap (λ (x : ℕ). X * x) n)

    total : (A D G P Q P' Q' S R N : ℕ) → N ≡ 0 → P ≡ P' → Q ≡ Q' → S + (N * G + Q * D) ≡ R + (A * G + P * D) → S + Q' * D ≡ R + (A * G + P' * D)
    total A D G P Q P' Q' S R N n p q h = omega (arith, ap (λ (x : ℕ). x * G) n, ap (λ (x : ℕ). x * D) p, ap (λ (x : ℕ). x * D) q)

    low : (S R G : ℕ) → R ≤ S → 0 * G + R * 1 ≤ S * 1 + 0 * G
    low S R G h = omega arith

    high : (S R G : ℕ) → S ≤ R + G → S * 1 + 0 * G ≤ 1 * G + R * 1
    high S R G h = omega arith
