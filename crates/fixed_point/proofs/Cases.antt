-- WHAT `nearest` ANSWERS: below 2 ^ -33 it is 0, and from there on the quotient of its float's significand. Assumes nothing.
use mathlib.Core.Path.{◌≡◌, refl, sym, ap, subst, ◌∙◌}
use mathlib.Core.Bool.{Bool, true, false, not}
use Prim.Native.Nat.{ℕ, suc, ◌+◌, ◌-◌, ◌*◌, ◌/◌, ◌%◌, ◌^◌, ◌≤◌, ◌<◌}
use native.Mathlib.Nat.{mul-le-mul_left, mul-le-mul_right, div-lt_iff_lt-mul, mul-lt-mul_of_pos_right, lt_of_le_of_lt, le_of_lt, div-eq_of_lt, mul-div-mul_right}
use native.Mathlib.Omega.{arith}
use lib.Dec.{T}
use lib.Pow.{pow_pos, pow-add}
use lib.Ieee.{Float, nan, inf, fin, binary32, of_bits, to_bits, is_nan, lt}
use Rattle.exact.specs.Fraction.{ratio, ◌*ℚ◌}
use Rattle.exact.specs.Value.{value}
use Rattle.rounding.proofs.Operations.{Quanta}
use Rattle.rounding.proofs.Comparison.{lt_quanta, nlt_quanta}
use Rattle.curve.proofs.Positions.{Level, level_finite}
use Rattle.fixed_point.specs.Nearest.{nearestℚ}
use Rattle.fixed_point.proofs.Least.{least, few, least_quanta}
use Rattle.fixed_point.proofs.Product.{product}
use Rattle.fixed_point.proofs.Bits.{level_parts, Range, bits_range, bits_quanta}

pub product_below : (a b A B : ℕ) → a < A → b < B → a * b < A * B
product_below a b A B h k = let p : 0 < B = omega arith in lt_of_le_of_lt (mul-le-mul_left a (le_of_lt k)) (mul-lt-mul_of_pos_right h p)

-- ---- below 2 ^ -33
none : (G n A B U : ℕ) → G < A → n < B → U ≡ A * B * 2 → (G * n * 2 + U) / (U * 2) ≡ 0
none G n A B U h k e = div-eq_of_lt (omega (arith, product_below G n A B h k))

pub small : (p : Float) (n : ℕ) → Level p → lt p least ≡ true → n < 2 ^ 32 → 0 ≡ nearestℚ (value p *ℚ ratio n 1)
small p n l h k =
    let w = level_parts p l in
    let g : w.quanta + 0 < few + 0 = lt_quanta (2 ^ 149) p least w.quanta 0 few 0 (pow_pos 149) w.holds least_quanta (subst T (sym h) tt) in
    sym (product (2 ^ 149) p w.quanta n (pow_pos 149) w.holds ∙ none w.quanta n few (2 ^ 32) (2 ^ 149) (strip w.quanta few g) k refl)
  where
    strip : (a b : ℕ) → a + 0 < b + 0 → a < b
    strip a b h = omega arith

-- ---- from 2 ^ -33 on
pub range : (p : Float) → Level p → lt p least ≡ false → Range (to_bits binary32 p)
range p l h =
    let w = level_parts p l in
    let g : few + 0 ≤ w.quanta + 0 = nlt_quanta (2 ^ 149) p least w.quanta 0 few 0 w.holds least_quanta (subst (λ (t : Bool). T (not t)) (sym h) tt) in
    bits_range p w.quanta w.holds (strip w.quanta few g) w.most
  where
    strip : (a b : ℕ) → b + 0 ≤ a + 0 → b ≤ a
    strip a b h = omega arith

shared : (q n A K U : ℕ) → 0 < K → U ≡ A * K → (q * K * n * 2 + U) / (U * 2) ≡ (q * n * 2 + A) / (A * 2)
shared q n A K U h e =
    let up : q * K * n * 2 + U ≡ (q * n * 2 + A) * K = omega arith in
    let down : U * 2 ≡ A * 2 * K = omega arith in
    rw (up, down) (mul-div-mul_right (q * n * 2 + A) (A * 2) h)

pub large : (p : Float) (n : ℕ) → Level p → lt p least ≡ false → (b : ℕ) → b ≡ to_bits binary32 p → ((2 ^ 23 + b % 2 ^ 23) * n * 2 + 2 ^ (150 - b / 2 ^ 23)) / (2 ^ (150 - b / 2 ^ 23) * 2) ≡ nearestℚ (value p *ℚ ratio n 1)
large p n l h b e =
    let r : Range b = subst Range (sym e) (range p l h) in
    let q = 2 ^ 23 + b % 2 ^ 23 in
    let k = b / 2 ^ 23 - 1 in
    let s = 150 - b / 2 ^ 23 in
    let v : Quanta (2 ^ 149) p (q * 2 ^ k) 0 = subst (λ (z : ℕ). Quanta (2 ^ 149) p ((2 ^ 23 + z % 2 ^ 23) * 2 ^ (z / 2 ^ 23 - 1)) 0) (sym e) (bits_quanta p l.holds (range p l h)) in
    sym (product (2 ^ 149) p (q * 2 ^ k) n (pow_pos 149) v ∙ shared q n (2 ^ s) (2 ^ k) (2 ^ 149) (pow_pos k) (sym (ap (λ (z : ℕ). 2 ^ z) (whole b r.low r.high)) ∙ pow-add 2 s k))
  where
    whole : (b : ℕ) → 94 * 2 ^ 23 ≤ b → b < 128 * 2 ^ 23 → 150 - b / 2 ^ 23 + (b / 2 ^ 23 - 1) ≡ 149
    whole b l h = omega arith

-- ---- it is n at most
most : (G n U : ℕ) → 0 < U → G ≤ U → (G * n * 2 + U) / (U * 2) ≤ n
most G n U u h =
    let w : 0 < U * 2 = omega arith in
    let l : G * n * 2 + U < suc n * (U * 2) = omega (arith, mul-le-mul_right n h) in
    omega (arith, (div-lt_iff_lt-mul w).1 l)

pub at_most : (p : Float) (n : ℕ) → Level p → nearestℚ (value p *ℚ ratio n 1) ≤ n
at_most p n l = let w = level_parts p l in rw (product (2 ^ 149) p w.quanta n (pow_pos 149) w.holds) (most w.quanta n (2 ^ 149) (pow_pos 149) w.most)

pub level_number : (p : Float) → Level p → T (not (is_nan p))
unfolding is_nan
level_number nan l = absurd (level_finite nan l)
level_number (inf s) l = absurd (level_finite (inf s) l)
level_number (fin s m e) l = tt
