-- THE COMPARISON OF A NUMBER FROM 0 TO 1: below 2 ^ -33, and from there on by its significand. Assumes nothing.
use mathlib.Core.Path.{◌≡◌, refl, sym, ap, subst, ◌∙◌}
use mathlib.Core.Bool.{Bool, true, false, not, ◌&&◌}
use Prim.Native.Nat.{ℕ, ◌+◌, ◌-◌, ◌*◌, ◌/◌, ◌%◌, ◌^◌, ◌≤◌, ◌<◌}
use native.Mathlib.Nat.{mul-le-mul_right, mul-lt-mul_of_pos_right, le_of_lt}
use native.Mathlib.Omega.{arith}
use borrow.Author.Tests.{lt-ltb, le-ltb}
use lib.Dec.{T, ltb, leb→le}
use lib.Pow.{pow_pos, pow-add}
use lib.Ieee.{Float, binary32, of_bits, to_bits, fits, lt, le}
use lib.Ieee.Scale.{finite}
use Rattle.exact.specs.Fraction.{ratio, ltℚ}
use Rattle.exact.specs.Value.{value}
use Rattle.exact.specs.Binary32.{zero₃₂, one₃₂}
use Rattle.exact.proofs.Order.{Decides, tests_agree, lt_value}
use Rattle.rounding.proofs.Operations.{Quanta}
use Rattle.rounding.proofs.Comparison.{lt_quanta}
use Rattle.curve.proofs.Positions.{Level, level_finite}
use Rattle.fixed_point.proofs.Bits.{level_parts, Range, bits_quanta}
use Rattle.fixed_point.proofs.Least.{least}
use Rattle.fixed_point.proofs.Cases.{range}
use Rattle.fixed_point.specs.Between.{units, between_of}
use Rattle.fixed_point.proofs.Marks.{below_decides, above_decides, ltb_decides, scaled_decides}

-- it is a number
pub is_number : (x : Float) → Level x → finite x ≡ true
is_number x l = go (finite x) (level_finite x l)
  where
    go : (b : Bool) → T b → b ≡ true
    go true h = refl
    go false h = absurd h

pub level_of_lem : (x : Float) → T (fits binary32 x) → le zero₃₂ x ≡ true → le x one₃₂ ≡ true → Level x
level_of_lem x f a b = record { holds = f; from = subst T (sym a) tt; to = subst T (sym b) tt }

-- ---- below 2 ^ -33, G quanta of U
least_quanta : Quanta (2 ^ 149) least (2 ^ 116) 0
unfolding of_bits
least_quanta = refl

pub few : (x : Float) (l : Level x) → lt x least ≡ true → (level_parts x l).quanta < 2 ^ 116
few x l h = strip _ _ (lt_quanta (2 ^ 149) x least (level_parts x l).quanta 0 (2 ^ 116) 0 (pow_pos 149) (level_parts x l).holds least_quanta (subst T (sym h) tt))
  where
    strip : (a b : ℕ) → a + 0 < b + 0 → a < b
    strip a b h = omega arith

less_than_one : (G F W U n : ℕ) → G < F → 0 < W → F * W ≤ U → 0 < n → G * W < n * U
less_than_one G F W U n h w f p = omega (arith, mul-lt-mul_of_pos_right h w, mul-le-mul_right U p)

nothing_less : (G W U n : ℕ) → n ≤ 0 → n * U ≤ G * W
nothing_less G W U n h = omega (arith, mul-le-mul_right U h)

is_true : {t : Bool} {p q : ℕ} → Decides t p q → p < q → t ≡ true
is_true {p = p} {q = q} d h = tests_agree d (ltb_decides p q) ∙ lt-ltb p q h

is_false : {t : Bool} {p q : ℕ} → Decides t p q → q ≤ p → t ≡ false
is_false {p = p} {q = q} d h = tests_agree d (ltb_decides p q) ∙ le-ltb p q h

module _ (x : Float) (n : ℕ) (l : Level x) (h : lt x least ≡ true) where
  pub small_below : 0 < n → ltℚ (value x) (units n) ≡ true
  small_below p =
      let w = level_parts x l in
      is_true (below_decides x w.quanta (2 ^ 149) n (2 ^ 32) (pow_pos 149) w.holds) (less_than_one w.quanta (2 ^ 116) (2 ^ 32) (2 ^ 149) n (few x l h) (pow_pos 32) (leb→le (2 ^ 116 * 2 ^ 32) (2 ^ 149) tt) p)

  pub small_not_below : n ≤ 0 → ltℚ (value x) (units n) ≡ false
  small_not_below p =
      let w = level_parts x l in
      is_false (below_decides x w.quanta (2 ^ 149) n (2 ^ 32) (pow_pos 149) w.holds) (nothing_less w.quanta (2 ^ 32) (2 ^ 149) n p)

  pub small_not_above : 0 < n → ltℚ (units n) (value x) ≡ false
  small_not_above p =
      let w = level_parts x l in
      is_false (above_decides x w.quanta (2 ^ 149) n (2 ^ 32) (pow_pos 149) w.holds) (le_of_lt (less_than_one w.quanta (2 ^ 116) (2 ^ 32) (2 ^ 149) n (few x l h) (pow_pos 32) (leb→le (2 ^ 116 * 2 ^ 32) (2 ^ 149) tt) p))

-- 0 over W is below G / U where G is not 0, whatever W
zero_decides : (x : Float) (G U W : ℕ) → 0 < U → 0 < W → Quanta U x G 0 → Decides (ltℚ (ratio 0 W) (value x)) 0 G
zero_decides x G U W u w q = scaled_decides (ltℚ (ratio 0 W) (value x)) 0 G (0 * U) (G * W) W w (omega arith) refl (above_decides x G U 0 W u q)

above_zero : (x : Float) → Level x → ltℚ (ratio 0 1) (value x) ≡ lt zero₃₂ x
unfolding of_bits value
above_zero x l = sym (lt_value zero₃₂ x tt (level_finite x l))

pub small_above : (x : Float) (n : ℕ) → Level x → n ≤ 0 → ltℚ (units n) (value x) ≡ lt zero₃₂ x
small_above x n l h =
    let w = level_parts x l in
    let z : n ≡ 0 = omega arith in
    let t = zero_decides x w.quanta (2 ^ 149) in
    ap (λ (k : ℕ). ltℚ (units k) (value x)) z ∙ tests_agree (t (2 ^ 32) (pow_pos 149) (pow_pos 32) w.holds) (t 1 (pow_pos 149) (omega arith) w.holds) ∙ above_zero x l

-- ---- from 2 ^ -33 on: with the bits b, digits over a power of two
swap : (q K W : ℕ) → q * K * W ≡ q * W * K
swap q K W = omega arith

regroup : (n A K U : ℕ) → U ≡ A * K → n * U ≡ n * A * K
regroup n A K U e = omega (arith, ap (λ (z : ℕ). n * z) e)

parts : (b : ℕ) → Range b → 2 ^ 149 ≡ 2 ^ (150 - b / 2 ^ 23) * 2 ^ (b / 2 ^ 23 - 1)
parts b r = sym (ap (λ (z : ℕ). 2 ^ z) (whole b r.low r.high)) ∙ pow-add 2 (150 - b / 2 ^ 23) (b / 2 ^ 23 - 1)
  where
    whole : (b : ℕ) → 94 * 2 ^ 23 ≤ b → b < 128 * 2 ^ 23 → 150 - b / 2 ^ 23 + (b / 2 ^ 23 - 1) ≡ 149
    whole b l h = omega arith

pub large : (x : Float) (low high : ℕ) → Level x → lt x least ≡ false → (b : ℕ) → b ≡ to_bits binary32 x → not (ltb ((2 ^ 23 + b % 2 ^ 23) * 2 ^ 32) (low * 2 ^ (150 - b / 2 ^ 23))) && not (ltb (high * 2 ^ (150 - b / 2 ^ 23)) ((2 ^ 23 + b % 2 ^ 23) * 2 ^ 32)) ≡ between_of x low high
unfolding between_of
large x low high l h b e =
    let r : Range b = subst Range (sym e) (range x l h) in
    let q = 2 ^ 23 + b % 2 ^ 23 in
    let K = 2 ^ (b / 2 ^ 23 - 1) in
    let A = 2 ^ (150 - b / 2 ^ 23) in
    let W = 2 ^ 32 in
    let k = pow_pos (b / 2 ^ 23 - 1) in
    let v : Quanta (2 ^ 149) x (q * K) 0 = subst (λ (z : ℕ). Quanta (2 ^ 149) x ((2 ^ 23 + z % 2 ^ 23) * 2 ^ (z / 2 ^ 23 - 1)) 0) (sym e) (bits_quanta x l.holds (range x l h)) in
    let below = scaled_decides (ltℚ (value x) (units low)) (q * W) (low * A) (q * K * W) (low * 2 ^ 149) K k (swap q K W) (regroup low A K (2 ^ 149) (parts b r)) (below_decides x (q * K) (2 ^ 149) low W (pow_pos 149) v) in
    let above = scaled_decides (ltℚ (units high) (value x)) (high * A) (q * W) (high * 2 ^ 149) (q * K * W) K k (regroup high A K (2 ^ 149) (parts b r)) (swap q K W) (above_decides x (q * K) (2 ^ 149) high W (pow_pos 149) v) in
    rw (is_number x l, tests_agree below (ltb_decides (q * W) (low * A)), tests_agree above (ltb_decides (high * A) (q * W))) refl
