-- THE PHASE OF A POSITION, which is a number from 0 to 1, is its product with the number of cycles drawn: a finite phase from 0 to 6 or, at eight turns, to 8. Assumes nothing.
use mathlib.Core.Path.{◌≡◌, refl, sym, ap, subst, subst₂}
use mathlib.Core.Bool.{true, false}
use Prim.Native.Nat.{ℕ, ◌+◌, ◌*◌, ◌^◌, ◌≤◌, ◌<◌}
use native.Mathlib.Nat.{mul-pos, mul-le-mul_right, le_trans}
use native.Mathlib.Omega.{arith}
use lib.IntN.{pos}
use lib.Dec.{T, lit<, lit≤}
use lib.Ieee.{Float, nan, inf, fin, binary32, up, down, of_bits, round, mul, fits, le}
use lib.Ieee.Fits.{down_pos, mul-fits}
use lib.Ieee.Exact.{round_exact}
use lib.Ieee.Order.{round_mono}
use lib.Ieee.Scale.{finite}
use Rattle.exact.specs.Fraction.{Fraction, ratio, signed, ◌≤ℚ◌}
use Rattle.exact.specs.Value.{value}
use Rattle.exact.specs.Binary32.{◌⊗◌, one₃₂}
use Rattle.exact.proofs.Parts.{neg⁺, neg⁻}
use Rattle.exact.proofs.Defined.{value_defined}
use Rattle.exact.proofs.Order.{≤ℚ-parts, parts-≤ℚ, ≤ℚ-trans, equal_sym, equal_at_most, le_value, between_finite}
use Rattle.curve.specs.Curve.{position_of}
use Rattle.curve.proofs.Positions.{Level, level_finite, position_level}
use Rattle.floor.proofs.Phase.{Phase, from_zero}
use Rattle.settings.specs.declared.LfoShape.{LfoShape}
use Rattle.settings.specs.declared.LfoShape.TheVariants.{Sine, Triangle, Square, RampUp, RampDown, SampleAndHold, SampleAndGlide}
use Rattle.settings.specs.declared.SampledTurns.{SampledTurns}
use Rattle.settings.specs.declared.SampledTurns.TheVariants.{Six, Eight}
use Rattle.settings.specs.Settings.{turns_number, sampled_turns, turns_of}
use Rattle.lfo_shapes.proofs.Scaling.{has_value}
use Rattle.lfo_shapes.proofs.Blend.{level_unit}

-- a float from 0 to n turns
pub record Spanned (n : SampledTurns) (p : Float) : Type 0 where
  pub holds : T (fits binary32 p)
  pub number : T (finite p)
  pub from : ratio 0 1 ≤ℚ value p
  pub to : value p ≤ℚ ratio (turns_number n) 1

-- n turns are a float
abbrev most : SampledTurns → Float
most n = round binary32 false (turns_number n) 1

most_finite : (n : SampledTurns) → T (finite (most n))
unfolding round
most_finite Six = tt
most_finite Eight = tt

most_value : (n : SampledTurns) → value (most n) ≡ ratio (turns_number n) 1
unfolding value round
most_value Six = refl
most_value Eight = refl

-- a / c from 0 to n turns, rounded
spanned : (n : SampledTurns) (a c : ℕ) → 0 < c → a ≤ turns_number n * c → (x : Float) → x ≡ round binary32 false a c → T (fits binary32 x) → Spanned n x
unfolding value round
spanned n a c C h x e f =
    let l = round binary32 false 0 1 in
    let u = most n in
    let i : T (le l x) = subst (λ (y : Float). T (le l y)) (sym e) (round_mono binary32 0 1 a c (lit< tt) C (none a c)) in
    let j : T (le x u) = subst (λ (y : Float). T (le y u)) (sym e) (round_mono binary32 a c (turns_number n) 1 C (lit< tt) (over a c (turns_number n) h)) in
    let t = between_finite l x u tt (most_finite n) i j in
    record { holds = f; number = t; from = (le_value l x tt t).0 i; to = subst (λ (q : Fraction). value x ≤ℚ q) (most_value n) ((le_value x u t (most_finite n)).0 j) }
  where
    none : (a c : ℕ) → 0 * c ≤ a * 1
    none a c = omega arith

    over : (a c k : ℕ) → a ≤ k * c → a * 1 ≤ k * c
    over a c k h = omega arith

-- x ⊗ j * 2 ^ i for an x from 0 to 1, where the second is at most n turns
product_spanned : (n : SampledTurns) (x : Float) (j i : ℕ) → j * 2 ^ i ≤ turns_number n → Level x → Spanned n (x ⊗ fin false j (pos i))
unfolding mul
product_spanned n nan j i h l = absurd (level_finite nan l)
product_spanned n (inf s) j i h l = absurd (level_finite (inf s) l)
product_spanned n (fin false m e) j i h l =
    let a = m * up e in
    let d = down e in
    let b = one_at_most a d (unfold value in ≤ℚ-parts (value (fin false m e)) (ratio 1 1) (level_unit (fin false m e) l).to) in
    spanned n (a * (j * 2 ^ i)) (d * 1) (mul-pos (down_pos e) (lit< tt)) (times a d (j * 2 ^ i) (turns_number n) b h) (fin false m e ⊗ fin false j (pos i)) refl (mul-fits binary32 (fin false m e) (fin false j (pos i)))
  where
    one_at_most : (n d : ℕ) → n * 1 + 0 * d ≤ 1 * d + 0 * 1 → n ≤ d
    one_at_most n d h = omega arith

    times : (a d k n : ℕ) → a ≤ d → k ≤ n → a * k ≤ n * (d * 1)
    times a d k n b h = le_trans (mul-le-mul_right k b) (omega (arith, mul-le-mul_right d h))
product_spanned n (fin true m e) j i h l =
    let z = m * up e in
    let d = down e in
    let b = none z d (unfold value in subst₂ (λ (p q : ℕ). 0 * d + q * 1 ≤ p * 1 + 0 * d) (neg⁺ (pos z)) (neg⁻ (pos z)) (≤ℚ-parts (ratio 0 1) (value (fin true m e)) (level_unit (fin true m e) l).from)) in
    let a = z * (j * 2 ^ i) in
    let c = d * 1 in
    let C : 0 < c = mul-pos (down_pos e) (lit< tt) in
    let v = has_value (round binary32 true a c) true a c C (round_exact binary32 true a c 0 0 C (lit< tt) (lit< tt) (zero_times z (j * 2 ^ i) (2 ^ 149) c b)) in
    record {
      holds = mul-fits binary32 (fin true m e) (fin false j (pos i));
      number = (value_defined (round binary32 true a c)).0 v.left;
      from = ≤ℚ-trans (ratio 0 1) (signed true a c) (value (round binary32 true a c)) C (parts-≤ℚ (ratio 0 1) (signed true a c) (rw (neg⁺ (pos a), neg⁻ (pos a)) (under z (j * 2 ^ i) c b))) (equal_at_most (equal_sym v)).le;
      to = ≤ℚ-trans (value (round binary32 true a c)) (signed true a c) (ratio (turns_number n) 1) C (equal_at_most v).le (parts-≤ℚ (signed true a c) (ratio (turns_number n) 1) (rw (neg⁺ (pos a), neg⁻ (pos a)) (over a c (turns_number n))));
    }
  where
    none : (n d : ℕ) → 0 * d + n * 1 ≤ 0 * 1 + 0 * d → n ≡ 0
    none n d h = omega arith

    zero_times : (n k U c : ℕ) → n ≡ 0 → n * k * U ≡ 0 * 1 * c
    zero_times n k U c e = omega (arith, ap (λ (x : ℕ). x * k * U) e)

    under : (n k c : ℕ) → n ≡ 0 → 0 * c + n * k * 1 ≤ 0 * 1 + 0 * c
    under n k c e = omega (arith, ap (λ (x : ℕ). x * k) e)

    over : (a c n : ℕ) → 0 * 1 + 0 * c ≤ n * c + a * 1
    over a c n = omega arith

-- ---- THE PHASE
one_spanned : (n : SampledTurns) (t : Float) → T (fits binary32 t) → Spanned n (position_of t ⊗ one₃₂)
unfolding of_bits
one_spanned Six t f = product_spanned Six (position_of t) 1 0 (lit≤ tt) (position_level t f)
one_spanned Eight t f = product_spanned Eight (position_of t) 1 0 (lit≤ tt) (position_level t f)

sampled_spanned : (n : SampledTurns) (t : Float) → T (fits binary32 t) → Spanned n (position_of t ⊗ sampled_turns n)
unfolding of_bits
sampled_spanned Six t f = product_spanned Six (position_of t) 3 1 (lit≤ tt) (position_level t f)
sampled_spanned Eight t f = product_spanned Eight (position_of t) 1 3 (lit≤ tt) (position_level t f)

pub position_spanned : (n : SampledTurns) (s : LfoShape) (t : Float) → T (fits binary32 t) → Spanned n (position_of t ⊗ turns_of n s)
position_spanned n Sine t f = one_spanned n t f
position_spanned n Triangle t f = one_spanned n t f
position_spanned n Square t f = one_spanned n t f
position_spanned n RampUp t f = one_spanned n t f
position_spanned n RampDown t f = one_spanned n t f
position_spanned n SampleAndHold t f = sampled_spanned n t f
position_spanned n SampleAndGlide t f = sampled_spanned n t f

pub spanned_phase : {n : SampledTurns} {p : Float} → Spanned n p → Phase p
spanned_phase h = from_zero h.number h.from
