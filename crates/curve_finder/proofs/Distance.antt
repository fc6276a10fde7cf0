-- HOW FAR ONE LEVEL LIES ABOVE ANOTHER, by a test of floats: y < x ⊖ 1/512 exactly where x is above y by more than 1/512, as the numbers that they hold.
-- A level is at most 2 ^ 149 quanta, and 1/512 is 2 ^ 140 of them. Assumes nothing.
use mathlib.Core.Path.{◌≡◌, refl, sym, ap, subst}
use mathlib.Core.Bool.{Bool, true, false, not, true≢false}
use Prim.Native.Nat.{ℕ, ◌+◌, ◌*◌, ◌^◌, ◌≤◌, ◌<◌}
use native.Mathlib.Nat.{le_of_mul-le-mul_right, lt_of_le_of_lt, mul-le-mul_right, mul-pos, not-le_of_lt}
use native.Mathlib.Omega.{arith}
use lib.Dec.{T, lit<}
use lib.Ieee.{Float, binary32, of_bits}
use Rattle.exact.specs.Fraction.{Fraction, Defined, ratio, ◌+ℚ◌, ◌≤ℚ◌}
use Rattle.exact.specs.Value.{value}
use Rattle.exact.specs.Binary32.{bits, zero₃₂, one₃₂}
use Rattle.exact.proofs.Parts.{num⁺, num⁻}
use Rattle.exact.proofs.Defined.{value_defined}
use Rattle.exact.proofs.Order.{Decides, ≤ℚ-parts, parts-≤ℚ, le_value}
use Rattle.rounding.proofs.Operations.{Quanta}
use Rattle.rounding.proofs.Quanta.{HasQuanta, InFormat, in_format, quanta_value, sum_quanta, nonnegative_quanta}
use Rattle.curve.proofs.Positions.{Level, level_finite}
use Rattle.curve_finder.specs.Promises.{Near, Tells}
use Rattle.curve_finder.proofs.Above.{is_above}
use Rattle.curve_finder.proofs.LessPower.{less_power_decides}

-- ---- fractions are in the order of their quanta
module _ (U : ℕ) (a b : Fraction) (p n q m : ℕ) (h : HasQuanta U a p n) (k : HasQuanta U b q m) where
  order_quanta : Defined a → Defined b → a ≤ℚ b → p + m ≤ q + n
  order_quanta d e l = le_of_mul-le-mul_right (core (num⁺ a) (num⁻ a) a.den (num⁺ b) (num⁻ b) b.den h k (≤ℚ-parts a b l)) (mul-pos d e)
    where
      core : (P N D Q M E : ℕ) → P * U + n * D ≡ N * U + p * D → Q * U + m * E ≡ M * U + q * E → P * E + M * D ≤ Q * D + N * E → (p + m) * (D * E) ≤ (q + n) * (D * E)
      core P N D Q M E h k l = omega (arith, ap (λ (z : ℕ). z * E) h, ap (λ (z : ℕ). z * D) k, mul-le-mul_right U l)

  quanta_order : 0 < U → p + m ≤ q + n → a ≤ℚ b
  quanta_order u l = parts-≤ℚ a b (le_of_mul-le-mul_right (core (num⁺ a) (num⁻ a) a.den (num⁺ b) (num⁻ b) b.den h k) u)
    where
      core : (P N D Q M E : ℕ) → P * U + n * D ≡ N * U + p * D → Q * U + m * E ≡ M * U + q * E → (P * E + M * D) * U ≤ (Q * D + N * E) * U
      core P N D Q M E h k = omega (arith, ap (λ (z : ℕ). z * E) h, ap (λ (z : ℕ). z * D) k, mul-le-mul_right (D * E) l)

plus_zero : (p q : ℕ) → p ≤ q → p + 0 ≤ q + 0
plus_zero p q h = omega arith

less_zero : (p q : ℕ) → p + 0 ≤ q + 0 → p ≤ q
less_zero p q h = omega arith

-- ---- a level, in quanta
record Counted (x : Float) : Type 0 where
  format : InFormat binary32 x
  count : ℕ
  is : count ≡ format.significand * 2 ^ format.shift
  quanta : Quanta (2 ^ 149) x count 0
  most : count < 2 ^ 24 * 2 ^ 140
  defined : Defined (value x)

counted : (x : Float) → Level x → Counted x
unfolding of_bits value
counted x l =
    let t = level_finite x l in
    let w = in_format binary32 x l.holds t in
    let p = w.significand * 2 ^ w.shift in
    let q = nonnegative_quanta binary32 x w ((le_value zero₃₂ x tt t).0 l.from) in
    let d = (value_defined x).1 t in
    let m = order_quanta (2 ^ 149) (value x) (ratio 1 1) p 0 (2 ^ 149) 0 (quanta_value (2 ^ 149) x p 0 q) refl d (lit< tt) ((le_value x one₃₂ t tt).0 l.to) in
    record { format = w; count = p; is = refl; quanta = q; most = lt_of_le_of_lt (less_zero p (2 ^ 149) m) (lit< tt); defined = d }

reach : Quanta (2 ^ 149) (bits 0x3b00_0000) (2 ^ 140) 0
unfolding of_bits
reach = refl

-- ---- THE TEST IS EXACT
module _ (x y : Float) (a : Counted x) (b : Counted y) where
  decides : Decides (is_above x y) (b.count + 2 ^ 140) a.count
  decides = less_power_decides binary32 x (bits 0x3b00_0000) y a.format a.count b.count 140 a.is a.quanta reach b.quanta a.most

  raised : HasQuanta (2 ^ 149) (value y +ℚ ratio 1 512) (b.count + 2 ^ 140) 0
  raised = sum_quanta (2 ^ 149) (value y) (ratio 1 512) b.count 0 (2 ^ 140) 0 (quanta_value (2 ^ 149) y b.count 0 b.quanta) refl

  held : HasQuanta (2 ^ 149) (value x) a.count 0
  held = quanta_value (2 ^ 149) x a.count 0 a.quanta

  at_most : T (not (is_above x y)) → value x ≤ℚ value y +ℚ ratio 1 512
  at_most t =
      quanta_order (2 ^ 149) (value x) (value y +ℚ ratio 1 512) a.count 0 (b.count + 2 ^ 140) 0 held raised (lit< tt)
      (plus_zero a.count (b.count + 2 ^ 140) (decides.failed t))

  more : T (is_above x y) → value x ≤ℚ value y +ℚ ratio 1 512 → ⊥
  more t h =
      not-le_of_lt (decides.passed t)
      (less_zero a.count (b.count + 2 ^ 140)
      (order_quanta (2 ^ 149) (value x) (value y +ℚ ratio 1 512) a.count 0 (b.count + 2 ^ 140) 0 held raised a.defined (mul-pos b.defined (lit< tt)) h))

-- ---- TWO LEVELS: one test for each side
module _ (x y : Float) (k : Level x) (l : Level y) where
  a : Counted x
  a = counted x k

  b : Counted y
  b = counted y l

  passed : {t : Bool} → t ≡ true → T t
  passed e = subst (λ (t : Bool). T t) (sym e) tt

  failed : {t : Bool} → t ≡ false → T (not t)
  failed e = subst (λ (t : Bool). T (not t)) (sym e) tt

  pub first_above : is_above x y ≡ true → Tells false (Near x y)
  first_above e = record { passed = λ n. absurd (true≢false (sym n)); failed = λ _ h. more x y a b (passed e) h.below }

  pub second_above : is_above y x ≡ true → Tells false (Near x y)
  second_above e = record { passed = λ n. absurd (true≢false (sym n)); failed = λ _ h. more y x b a (passed e) h.above }

  pub neither_above : is_above x y ≡ false → is_above y x ≡ false → Tells true (Near x y)
  neither_above e f =
      record {
        passed =
            λ _. record {
              left = a.defined;
              right = b.defined;
              bound = lit< tt;
              below = at_most x y a b (failed e);
              above = at_most y x b a (failed f);
            };
        failed = λ n. absurd (true≢false n);
      }
