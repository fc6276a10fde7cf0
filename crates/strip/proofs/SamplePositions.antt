-- THE SAMPLES OF A STRIP LIE FROM 0 TO 1: i / last is a number with no sign, and not above 1 where i is at most last. So such a position is not clamped. The first lies at 0, and none lies before an earlier one. Assumes nothing.
use mathlib.Core.Path.{◌≡◌, refl}
use mathlib.Core.Bool.{false}
use Prim.Native.Nat.{ℕ, ◌*◌, ◌-◌, ◌≤◌, ◌<◌}
use native.Mathlib.Omega.{arith}
use lib.IntN.{pos}
use lib.Dec.{T, lit<}
use lib.Ieee.{Float, nan, inf, fin, binary32, round, of_bits, of_int, fits, is_nan, lt, le}
use lib.Ieee.Bits.{is_false}
use lib.Ieee.Order.{round_mono}
use lib.Ieee.Positive.{num, den, positive, positive_of_value}
use lib.Ieee.Scale.{finite}
use Rattle.exact.specs.Binary32.{zero₃₂, one₃₂}
use Rattle.rounding.proofs.Monotone.{unsigned, of_value, le_cross, cross_le, unsigned_finite, div_at_most, div_nothing, div_unsigned, div_mono}
use Rattle.math.specs.Formulas.{clamp_of}
use Rattle.math.proofs.Whole.{of_int_lem}
use Rattle.curve.specs.Curve.{position_of}
use Rattle.walk.proofs.Steps.{le_nlt}
use Rattle.strip.specs.Strip.{part_of, sample_position}

-- ---- the number of a sample, as a float
module _ (i : ℕ) (h : i ≤ 4096) where
  small : i ≤ 16777216
  small = omega arith

  pub whole_unsigned : T (unsigned (of_int binary32 (pos i)))
  whole_unsigned = of_value (of_int binary32 (pos i)) i 1 (of_int_lem (pos i) small)

  pub whole_positive : 0 < i → T (positive (of_int binary32 (pos i)))
  whole_positive p = positive_of_value (of_int binary32 (pos i)) i 1 (of_int_lem (pos i) small) p

pub whole_le : (i j : ℕ) → i ≤ j → T (le (of_int binary32 (pos i)) (of_int binary32 (pos j)))
unfolding of_int
whole_le i j h = round_mono binary32 i 1 j 1 (lit< tt) (lit< tt) (omega arith)

-- ---- its position
module _ (last : ℕ) (some : 0 < last) (h : last ≤ 4096) (i : ℕ) (k : i ≤ last) where
  part_to_one : T (le (part_of i last) one₃₂)
  unfolding of_bits fits
  part_to_one =
      let x = of_int binary32 (pos i) in
      let t = of_int binary32 (pos last) in
      let u = whole_unsigned i (omega arith) in
      div_at_most binary32 x t one₃₂ u (whole_positive last h some) tt tt (core (num x * den t) (num t * den x) (le_cross x t u (whole_unsigned last h) (whole_le i last k)))
    where
      core : (a b : ℕ) → a ≤ b → a * 1 ≤ 1 * b
      core a b h = omega arith

  pub part_unsigned : T (unsigned (part_of i last))
  unfolding of_bits
  part_unsigned = div_unsigned binary32 (of_int binary32 (pos i)) (of_int binary32 (pos last)) one₃₂ (whole_unsigned i (omega arith)) (whole_positive last h some) tt part_to_one

  -- a later sample lies no nearer to 0
  pub part_rises : (j : ℕ) → i ≤ j → j ≤ last → T (le (part_of i last) (part_of j last))
  part_rises j a b =
      div_mono binary32 (of_int binary32 (pos i)) (of_int binary32 (pos j)) (of_int binary32 (pos last)) (whole_unsigned i (omega arith)) (whole_unsigned j (omega arith)) (whole_positive last h some) (whole_le i j a)

-- the first lies at 0
pub first_at_zero : (n : ℕ) → 2 ≤ n → n ≤ 4096 → sample_position n 0 ≡ zero₃₂
unfolding sample_position of_int of_bits round
first_at_zero n h k = div_nothing binary32 (of_int binary32 (pos 0)) (of_int binary32 (pos (n - 1))) tt refl (whole_positive (n - 1) (omega arith) (omega arith))

-- ---- a position from 0 to 1 is itself
from_zero : (t : Float) → T (unsigned t) → T (le zero₃₂ t)
unfolding of_bits
from_zero t u = cross_le zero₃₂ t tt u (core (num t) (den t))
  where
    core : (a c : ℕ) → 0 * c ≤ a * 1
    core a c = omega arith

no_nan : (t : Float) → T (unsigned t) → is_nan t ≡ false
unfolding is_nan
no_nan nan u = absurd u
no_nan (inf s) u = absurd u
no_nan (fin s m e) u = refl

within_unit : (t : Float) → T (unsigned t) → T (le t one₃₂) → position_of t ≡ t
unfolding position_of clamp_of
within_unit t u h = simp (no_nan t u, is_false (lt t zero₃₂) (unfold of_bits in le_nlt zero₃₂ t tt f (from_zero t u)), is_false (lt one₃₂ t) (unfold of_bits in le_nlt t one₃₂ f tt h))
  where
    f : T (finite t)
    f = unsigned_finite t u

-- The position of sample i of n.
pub sample_position_lem : (n i last : ℕ) {p : Float} → 2 ≤ n → n ≤ 4096 → i < n → last ≡ n - 1 → p ≡ part_of i last → position_of p ≡ p
sample_position_lem n i last a b k e q =
    let s : 0 < last = omega arith in
    let m : last ≤ 4096 = omega arith in
    let l : i ≤ last = omega arith in
    rw q (within_unit (part_of i last) (part_unsigned last s m i l) (part_to_one last s m i l))
