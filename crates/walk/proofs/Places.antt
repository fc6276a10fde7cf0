-- THE POSITIONS OF THE WALK, counts 0 to 864: each above the one before by at most 1/85, from -1 to 8, the halves among them met exactly. Those below 0 are multiples of 2 ^ -24, so that `fract` is
-- exact on all. Computed over the table of counts. Assumes nothing.
use mathlib.Core.Path.{◌≡◌, refl, sym, subst}
use mathlib.Core.Logic.{inl, inr}
use mathlib.Core.Bool.{Bool, true, false, not, ◌&&◌}
use Prim.Native.Nat.{ℕ, zero, suc, ◌+◌, ◌*◌, ◌/◌, ◌^◌, ◌≤◌, ◌<◌}
use native.Mathlib.Nat.{not-suc-le-zero, eq-or-lt_of_le, le_of_suc-le-suc, mul-lt-mul_of_pos_right, lt_of_mul-lt-mul_right}
use native.Mathlib.Omega.{arith}
use lib.IntN.{pos, nat_abs, ◌*ℤ◌}
use lib.Signed.{le_z, le_z_yes}
use lib.Dec.{T, lit≤, eqb, leb, ltb, eqb→eq, leb→le, ltb→lt, nleb→lt}
use lib.Ieee.{Float, binary32, of_bits, of_int, neg, add, mul, div, lt, fits}
use lib.Ieee.Fits.{and_l, and_r, add-fits}
use lib.Ieee.Scale.{finite}
use Rattle.exact.specs.Fraction.{Fraction, ratio, negℚ, ◌-ℚ◌, ◌≤ℚ◌}
use Rattle.exact.specs.Value.{value, Equal}
use Rattle.exact.specs.Binary32.{zero₃₂, one₃₂}
use Rattle.exact.proofs.Parts.{num⁺, num⁻}
use Rattle.exact.proofs.Defined.{value_defined}
use Rattle.exact.proofs.Order.{cross, ≤ℚ-refl, parts_equal, lt_at_most, compared, test_passes}
use Rattle.lists.proofs.Every.{every, each}
use Rattle.settings.specs.declared.SampledTurns.{SampledTurns}
use Rattle.settings.specs.declared.SampledTurns.TheVariants.{Six, Eight}
use Rattle.settings.specs.Settings.{turns_number, sampled_turns}
use Rattle.floor.proofs.Phase.{Phase, from_zero, walked}
use Rattle.walk.specs.Formula.{step_of, place_of}

pub place_fits : (k : ℕ) → T (fits binary32 (place_of k))
unfolding place_of
place_fits k = add-fits binary32 _ _

-- ---- the ends, and the count at 0
pub place_start : place_of 0 ≡ neg one₃₂
unfolding place_of step_of of_bits of_int neg add mul div
place_start = refl

pub place_zero : place_of 96 ≡ zero₃₂
unfolding place_of step_of of_bits of_int neg add mul div
place_zero = refl

pub place_turns : (n : SampledTurns) → place_of (96 + 96 * turns_number n) ≡ sampled_turns n
unfolding place_of step_of of_bits of_int neg add mul div
place_turns Six = refl
place_turns Eight = refl

-- ---- each is a number, above the one before, by at most 1/85
near : Fraction → Fraction → Bool
near a b = le_z ((b -ℚ a).num *ℤ pos 85) (pos 1 *ℤ pos (b -ℚ a).den)

unfoldable ordered : Float → Float → Bool
ordered p q = lt p q && near (value p) (value q)

unfoldable steady : ℕ → Bool
steady k = finite (place_of k) && ordered (place_of k) (place_of (suc k))

steady_all : T (every steady 864)
unfolding every steady ordered near value place_of step_of of_bits of_int neg add mul div lt
steady_all = tt

pub place_finite : (k : ℕ) → k ≤ 864 → T (finite (place_of k))
unfolding steady
place_finite k h =
    elim (eq-or-lt_of_le h) [
      | inl e ↦
          subst (λ (j : ℕ). T (finite (place_of j))) (sym e) (subst (λ (x : Float). T (finite x)) (sym (place_turns Eight)) (unfold of_bits in tt))
      | inr l ↦
          and_l (finite (place_of k)) (ordered (place_of k) (place_of (suc k))) (each steady 864 k steady_all l)
    ]

next_ordered : (k : ℕ) → k < 864 → T (ordered (place_of k) (place_of (suc k)))
unfolding steady
next_ordered k l = and_r (finite (place_of k)) (ordered (place_of k) (place_of (suc k))) (each steady 864 k steady_all l)

next_above : (k : ℕ) → k < 864 → T (lt (place_of k) (place_of (suc k)))
unfolding ordered
next_above k l = and_l (lt (place_of k) (place_of (suc k))) (near (value (place_of k)) (value (place_of (suc k)))) (next_ordered k l)

pub next_near : (k : ℕ) → k < 864 → value (place_of (suc k)) -ℚ value (place_of k) ≤ℚ ratio 1 85
unfolding ordered near
next_near k l = le_z_yes (and_r (lt (place_of k) (place_of (suc k))) (near (value (place_of k)) (value (place_of (suc k)))) (next_ordered k l))

-- over numbers the order is that of their values
lt_chain : (x y z : Float) → T (finite x) → T (finite y) → T (finite z) → T (lt x y) → T (lt y z) → T (lt x z)
lt_chain x y z X Y Z h k =
    test_passes (compared x z X Z).below
    (core (num⁺ (value x)) (num⁻ (value x)) (value x).den (num⁺ (value y)) (num⁻ (value y)) (value y).den (num⁺ (value z)) (num⁻ (value z)) (value z).den
    ((value_defined x).1 X) ((value_defined y).1 Y) ((value_defined z).1 Z) ((compared x y X Y).below.passed h) ((compared y z Y Z).below.passed k))
  where
    core : (P N D Q M E R O F : ℕ) → 0 < D → 0 < E → 0 < F → P * E + M * D < Q * D + N * E → Q * F + O * E < R * E + M * F → P * F + O * D < R * D + N * F
    core P N D Q M E R O F d e f h k = lt_of_mul-lt-mul_right E (omega (arith, mul-lt-mul_of_pos_right h f, mul-lt-mul_of_pos_right k d))

pub increasing : (j k : ℕ) → j < k → k ≤ 864 → T (lt (place_of j) (place_of k))
increasing j zero h l = absurd (not-suc-le-zero h)
increasing j (suc k) h l =
    elim (eq-or-lt_of_le (le_of_suc-le-suc h)) [
      | inl e ↦
          subst (λ (i : ℕ). T (lt (place_of i) (place_of (suc k)))) (sym e) (next_above k l)
      | inr m ↦
          lt_chain (place_of j) (place_of k) (place_of (suc k)) (place_finite j (omega arith)) (place_finite k (omega arith)) (place_finite (suc k) l) (increasing j k m (omega arith)) (next_above k l)
    ]

-- ---- two fractions that are equal, by a test
same : Fraction → Fraction → Bool
same a b = ltb 0 a.den && (ltb 0 b.den && eqb (cross a b) (cross b a))

same_equal : (a b : Fraction) → T (same a b) → Equal a b
unfolding same
same_equal a b t =
    let r = and_r (ltb 0 a.den) (ltb 0 b.den && eqb (cross a b) (cross b a)) t in
    parts_equal (ltb→lt 0 a.den (and_l (ltb 0 a.den) (ltb 0 b.den && eqb (cross a b) (cross b a)) t)) (ltb→lt 0 b.den (and_l (ltb 0 b.den) (eqb (cross a b) (cross b a)) r))
    (eqb→eq (cross a b) (cross b a) (and_r (ltb 0 b.den) (eqb (cross a b) (cross b a)) r))

-- ---- halves: a count that 48 divides is placed at its half, j / 2 - 1
half_met : ℕ → Bool
half_met j = same (value (place_of (48 * j))) (ratio j 2 -ℚ ratio 1 1)

half_met_all : T (every half_met 19)
unfolding every half_met same value place_of step_of of_bits of_int neg add mul div
half_met_all = tt

pub place_half : (j : ℕ) → j ≤ 18 → Equal (value (place_of (48 * j))) (ratio j 2 -ℚ ratio 1 1)
unfolding half_met
place_half j h = same_equal (value (place_of (48 * j))) (ratio j 2 -ℚ ratio 1 1) (each half_met 19 j half_met_all (omega arith))

-- ---- below 0: how many times 2 ^ -24 it is
multiple : Fraction → ℕ
multiple a = nat_abs a.num * 2 ^ 24 / a.den

on_grid : ℕ → Bool
on_grid k = let m = multiple (value (place_of k)) in ltb 0 m && (leb m (2 ^ 24) && same (value (place_of k)) (negℚ (ratio m (2 ^ 24))))

on_grid_all : T (every on_grid 96)
unfolding every on_grid multiple same value place_of step_of of_bits of_int neg add mul div
on_grid_all = tt

below_zero : (k : ℕ) → k < 96 → Phase (place_of k)
unfolding on_grid
below_zero k h =
    let a = value (place_of k) in
    let m = multiple a in
    let t = each on_grid 96 k on_grid_all h in
    let u = and_r (ltb 0 m) (leb m (2 ^ 24) && same a (negℚ (ratio m (2 ^ 24)))) t in
    walked m (ltb→lt 0 m (and_l (ltb 0 m) (leb m (2 ^ 24) && same a (negℚ (ratio m (2 ^ 24)))) t)) (leb→le m (2 ^ 24) (and_l (leb m (2 ^ 24)) (same a (negℚ (ratio m (2 ^ 24)))) u))
    (same_equal a (negℚ (ratio m (2 ^ 24))) (and_r (leb m (2 ^ 24)) (same a (negℚ (ratio m (2 ^ 24)))) u))

-- ---- where they lie
pub at_most_later : (j k : ℕ) → j ≤ k → k ≤ 864 → value (place_of j) ≤ℚ value (place_of k)
at_most_later j k h l =
    elim (eq-or-lt_of_le h) [
      | inl e ↦
          subst (λ (i : ℕ). value (place_of j) ≤ℚ value (place_of i)) e (≤ℚ-refl (value (place_of j)))
      | inr m ↦
          (lt_at_most (place_of j) (place_of k) (place_finite j (omega arith)) (place_finite k l) (increasing j k m l)).le
    ]

pub place_below_zero : (k : ℕ) → k < 96 → T (lt (place_of k) zero₃₂)
place_below_zero k h = subst (λ (x : Float). T (lt (place_of k) x)) place_zero (increasing k 96 h (lit≤ tt))

pub place_above_zero : (k : ℕ) → 96 ≤ k → k ≤ 864 → ratio 0 1 ≤ℚ value (place_of k)
unfolding value of_bits
place_above_zero k h l = subst (λ (x : Float). value x ≤ℚ value (place_of k)) place_zero (at_most_later 96 k h l)

-- `fract` is exact on every one
pub place_phase : (k : ℕ) → k ≤ 864 → Phase (place_of k)
place_phase k l = go (leb 96 k) (leb→le 96 k) (nleb→lt 96 k)
  where
    go : (b : Bool) → (T b → 96 ≤ k) → (T (not b) → k < 96) → Phase (place_of k)
    go true h n = from_zero (place_finite k l) (place_above_zero k (h tt) l)
    go false h n = below_zero k (n tt)
