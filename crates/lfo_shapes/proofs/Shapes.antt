-- THE SHAPES THAT LOSE NOTHING: triangle, square, ramp up and hold are in binary32 what they are exactly, for every phase of a curve. Assumes nothing.
use mathlib.Core.Path.{◌≡◌, sym, ap, subst}
use mathlib.Core.Bool.{Bool, true, false, not, cond}
use Prim.Native.Nat.{ℕ, zero, suc, ◌+◌, ◌*◌}
use native.Mathlib.Nat.{mul-pos}
use native.Mathlib.Omega.{arith}
use lib.Signed.{le_z_yes}
use lib.Dec.{T, lit<}
use lib.ListN.{get_or}
use lib.Ieee.{Float, binary32, of_bits, fits, lt, le, eq}
use lib.Ieee.Fits.{mul-fits}
use Rattle.exact.specs.Fraction.{Fraction, Defined, ratio, floorℚ, ltℚ, ◌-ℚ◌, ◌*ℚ◌, ◌≤ℚ◌}
use Rattle.exact.specs.Value.{value, Equal}
use Rattle.exact.specs.Binary32.{◌⊖◌, ◌⊗◌, zero₃₂, half₃₂, one₃₂}
use Rattle.exact.proofs.Parts.{num⁺, num⁻, times⁺, times⁻}
use Rattle.exact.proofs.Defined.{value_defined, at_floor_is}
use Rattle.exact.proofs.Order.{≤ℚ-trans, equal_refl, parts_equal, equal_sym, equal_trans, equal_at_most, equal⁺, equal⁻}
use Rattle.exact.proofs.Inequality.{nlt_le, scale_le}
use Rattle.rounding.proofs.Sterbenz.{sterbenz_of}
use Rattle.curve.proofs.Positions.{Level, level_finite}
use Rattle.floor.proofs.Turned.{Turned, chosen}
use Rattle.floor.proofs.Phase.{Phase, phase_finite}
use Rattle.lfo_shapes.specs.Formula.{two₃₂, wrap_of, samples, sampled_of, triangle_of, square_of, ramp_up_of}
use Rattle.lfo_shapes.specs.Exact.{wrapℚ, remainder, sampleℚ, triangleℚ, squareℚ, ramp_upℚ, holdℚ}
use Rattle.lfo_shapes.proofs.Scaling.{times_power}
use Rattle.lfo_shapes.proofs.Cycles.{sampled_is}
use Rattle.lfo_shapes.proofs.Earlier.{floor_cycle}
use Rattle.lfo_shapes.proofs.Wrapped.{zero_equal, half_equal, one_equal, wrap_turned}

-- ---- twice a part of a cycle
two_fits : T (fits binary32 two₃₂)
unfolding fits of_bits
two_fits = tt

two_equal : Equal (value two₃₂) (ratio 2 1)
unfolding value of_bits
two_equal = equal_refl (lit< tt)

equal_scale : {a b : Fraction} (v : ℕ) → Equal a b → Equal (ratio v 1 *ℚ a) (ratio v 1 *ℚ b)
equal_scale {a} {b} v e =
    parts_equal (mul-pos (lit< tt) e.left) (mul-pos (lit< tt) e.right)
    (rw (times⁺ v a.num, times⁻ v a.num, times⁺ v b.num, times⁻ v b.num) (go (num⁺ a) (num⁻ a) a.den (num⁺ b) (num⁻ b) b.den (equal⁺ e) (equal⁻ e)))
  where
    go : (P N D Q M E : ℕ) → P * E ≡ Q * D → N * E ≡ M * D → v * P * (1 * E) + v * M * (1 * D) ≡ v * Q * (1 * D) + v * N * (1 * E)
    go P N D Q M E h k = omega (arith, ap (λ (x : ℕ). v * x) h, ap (λ (x : ℕ). v * x) k)

doubled : (w : Float) (W : Fraction) → Turned w W (ratio 1 1) → Equal (value (w ⊗ two₃₂)) (ratio 2 1 *ℚ W)
unfolding of_bits
doubled w W h =
    equal_trans
    (times_power w 1 1 h.holds ((value_defined w).0 h.is.left) (≤ℚ-trans (ratio 0 1) W (value w) h.is.right h.above (equal_at_most (equal_sym h.is)).le)
    (≤ℚ-trans (value w) W (ratio 1 1) h.is.right (equal_at_most h.is).le h.below) (lit< tt))
    (equal_scale 2 h.is)

-- ---- TRIANGLE
triangle_part : (w : Float) (W : Fraction) (b : Bool) → (T (not b) → ratio 1 2 ≤ℚ W) → Turned w W (ratio 1 1)
    → Equal (value (cond b (w ⊗ two₃₂) (two₃₂ ⊖ w ⊗ two₃₂))) (cond b (ratio 2 1 *ℚ W) (ratio 2 1 -ℚ ratio 2 1 *ℚ W))
triangle_part w W true u h = doubled w W h
triangle_part w W false u h =
    sterbenz_of binary32 two₃₂ (w ⊗ two₃₂) (ratio 2 1) (ratio 2 1 *ℚ W) two_fits (mul-fits binary32 w two₃₂) two_equal (doubled w W h)
    (≤ℚ-trans (ratio 2 1 *ℚ W) (ratio 2 1 *ℚ ratio 1 1) (ratio 2 1 *ℚ ratio 2 1) (lit< tt) (scale_le 2 1 W (ratio 1 1) h.below) (le_z_yes tt))
    (≤ℚ-trans (ratio 2 1) (ratio 2 1 *ℚ (ratio 2 1 *ℚ ratio 1 2)) (ratio 2 1 *ℚ (ratio 2 1 *ℚ W)) (lit< tt) (le_z_yes tt) (scale_le 2 1 (ratio 2 1 *ℚ ratio 1 2) (ratio 2 1 *ℚ W) (scale_le 2 1 (ratio 1 2) W (u tt))))

pub triangle_exact : (p : Float) → T (fits binary32 p) → Phase p → Equal (value (triangle_of p)) (triangleℚ (value p))
unfolding triangle_of
triangle_exact p f h =
    let w = wrap_turned p f h in
    let W = wrapℚ (value p) in
    chosen (λ (x : Float) (X : Fraction). Equal (value x) X) (wrap_of p) half₃₂ w.is half_equal (wrap_of p ⊗ two₃₂) (two₃₂ ⊖ wrap_of p ⊗ two₃₂) (ratio 2 1 *ℚ W) (ratio 2 1 -ℚ ratio 2 1 *ℚ W)
    (triangle_part (wrap_of p) W (ltℚ W (ratio 1 2)) (nlt_le W (ratio 1 2)) w)

-- ---- SQUARE
pub square_exact : (p : Float) → T (fits binary32 p) → Phase p → Equal (value (square_of p)) (squareℚ (value p))
unfolding square_of
square_exact p f h =
    let w = wrap_turned p f h in
    let W = wrapℚ (value p) in
    chosen (λ (x : Float) (X : Fraction). Equal (value x) X) (wrap_of p) half₃₂ w.is half_equal one₃₂ zero₃₂ (ratio 1 1) (ratio 0 1) (go (ltℚ W (ratio 1 2)))
  where
    go : (b : Bool) → Equal (value (cond b one₃₂ zero₃₂)) (cond b (ratio 1 1) (ratio 0 1))
    go true = one_equal
    go false = zero_equal

-- ---- RAMP UP
pub ramp_up_exact : (p : Float) → T (fits binary32 p) → Phase p → Equal (value (ramp_up_of p)) (ramp_upℚ (value p))
unfolding ramp_up_of
ramp_up_exact p f h = (wrap_turned p f h).is

-- ---- HOLD
pub hold_is : (p : Float) → T (fits binary32 p) → Phase p → sampled_of p ≡ get_or samples (remainder (floorℚ (value p))) half₃₂
hold_is p f h = sampled_is p f (phase_finite p h) (floor_cycle p h)

-- a sample is a number from 0 to 1
pub sample_level : (n : ℕ) → Level (get_or samples n half₃₂)
unfolding samples fits le lt eq of_bits
sample_level zero = record { holds = tt; from = tt; to = tt }
sample_level (suc zero) = record { holds = tt; from = tt; to = tt }
sample_level (suc (suc zero)) = record { holds = tt; from = tt; to = tt }
sample_level (suc (suc (suc zero))) = record { holds = tt; from = tt; to = tt }
sample_level (suc (suc (suc (suc zero)))) = record { holds = tt; from = tt; to = tt }
sample_level (suc (suc (suc (suc (suc zero))))) = record { holds = tt; from = tt; to = tt }
sample_level (suc (suc (suc (suc (suc (suc zero)))))) = record { holds = tt; from = tt; to = tt }
sample_level (suc (suc (suc (suc (suc (suc (suc zero))))))) = record { holds = tt; from = tt; to = tt }
sample_level (suc (suc (suc (suc (suc (suc (suc (suc n)))))))) = record { holds = tt; from = tt; to = tt }

sample_defined : (n : ℕ) → Defined (value (get_or samples n half₃₂))
sample_defined n = (value_defined (get_or samples n half₃₂)).1 (level_finite (get_or samples n half₃₂) (sample_level n))

pub hold_exact : (p : Float) → T (fits binary32 p) → Phase p → Equal (value (sampled_of p)) (holdℚ (value p))
unfolding sampleℚ
hold_exact p f h =
    rw (at_floor_is sampleℚ (value p) ((value_defined p).1 (phase_finite p h)))
    (subst (λ (x : Float). Equal (value x) (sampleℚ (floorℚ (value p)))) (sym (hold_is p f h)) (equal_refl (sample_defined (remainder (floorℚ (value p))))))
