-- HOW TO BOUND A NEW FORMULA, at a blend of two levels: a ⊕ (b ⊖ a) ⊗ u for a, b and u from 0 to 1 lies within 2 ^ -22 of a + (b - a) u.
-- The formula as an expression, its inputs' ranges, one computed test, and the theorem. Assumes nothing.
use Prim.Native.Nat.{◌^◌}
use lib.Dec.{T, lit<}
use lib.Ieee.{Float, binary32, of_bits, fits, le}
use Rattle.exact.specs.Fraction.{ratio, ◌+ℚ◌, ◌-ℚ◌, ◌*ℚ◌}
use Rattle.exact.specs.Value.{value, Within}
use Rattle.exact.specs.Binary32.{◌⊕◌, ◌⊖◌, ◌⊗◌, zero₃₂, one₃₂}
use Rattle.rounding.proofs.Analyser.{Bound, Expr, var, plus, minus, times, Approximates, constant_of, analyse, certified, plain, eval_float, eval_exact}
use Rattle.rounding.proofs.Soundness.{plainly}
use Rattle.rounding.proofs.Inputs.{range, input, three, three_inputs, bounded}

blend : Expr
blend = plus (var 0) (times (minus (var 1) (var 0)) (var 2))

unit : Bound
unfolding range
unit = range binary32 zero₃₂ one₃₂

blend_ok : T (certified binary32 (three unit unit unit) blend 1 (2 ^ 22))
unfolding certified analyse blend unit three of_bits
blend_ok = tt

-- a float from 0 to 1
record Level (x : Float) : Type 0 where
  holds : T (fits binary32 x)
  above : T (le zero₃₂ x)
  below : T (le x one₃₂)

level : (x : Float) → Level x → Approximates binary32 x (value x) unit
unfolding unit constant_of of_bits
level x h = input binary32 x zero₃₂ one₃₂ h.holds tt tt h.above h.below

blend_near : (a b u : Float) → Level a → Level b → Level u → Within (value (a ⊕ (b ⊖ a) ⊗ u)) (value a +ℚ (value b -ℚ value a) *ℚ value u) (ratio 1 (2 ^ 22))
unfolding blend three eval_float eval_exact plain
blend_near a b u ha hb hu =
    bounded binary32 (three a b u) (three (value a) (value b) (value u)) (three unit unit unit) (three_inputs binary32 a b u (value a) (value b) (value u) unit unit unit (level a ha) (level b hb) (level u hu))
    blend (plainly binary32 (three (value a) (value b) (value u)) blend tt) 1 (2 ^ 22) (lit< tt) blend_ok
