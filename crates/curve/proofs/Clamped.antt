-- A LEVEL NEAR ITS EXACT ONE IS DRAWN NEAR IT: the clamp to 0..1 makes it a number from 0 to 1, and brings the two no further apart. Assumes nothing.
use Prim.Native.Nat.{ℕ}
use lib.Dec.{T}
use lib.Ieee.{Float, binary32, of_bits, fits}
use lib.Ieee.Scale.{finite}
use Rattle.exact.specs.Fraction.{Fraction, ratio, clamp_unitℚ}
use Rattle.exact.specs.Value.{value, Equal, Within}
use Rattle.exact.proofs.Defined.{value_defined}
use Rattle.exact.proofs.Order.{equal_sym, within_equal_left}
use Rattle.exact.proofs.Lipschitz.{unit_within, unit_value}
use Rattle.math.specs.Formulas.{clamp_of}
use Rattle.math.proofs.Nan.{not_nan, finite_number}
use Rattle.curve.specs.Curve.{clamp_unit_of, drawn_of, Drawn}
use Rattle.curve.proofs.Positions.{unit_level}

-- the float clamp is the exact one
unit_is : (x : Float) → T (finite x) → Equal (value (clamp_unit_of x)) (clamp_unitℚ (value x))
unfolding clamp_of of_bits
unit_is x h = unit_value x h

pub drawn_near : (x : Float) (X : Fraction) (r s : ℕ) → T (fits binary32 x) → Within (value x) X (ratio r s) → Drawn (drawn_of x).height (clamp_unitℚ X) (ratio r s)
unfolding drawn_of
drawn_near x X r s f h =
    let t = (value_defined x).0 h.left in
    let l = unit_level x f (not_nan x (finite_number x t)) in
    record { from = l.from; to = l.to; near = within_equal_left (equal_sym (unit_is x t)) (unit_within h) }
