-- THE LAW OF floor: the floor of a finite x is the floor of its value, a whole number; it is not above x, and x is below the next whole number. Assumes nothing.
use mathlib.Core.Path.{◌≡◌, refl}
use mathlib.Core.Bool.{true, false, false≢true, true≢false}
use Prim.Native.Nat.{◌*◌}
use native.Mathlib.Omega.{arith}
use lib.Dec.{T, lit<}
use lib.IntN.{ℤ, pos, negsuc}
use lib.Ieee.{Float, nan, inf, fin, binary32, up, of_bits, of_int, neg, fits}
use lib.Ieee.Fits.{down_pos}
use lib.Ieee.Scale.{finite}
use Rattle.exact.specs.Fraction.{whole, floorℚ, ltℚ, ◌+ℚ◌, ◌≤ℚ◌}
use Rattle.exact.specs.Value.{value, Equal}
use Rattle.exact.specs.Binary32.{quarter₃₂, one₃₂}
use Rattle.exact.proofs.Parts.{neg⁺, neg⁻}
use Rattle.exact.proofs.Defined.{value_defined}
use Rattle.exact.proofs.Order.{≤ℚ-trans, parts_equal, equal_at_most}
use Rattle.exact.proofs.Floor.{floor_below, floor_above}
use Rattle.floor.specs.Formula.{floor_of}
use Rattle.math.proofs.Whole.{Whole}
use Rattle.floor.proofs.FloorExact.{floor_exact}

-- below 0 it goes away from 0: the floor of -1/4 is -1
floor_minus_quarter : floor_of (neg quarter₃₂) ≡ neg one₃₂
unfolding floor_of value of_bits of_int neg
floor_minus_quarter = refl

-- what holds z has the value z
whole_value : (y : Float) (z : ℤ) → Whole y z → Equal (value y) (whole z)
unfolding value
whole_value nan z v = absurd v
whole_value (inf t) z v = absurd v
whole_value (fin false n d) (pos q) v = parts_equal (down_pos d) (lit< tt) (omega (arith, v.1))
whole_value (fin true n d) (pos q) v = absurd (true≢false v.0)
whole_value (fin false n d) (negsuc q) v = absurd (false≢true v.0)
whole_value (fin true n d) (negsuc q) v = parts_equal (down_pos d) (lit< tt) (omega (arith, v.1, neg⁺ (pos (n * up d)), neg⁻ (pos (n * up d))))

pub floor_value : (x : Float) → T (fits binary32 x) → T (finite x) → Equal (value (floor_of x)) (whole (floorℚ (value x)))
floor_value x f h = whole_value (floor_of x) (floorℚ (value x)) (floor_exact x f h)

pub floor_not_above : (x : Float) → T (fits binary32 x) → T (finite x) → value (floor_of x) ≤ℚ value x
floor_not_above x f h =
    let e = floor_value x f h in
    ≤ℚ-trans (value (floor_of x)) (whole (floorℚ (value x))) (value x) e.right (equal_at_most e).le (floor_below (value x) ((value_defined x).1 h))

pub floor_below_next : (x : Float) → T (finite x) → T (ltℚ (value x) (whole (floorℚ (value x)) +ℚ whole (pos 1)))
floor_below_next x h = floor_above (value x) ((value_defined x).1 h)
