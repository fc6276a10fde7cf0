-- `log2` is `log2_of`. Assumes nothing.
use mathlib.Core.Path.{◌≡◌, sym, subst}
use mathlib.Core.Bool.{true}
use Prim.Native.Nat.{◌/◌}
use lib.Dec.{T}
use lib.Ieee.{Float, binary32, fits, to_bits, of_bits, neg, lt}
use lib.Ieee.Bits.{to_bits-lt}
use borrow.Author.Tests.{not-true, not-false}
use Rattle.exact.specs.Binary32.{zero₃₂}
use Rattle.log2.specs.Formula.{log2_bits, log2_of}
use Rattle.log2.proofs.Logarithm.{Exponent, exponent, above_zero, mantissa_number}
use Rattle.log2.proofs.log2.Goals as goal

-- the field of x's pattern
field : (x : Float) → fits binary32 x ≡ true → Exponent (to_bits binary32 x / 8388608)
field x h = exponent (to_bits binary32 x) (to_bits-lt binary32 x (subst T (sym h) tt))

pub returns-then-not-x : goal.returns-then-not-x
unfolding log2_of log2_bits of_bits neg
returns-then-not-x c = simp c.if-not-x.true

pub float_to_bits-bits : goal.float_to_bits-bits
float_to_bits-bits c = above_zero _ c.if-not-x.false

pub overflow_cast-exponent : goal.overflow_cast-exponent
overflow_cast-exponent c = (field _ c.well_formed.0.1).field

pub overflow_sub-exponent : goal.overflow_sub-exponent
overflow_sub-exponent c = (field _ c.well_formed.0.1).sum

pub float_from_bits-mantissa : goal.float_from_bits-mantissa
float_from_bits-mantissa c = mantissa_number (to_bits binary32 c.args.x)

pub int_to_float-result : goal.int_to_float-result
int_to_float-result c = (field _ c.well_formed.0.1).exact

pub returns : goal.returns
unfolding log2_of log2_bits
returns c = simp (c.if-not-x.false, (field _ c.well_formed.0.1).is, c.log2_mantissa.ensures)
