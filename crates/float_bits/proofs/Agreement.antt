-- `agree` BY THE TESTS OF THE CODE: the first is a NaN or it is not. Assumes nothing.
use mathlib.Core.Path.{◌≡◌, refl}
use mathlib.Core.Bool.{true, false}
use lib.Ieee.{Float, ne, eq}
use Rattle.math.proofs.Nan.{is_nan_tested}
use Rattle.float_bits.specs.Agreement.{agree}

pub with_nan : (x y : Float) → ne x x ≡ true → ne y y ≡ agree x y
unfolding agree
with_nan x y h = simp (is_nan_tested true x h, is_nan_tested (ne y y) y refl)

pub with_number : (x y : Float) → ne x x ≡ false → eq x y ≡ agree x y
unfolding agree
with_number x y h = simp (is_nan_tested false x h)
