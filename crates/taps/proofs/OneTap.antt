-- ONE TAP MORE: the maximum so far is never a NaN, and a tap whose position is no number or whose height is a NaN adds nothing to it. Assumes nothing.
use mathlib.Core.Path.{◌≡◌, refl}
use mathlib.Core.Bool.{Bool, true, false, not, cond}
use lib.Dec.{T}
use lib.Ieee.{Float, nan, inf, fin, binary32, of_bits, fits, is_nan, lt, add, sub, mul}
use lib.Ieee.Fits.{mul-fits}
use Rattle.exact.specs.Binary32.{◌⊖◌}
use Rattle.math.specs.Formulas.{abs_of, max_of}
use Rattle.taps.specs.Formula.{tap_width, spike_of, tap_height_of}
use Rattle.taps.proofs.Maximum.{Number, max_nan, max_number}

-- ---- what adds nothing
pub nan_position : (tall p h : Float) → tap_height_of nan tall p h ≡ h
unfolding tap_height_of sub add abs_of lt
nan_position tall nan h = refl
nan_position tall (inf t) h = refl
nan_position tall (fin t m e) h = refl

pub infinite_position : (s : Bool) (tall p h : Float) → tap_height_of (inf s) tall p h ≡ h
unfolding tap_height_of sub add abs_of lt of_bits
infinite_position s tall nan h = refl
infinite_position true tall (inf true) h = refl
infinite_position true tall (inf false) h = refl
infinite_position false tall (inf true) h = refl
infinite_position false tall (inf false) h = refl
infinite_position s tall (fin t m e) h = refl

pub nan_height : (at p h : Float) → T (not (is_nan h)) → tap_height_of at nan p h ≡ h
unfolding tap_height_of mul
nan_height at p h n = go (lt (abs_of (p ⊖ at)) tap_width) (max_nan h n)
  where
    go : (b : Bool) → max_of h nan ≡ h → cond b (max_of h nan) h ≡ h
    go true e = e
    go false e = refl

-- ---- one tap more
pub spike_fits : (tall d : Float) → T (fits binary32 (spike_of tall d))
spike_fits tall d = mul-fits binary32 tall _

pub tap_number : (at tall p h : Float) → Number h → Number (tap_height_of at tall p h)
unfolding tap_height_of
tap_number at tall p h n = go (lt (abs_of (p ⊖ at)) tap_width)
  where
    spike : Float
    spike = spike_of tall (abs_of (p ⊖ at))

    go : (b : Bool) → Number (cond b (max_of h spike) h)
    go true = max_number h spike n (spike_fits tall (abs_of (p ⊖ at)))
    go false = n
