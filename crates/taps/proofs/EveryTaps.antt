-- THE HEIGHT IS A NUMBER FROM 0 TO 1, whatever the taps hold: a NaN, an infinity or a height past 1 too. Assumes nothing.
use Prim.Native.Nat.{ℕ, zero, suc}
use lib.Ieee.{Float, of_bits, fits, is_nan}
use Rattle.curve.specs.Curve.{position_of, drawn_of}
use Rattle.curve.proofs.Positions.{Level, unit_level}
use Rattle.taps.specs.declared.Taps.{Taps}
use Rattle.taps.specs.Formula.{used_of, at_of, tall_of, taps_level_of, taps_height_of}
use Rattle.taps.proofs.Maximum.{Number}
use Rattle.taps.proofs.OneTap.{tap_number}

pub level_number : (taps : Taps) (p : Float) (i : ℕ) → Number (taps_level_of taps p i)
unfolding taps_level_of fits is_nan of_bits
level_number taps p zero = record { holds = tt; number = tt }
level_number taps p (suc i) = tap_number (at_of taps i) (tall_of taps i) p (taps_level_of taps p i) (level_number taps p i)

-- ---- THE THEOREM
pub taps_level : (taps : Taps) (t : Float) → Level (taps_height_of taps t).height
unfolding taps_height_of drawn_of
taps_level taps t =
    let n = level_number taps (position_of t) (used_of taps) in
    unit_level (taps_level_of taps (position_of t) (used_of taps)) n.holds n.number
