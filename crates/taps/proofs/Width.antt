-- WHICH POSITIONS A TAP REACHES: an offset's size is below the tapWidth if the offset lies between the tapWidth to either side. Assumes nothing.
use mathlib.Core.Path.{◌≡◌, refl}
use mathlib.Core.Bool.{true, false, false≢true}
use Prim.Native.Nat.{ℕ, ◌+◌, ◌*◌, ◌≤◌, ◌<◌}
use native.Mathlib.Omega.{arith}
use lib.Ieee.{Float, nan, inf, fin, up, down, of_bits, neg, lt}
use lib.Ieee.Fits.{down_pos}
use borrow.Author.Tests.{ltb-false}
use Rattle.math.specs.Formulas.{abs_of}
use Rattle.taps.specs.Formula.{tap_width}

-- a size and the tapWidth are together above 0
apart : (n d : ℕ) → 0 < d → n + 7516193 * d ≤ 0 → ⊥
apart n d h l = omega arith

pub between : (x : Float) → lt x tap_width ≡ true → lt (neg tap_width) x ≡ true → lt (abs_of x) tap_width ≡ true
unfolding lt neg of_bits abs_of
between nan h l = absurd (false≢true h)
between (inf true) h l = absurd (false≢true l)
between (inf false) h l = absurd (false≢true h)
between (fin true m e) h l = l
between (fin false m e) h l = h

pub beyond_right : (x : Float) → lt x tap_width ≡ false → lt (abs_of x) tap_width ≡ false
unfolding lt neg of_bits abs_of
beyond_right nan h = refl
beyond_right (inf s) h = refl
beyond_right (fin true m e) h = absurd (apart (m * up e * 536870912) (down e) (down_pos e) (ltb-false 0 (m * up e * 536870912 + 7516193 * down e) h))
beyond_right (fin false m e) h = h

pub beyond_left : (x : Float) → lt (neg tap_width) x ≡ false → lt (abs_of x) tap_width ≡ false
unfolding lt neg of_bits abs_of
beyond_left nan h = refl
beyond_left (inf s) h = refl
beyond_left (fin true m e) h = h
beyond_left (fin false m e) h = absurd (apart (m * up e * 536870912) (down e) (down_pos e) (omega (arith, ltb-false 0 (7516193 * down e + m * up e * 536870912) h)))
