-- THE REASONS BY THE TESTS of the code. Assumes nothing.
use mathlib.Core.Path.{◌≡◌}
use mathlib.Core.Bool.{Bool, true, false}
use mathlib.Core.List.{◌++◌}
use Prim.Native.Nat.{ℕ}
use lib.Dec.{eqb}
use lib.Ieee.{lt}
use Rattle.exact.specs.Binary32.{bits, zero₃₂}
use Rattle.text.specs.Text.{ascii}
use Rattle.numerals.specs.Spelled.{decimal_of}
use Rattle.floor_reasons.specs.Reasons.{small_reason, cleared_reason, step_reason}

-- ---- an exponent below 0
pub small_minus : (b : ℕ) → lt (bits b) zero₃₂ ≡ true → ascii "-1, since x is below 0\n" ≡ small_reason b
unfolding small_reason
small_minus b h = rw h

pub small_nothing : (b : ℕ) → lt (bits b) zero₃₂ ≡ false → ascii "+0, since x is not below 0\n" ≡ small_reason b
unfolding small_reason
small_nothing b h = rw h

-- ---- k bits below the point: one of them, or more
pub one_cleared : (k : ℕ) → eqb k 1 ≡ true → ascii "the lowest bit of the fraction is cleared\n" ≡ cleared_reason k
unfolding cleared_reason
one_cleared k h = rw h

pub some_cleared : (k : ℕ) → eqb k 1 ≡ false
    → ascii "the low " ++ decimal_of k ++ ascii " bits of the fraction are cleared\n" ≡ cleared_reason k
unfolding cleared_reason
some_cleared k h = rw h

-- ---- whether 1 is taken off
module _ (b : ℕ) (some : Bool) where
  pub step_set : lt (bits b) zero₃₂ ≡ true → some ≡ true
      → ascii "less 1, since x is below 0 and a set bit was cleared\n" ≡ step_reason some b
  unfolding step_reason
  step_set h f = rw (h, f)

  pub step_unset : lt (bits b) zero₃₂ ≡ true → some ≡ false
      → ascii "and that is all, since no set bit was cleared\n" ≡ step_reason some b
  unfolding step_reason
  step_unset h f = rw (h, f)

  pub step_above : lt (bits b) zero₃₂ ≡ false
      → ascii "and that is all, since x is not below 0\n" ≡ step_reason some b
  unfolding step_reason
  step_above h = rw h
