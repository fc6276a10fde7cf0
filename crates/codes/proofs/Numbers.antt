-- THE CODES ARE NUMBERED FROM 0 TO 13: each number names its own code, and no other number names one. Assumes nothing.
use mathlib.Core.Path.{◌≡◌, refl}
use mathlib.Core.List.{List, [], ◌∷◌}
use Prim.Native.Nat.{ℕ, zero, suc, ◌≤◌}
use native.Mathlib.Omega.{arith}
use lib.ListN.{length}
use Rattle.std.specs.Prelude.{None, Some}
use Rattle.codes.specs.declared.EnvelopeId.TheVariants.{Vca, Vcf, Mod}
use Rattle.codes.specs.declared.LfoId.TheVariants.{One, Two}
use Rattle.codes.specs.declared.OscillatorId.TheVariants.{One as First, Two as Second}
use Rattle.codes.specs.declared.Code.{Code}
use Rattle.codes.specs.declared.Code.TheVariants.{Envelope, Lfo, LfoUnipolar, Fade, LowPass, HighPass, Oscillator, Noise}
use Rattle.codes.specs.Codes.{codes, code_in, code_of, code_number}

pub code_number_lem : (c : Code) → code_of (code_number c) ≡ Some c
unfolding codes code_in
code_number_lem (Envelope Vca) = refl
code_number_lem (Envelope Vcf) = refl
code_number_lem (Envelope Mod) = refl
code_number_lem (Lfo One) = refl
code_number_lem (Lfo Two) = refl
code_number_lem (LfoUnipolar One) = refl
code_number_lem (LfoUnipolar Two) = refl
code_number_lem (Fade One) = refl
code_number_lem (Fade Two) = refl
code_number_lem LowPass = refl
code_number_lem HighPass = refl
code_number_lem (Oscillator First) = refl
code_number_lem (Oscillator Second) = refl
code_number_lem Noise = refl

-- so every byte from 14 to 255
past : (cs : List Code) (n : ℕ) → length cs ≤ n → code_in cs n ≡ None
unfolding code_in
past [] n h = refl
past (c ∷ cs) zero h = absurd (omega arith)
past (c ∷ cs) (suc n) h = past cs n (omega arith)

pub code_above : (n : ℕ) → 14 ≤ n → code_of n ≡ None
unfolding codes
code_above n h = past codes n h
