-- THE CODES: docs/SPECIFICATION.md, "The block and its codes". Definitions only.
use Rattle.std.specs.Prelude.{List, [], ◌∷◌, ℕ, zero, suc, ◌+◌, Option, None, Some}
use Rattle.codes.specs.declared.EnvelopeId.{EnvelopeId}
use Rattle.codes.specs.declared.EnvelopeId.TheVariants.{Vca, Vcf, Mod}
use Rattle.codes.specs.declared.LfoId.{LfoId}
use Rattle.codes.specs.declared.LfoId.TheVariants.{One, Two}
use Rattle.codes.specs.declared.OscillatorId.{OscillatorId}
use Rattle.codes.specs.declared.OscillatorId.TheVariants.{One as First, Two as Second}
use Rattle.codes.specs.declared.Code.{Code}
use Rattle.codes.specs.declared.Code.TheVariants.{Envelope, Lfo, LfoUnipolar, Fade, LowPass, HighPass, Oscillator, Noise}

-- The codes in the order of their numbers, from 0 to 13.
unfoldable pub codes : List Code
codes =
    Envelope Vca ∷ Envelope Vcf ∷ Envelope Mod ∷ Lfo One ∷ Lfo Two ∷ LfoUnipolar One ∷ LfoUnipolar Two ∷ Fade One ∷ Fade Two ∷ LowPass ∷ HighPass ∷
    Oscillator First ∷ Oscillator Second ∷ Noise ∷ []

-- The code of a number; numbers from the list's length on have none.
unfoldable pub code_in : List Code → ℕ → Option Code
code_in [] n = None
code_in (c ∷ cs) zero = Some c
code_in (c ∷ cs) (suc n) = code_in cs n

abbrev pub code_of : ℕ → Option Code
code_of n = code_in codes n

-- The number of a code: that of its first, and how many of its kind stand before it.
abbrev pub envelope_number : EnvelopeId → ℕ
envelope_number Vca = 0
envelope_number Vcf = 1
envelope_number Mod = 2

abbrev pub lfo_number : LfoId → ℕ
lfo_number One = 0
lfo_number Two = 1

abbrev pub oscillator_number : OscillatorId → ℕ
oscillator_number First = 0
oscillator_number Second = 1

abbrev pub code_number : Code → ℕ
code_number (Envelope id) = envelope_number id
code_number (Lfo id) = 3 + lfo_number id
code_number (LfoUnipolar id) = 5 + lfo_number id
code_number (Fade id) = 7 + lfo_number id
code_number LowPass = 9
code_number HighPass = 10
code_number (Oscillator id) = 11 + oscillator_number id
code_number Noise = 13
