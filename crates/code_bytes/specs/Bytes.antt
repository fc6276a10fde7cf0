-- THE BLOCK, AND THE BYTES THAT EACH CODE READS: docs/SPECIFICATION.md, "The block and its codes". A reading gives the byte of each number. Definitions only.
use Rattle.std.specs.Prelude.{◌≡◌, List, [], ◌∷◌, ℕ, ◌+◌, ◌*◌, get_or}
use Rattle.codes.specs.declared.EnvelopeId.{EnvelopeId}
use Rattle.codes.specs.declared.EnvelopeId.TheVariants.{Vca, Vcf, Mod}
use Rattle.codes.specs.declared.LfoId.{LfoId}
use Rattle.codes.specs.declared.LfoId.TheVariants.{One, Two}
use Rattle.codes.specs.declared.OscillatorId.TheVariants.{One as First, Two as Second}
use Rattle.codes.specs.declared.Code.{Code}
use Rattle.codes.specs.declared.Code.TheVariants.{Envelope, Lfo, LfoUnipolar, Fade, LowPass, HighPass, Oscillator, Noise}

-- The bytes of a block.
abbrev pub block_length : ℕ
block_length = 242

-- Byte n of a block; past its end, which no use reaches, 0.
abbrev pub byte_at : List ℕ → ℕ → ℕ
byte_at block n = get_or block n 0

-- ---- the bytes that have a place of their own
-- Of oscillator 1 the PWM source, the pulse's and the saw's switch, and the PWM depth.
abbrev pub source_byte : ℕ
source_byte = 16

abbrev pub pulse_byte : ℕ
pulse_byte = 18

abbrev pub saw_byte : ℕ
saw_byte = 19

abbrev pub depth_byte : ℕ
depth_byte = 25

-- The levels of oscillator 2 and of the noise.
abbrev pub oscillator_two_byte : ℕ
oscillator_two_byte = 26

abbrev pub noise_byte : ℕ
noise_byte = 33

-- Of the low-pass the resonance and the poles.
abbrev pub resonance_byte : ℕ
resonance_byte = 41

abbrev pub pole_byte : ℕ
pole_byte = 51

-- The time of the arpeggiator's gates.
abbrev pub gates_byte : ℕ
gates_byte = 160

-- ---- the bytes of an LFO
-- How many each LFO has; those of LFO 1 begin at byte 0, and those of LFO 2 follow.
abbrev pub lfo_span : ℕ
lfo_span = 7

abbrev pub lfos_end : ℕ
lfos_end = 2 * lfo_span

-- The places of its fade time, shape, key sync and slew, counted from its first byte, the rate. No curve reads the others.
abbrev pub fade_place : ℕ
fade_place = 1

abbrev pub shape_place : ℕ
shape_place = 2

abbrev pub key_sync_place : ℕ
key_sync_place = 3

abbrev pub slew_place : ℕ
slew_place = 6

-- An LFO's first byte, and the byte of its fade time.
abbrev pub lfo_first : LfoId → ℕ
lfo_first One = 0
lfo_first Two = lfo_span

abbrev pub fade_byte : LfoId → ℕ
fade_byte id = lfo_first id + fade_place

-- ---- the bytes of an envelope
-- Where those of the first begin, and how many each has.
abbrev pub envelopes_from : ℕ
envelopes_from = 53

abbrev pub envelope_span : ℕ
envelope_span = 9

abbrev pub envelopes_end : ℕ
envelopes_end = envelopes_from + 3 * envelope_span

-- The places of its decay, sustain and release, counted from its first byte, the attack.
abbrev pub decay_place : ℕ
decay_place = 1

abbrev pub sustain_place : ℕ
sustain_place = 2

abbrev pub release_place : ℕ
release_place = 3

-- Of the four curves. The place before them is the trigger mode's, which no curve reads.
abbrev pub attack_curve_place : ℕ
attack_curve_place = 5

abbrev pub decay_curve_place : ℕ
decay_curve_place = 6

abbrev pub sustain_curve_place : ℕ
sustain_curve_place = 7

abbrev pub release_curve_place : ℕ
release_curve_place = 8

-- An envelope's first byte.
abbrev pub envelope_first : EnvelopeId → ℕ
envelope_first Vca = envelopes_from
envelope_first Vcf = envelopes_from + envelope_span
envelope_first Mod = envelopes_from + 2 * envelope_span

-- ---- the bytes of each code
-- Of an envelope: four times and levels, then their four curves. Of an LFO: its shape, its slew, its key sync.
abbrev pub envelope_bytes : ℕ → List ℕ
envelope_bytes n =
    n ∷ (n + decay_place) ∷ (n + sustain_place) ∷ (n + release_place) ∷
    (n + attack_curve_place) ∷ (n + decay_curve_place) ∷ (n + sustain_curve_place) ∷ (n + release_curve_place) ∷ []

abbrev pub lfo_bytes : ℕ → List ℕ
lfo_bytes n = (n + shape_place) ∷ (n + slew_place) ∷ (n + key_sync_place) ∷ []

-- The numbers of the bytes that a code reads, in the order of its formula.
unfoldable pub bytes_of : Code → List ℕ
bytes_of (Envelope id) = envelope_bytes (envelope_first id)
bytes_of (Lfo id) = lfo_bytes (lfo_first id)
bytes_of (LfoUnipolar id) = lfo_bytes (lfo_first id)
bytes_of (Fade id) = fade_byte id ∷ []
bytes_of LowPass = resonance_byte ∷ pole_byte ∷ []
bytes_of HighPass = []
bytes_of (Oscillator First) = source_byte ∷ pulse_byte ∷ saw_byte ∷ depth_byte ∷ []
bytes_of (Oscillator Second) = oscillator_two_byte ∷ []
bytes_of Noise = noise_byte ∷ []

-- Two readings agree in each byte of a list.
unfoldable pub Agree : List ℕ → (ℕ → ℕ) → (ℕ → ℕ) → Type 0
Agree [] a b = Unit
Agree (n ∷ ns) a b = (a n ≡ b n) × Agree ns a b
