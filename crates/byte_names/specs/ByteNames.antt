-- THE NAMES OF BYTES: docs/SPECIFICATION.md, "What differs". Definitions only.
use Rattle.std.specs.Prelude.{cond, List, [], ◌∷◌, ℕ, ◌-◌, ◌%◌, ltb}
use Rattle.text.specs.Text.{ascii}
use Rattle.words.specs.Words.{word_of, index_of}
use Rattle.code_bytes.specs.Bytes.{source_byte, pulse_byte, saw_byte, depth_byte, resonance_byte, pole_byte, gates_byte, lfo_span, lfos_end, envelopes_from, envelope_span, envelopes_end}

-- Of an LFO's, by their place from the LFO's first. No curve reads its rate.
abbrev pub lfo_name : ℕ → List ℕ
lfo_name k = word_of (ascii "rate|fade time|shape|key sync|slew rate") k

-- Of an envelope's, by their place from the envelope's first. No curve reads its trigger mode.
abbrev pub envelope_name : ℕ → List ℕ
envelope_name k = word_of (ascii "attack|decay|sustain|release|trigger mode|attack curve|decay curve|sustain curve|release curve") k

-- Of all others. A level is oscillator 2's or the noise's.
abbrev pub other_name : ℕ → List ℕ
other_name n = word_of (ascii "PWM source|pulse|saw|PWM depth|resonance|poles|gate time|level") (index_of (source_byte ∷ pulse_byte ∷ saw_byte ∷ depth_byte ∷ resonance_byte ∷ pole_byte ∷ gates_byte ∷ []) n)

-- The bytes of the LFOs follow each other from byte 0 on, those of the envelopes from their first on.
unfoldable pub byte_name : ℕ → List ℕ
byte_name n =
    cond (ltb n lfos_end) (lfo_name (n % lfo_span))
    (cond (ltb n envelopes_from) (other_name n) (cond (ltb n envelopes_end) (envelope_name ((n - envelopes_from) % envelope_span)) (other_name n)))
