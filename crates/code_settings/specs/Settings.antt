-- THE SETTINGS OF A CODE: docs/SPECIFICATION.md, "The block and its codes". A reading gives the byte of each number. Definitions only.
use Rattle.std.specs.Prelude.{Bool, ℕ, ◌+◌}
use Rattle.settings.specs.declared.Envelope.{Envelope}
use Rattle.settings.specs.declared.Lfo.{Lfo}
use Rattle.settings.specs.declared.Oscillator.{Oscillator}
use Rattle.settings.specs.Settings.{lfo_of, oscillator_one_of, oscillator_two_of}
use Rattle.envelope_settings.specs.Formula.{envelope_of}
use Rattle.codes.specs.declared.OscillatorId.{OscillatorId}
use Rattle.codes.specs.declared.OscillatorId.TheVariants.{One, Two}
use Rattle.code_bytes.specs.Bytes.{source_byte, pulse_byte, saw_byte, depth_byte, oscillator_two_byte}
use Rattle.code_bytes.specs.Bytes.{shape_place, key_sync_place, slew_place, decay_place, sustain_place, release_place, attack_curve_place, decay_curve_place, sustain_curve_place, release_curve_place}

-- The envelope of the bytes from n on: four times and levels, then their four curves.
unfoldable pub envelope_at : (ℕ → ℕ) → ℕ → Envelope
envelope_at b n =
    envelope_of (b n) (b (n + decay_place)) (b (n + sustain_place)) (b (n + release_place)) (b (n + attack_curve_place)) (b (n + decay_curve_place)) (b (n + sustain_curve_place)) (b (n + release_curve_place))

-- The LFO of the bytes from n on: its shape, its slew, its key sync.
unfoldable pub lfo_at : (ℕ → ℕ) → ℕ → Bool → Lfo
lfo_at b n unipolar = lfo_of (b (n + shape_place)) (b (n + slew_place)) (b (n + key_sync_place)) unipolar

unfoldable pub oscillator_at : (ℕ → ℕ) → OscillatorId → Oscillator
oscillator_at b One = oscillator_one_of (b source_byte) (b pulse_byte) (b saw_byte) (b depth_byte)
oscillator_at b Two = oscillator_two_of (b oscillator_two_byte)
