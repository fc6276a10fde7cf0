-- THE DIALS OF THE ENVELOPES AND LFOS, from a reading of the bytes: docs/SPECIFICATION.md, "The page". a reads the
-- older program, which is the same one where there is none, and b the program. Definitions only.
use Rattle.std.specs.Prelude.{List, ◌++◌, ℕ, ◌+◌}
use Rattle.text.specs.Text.{ascii}
use Rattle.code_bytes.specs.Bytes.{shape_place, key_sync_place, slew_place, decay_place, sustain_place, release_place}
use Rattle.code_bytes.specs.Bytes.{attack_curve_place, decay_curve_place, sustain_curve_place, release_curve_place}
use Rattle.dial_lines.specs.Lines.{line_one, line_two, line_three, line_four, plain_dial, curved_dial}
use Rattle.dial_words.specs.Words.{switch_dial, shape_dial}

-- An envelope's from byte n on. Each time and level has its curve beside it.
unfoldable pub envelope_dials : (ℕ → ℕ) → (ℕ → ℕ) → ℕ → List ℕ
envelope_dials a b n =
    curved_dial line_one (ascii "Attack") (a n) (b n) (a (n + attack_curve_place)) (b (n + attack_curve_place)) ++
    curved_dial line_two (ascii "Decay") (a (n + decay_place)) (b (n + decay_place)) (a (n + decay_curve_place)) (b (n + decay_curve_place)) ++
    curved_dial line_three (ascii "Sustain") (a (n + sustain_place)) (b (n + sustain_place)) (a (n + sustain_curve_place)) (b (n + sustain_curve_place)) ++
    curved_dial line_four (ascii "Release") (a (n + release_place)) (b (n + release_place)) (a (n + release_curve_place)) (b (n + release_curve_place))

-- An LFO's from byte n on.
unfoldable pub lfo_dials : (ℕ → ℕ) → (ℕ → ℕ) → ℕ → List ℕ
lfo_dials a b n =
    shape_dial (a (n + shape_place)) (b (n + shape_place)) ++ plain_dial line_two (ascii "Slew rate") (a (n + slew_place)) (b (n + slew_place)) ++
    switch_dial line_three (ascii "Key sync") (a (n + key_sync_place)) (b (n + key_sync_place))

-- The bytes of an LFO that no curve draws, from byte n on: its rate, arp sync and mono mode. They stand below the LFO's
-- second panel.
abbrev pub arp_sync_place : ℕ
arp_sync_place = 4

abbrev pub mono_mode_place : ℕ
mono_mode_place = 5

unfoldable pub lfo_other_dials : (ℕ → ℕ) → (ℕ → ℕ) → ℕ → List ℕ
lfo_other_dials a b n =
    plain_dial line_one (ascii "Rate") (a n) (b n) ++ switch_dial line_two (ascii "Arp sync") (a (n + arp_sync_place)) (b (n + arp_sync_place)) ++
    plain_dial line_three (ascii "Mono mode") (a (n + mono_mode_place)) (b (n + mono_mode_place))
