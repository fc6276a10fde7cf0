-- THE DIALS OF THE LOW-PASS FILTER AND OF OSCILLATOR 1, from a reading of the bytes: docs/SPECIFICATION.md, "The page".
-- a reads the older program, which is the same one where there is none, and b the program. Definitions only.
use Rattle.std.specs.Prelude.{List, ◌++◌, ℕ}
use Rattle.text.specs.Text.{ascii}
use Rattle.code_bytes.specs.Bytes.{source_byte, pulse_byte, saw_byte, depth_byte, resonance_byte, pole_byte}
use Rattle.dial_lines.specs.Lines.{line_one, line_two, plain_dial}
use Rattle.dial_words.specs.Words.{switch_dial, poles_dial, source_dial, depth_dial}

unfoldable pub low_pass_dials : (ℕ → ℕ) → (ℕ → ℕ) → List ℕ
low_pass_dials a b = plain_dial line_one (ascii "Resonance") (a resonance_byte) (b resonance_byte) ++ poles_dial (a pole_byte) (b pole_byte)

unfoldable pub oscillator_dials : (ℕ → ℕ) → (ℕ → ℕ) → List ℕ
oscillator_dials a b =
    switch_dial line_one (ascii "Saw") (a saw_byte) (b saw_byte) ++ switch_dial line_two (ascii "Pulse") (a pulse_byte) (b pulse_byte) ++
    source_dial (a source_byte) (b source_byte) ++ depth_dial (a depth_byte) (b depth_byte) (b source_byte)
