-- A LINE WHOSE NOTE IS A WORD: docs/SPECIFICATION.md, "The page". `b` is the byte, and `was` what it was in the older
-- program. Definitions only.
use Rattle.std.specs.Prelude.{List, ℕ}
use Rattle.text.specs.Text.{ascii}
use Rattle.labels.specs.Notes.{switch_note, shape_note, poles_note, source_note, depth_note}
use Rattle.dial_lines.specs.Lines.{line_one, line_two, line_three, line_four, dial_text}

abbrev pub switch_dial : ℕ → List ℕ → ℕ → ℕ → List ℕ
switch_dial y name was b = dial_text y name was b (switch_note b)

abbrev pub shape_dial : ℕ → ℕ → List ℕ
shape_dial was b = dial_text line_one (ascii "Shape") was b (shape_note b)

abbrev pub poles_dial : ℕ → ℕ → List ℕ
poles_dial was b = dial_text line_two (ascii "Pole mode") was b (poles_note b)

abbrev pub source_dial : ℕ → ℕ → List ℕ
source_dial was b = dial_text line_three (ascii "PWM source") was b (source_note b)

-- The depth, whose note depends on the source.
abbrev pub depth_dial : ℕ → ℕ → ℕ → List ℕ
depth_dial was b source = dial_text line_four (ascii "PWM depth") was b (depth_note source)
