-- WHAT A BYTE STANDS FOR, IN WORDS: docs/SPECIFICATION.md, "The page". Byte 0 is the first word, and a byte past the last word is the last, which says what such a byte is read as. Definitions only.
use Rattle.std.specs.Prelude.{List, ℕ}
use Rattle.text.specs.Text.{ascii}
use Rattle.words.specs.Words.{word_of}

-- A switch is off at 0 only.
abbrev pub switch_note : ℕ → List ℕ
switch_note b = word_of (ascii "off|on") b

-- The shape of an LFO.
abbrev pub shape_note : ℕ → List ℕ
shape_note b = word_of (ascii "Sine|Triangle|Square|Ramp up|Ramp down|Sample and hold|Sample and glide|Sine, unnamed") b

-- The poles of the low-pass.
abbrev pub poles_note : ℕ → List ℕ
poles_note b = word_of (ascii "4 poles|2 poles|4 poles, unnamed") b

-- What moves the pulse's width.
abbrev pub source_note : ℕ → List ℕ
source_note b = word_of (ascii "Manual|LFO 1|LFO 2|VCA envelope|VCF envelope|Mod envelope|Manual, unnamed") b

-- What the PWM depth sets, by the byte of its source: the width where that is Manual, else how far the width is swept.
abbrev pub depth_note : ℕ → List ℕ
depth_note b = word_of (ascii "width|sweep|sweep|sweep|sweep|sweep|width") b
