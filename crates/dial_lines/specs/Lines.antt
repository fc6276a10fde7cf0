-- A LINE THAT SAYS WHAT TO DIAL IN: docs/SPECIFICATION.md, "The page". It has a dial's name, its byte in decimal, and a note. `b` is the byte, and `was` what it was in the older program;
-- where there is no older program the two are the same byte. Definitions only.
use Rattle.std.specs.Prelude.{List, ◌++◌, ℕ}
use Rattle.text.specs.Text.{ascii}
use Rattle.numerals.specs.Spelled.{decimal_of}
use Rattle.dial_start.specs.Start.{was_text, dial_start, dial_end}

-- How far below the frame the four lines are, in hundredths of a millimetre.
abbrev pub line_one : ℕ
line_one = 1300

abbrev pub line_two : ℕ
line_two = 1620

abbrev pub line_three : ℕ
line_three = 1940

abbrev pub line_four : ℕ
line_four = 2260

-- A line with a note.
unfoldable pub dial_text : ℕ → List ℕ → ℕ → ℕ → List ℕ → List ℕ
dial_text y name was b note = dial_start y name was b ++ note ++ dial_end

-- A line without one.
unfoldable pub plain_dial : ℕ → List ℕ → ℕ → ℕ → List ℕ
plain_dial y name was b = dial_start y name was b ++ dial_end

-- The note of an envelope's time or level is its curve. The curve's byte is to be dialled in too, so it is bold, and
-- says what it was.
unfoldable pub curve_note : ℕ → ℕ → List ℕ
curve_note was curve = ascii "curve <tspan class='b'>" ++ decimal_of curve ++ ascii "</tspan>" ++ was_text was curve

abbrev pub curved_dial : ℕ → List ℕ → ℕ → ℕ → ℕ → ℕ → List ℕ
curved_dial y name was b curveWas curve = dial_text y name was b (curve_note curveWas curve)

-- The only dial of a generator.
abbrev pub only_dial : List ℕ → ℕ → ℕ → List ℕ
only_dial name was b = plain_dial line_one name was b
