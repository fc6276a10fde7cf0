-- THE FLOOR OF ONE F32, WORKED AS ON PAPER: docs/SPECIFICATION.md, "The floor on paper".
-- The text of a bit pattern b, by the case of its exponent. Definitions only.
use Rattle.std.specs.Prelude.{cond, List, ◌++◌, ℕ, ◌-◌, ltb, ℤ, pos, negsuc}
use Rattle.std.specs.Float.{binary32}
use Rattle.std.specs.Float.Ieee.{to_bits}
use Rattle.exact.specs.Fraction.{floorℚ}
use Rattle.exact.specs.Value.{value}
use Rattle.exact.specs.Binary32.{bits}
use Rattle.floor.specs.Formula.{floor_of}
use Rattle.floor.specs.Exponent.{exponent, set, cleared}
use Rattle.text.specs.Text.{ascii}
use Rattle.bit_fields.specs.Pattern.{pattern_text}
use Rattle.floor_number.specs.Number.{whole_text}
use Rattle.floor_reasons.specs.Reasons.{small_reason, cleared_reason, step_reason}

-- A pattern on a line, behind what it is.
unfoldable pub line_of : List ℕ → ℕ → List ℕ
line_of name b = name ++ pattern_text b ++ ascii "\n"

-- The exponent, and what follows from it.
unfoldable pub head_of : ℕ → List ℕ → List ℕ
head_of b follows = ascii "exponent " ++ whole_text (exponent b) ++ follows

-- The floor: its pattern, and the whole number that it is.
unfoldable pub floor_line : ℕ → List ℕ
floor_line b =
    ascii "floor    " ++ pattern_text (to_bits binary32 (floor_of (bits b)))
    ++ ascii "  " ++ whole_text (floorℚ (value (bits b))) ++ ascii "\n"

-- ---- an exponent below 0
unfoldable pub small_text : ℕ → List ℕ
small_text b = head_of b (ascii ", below 0: ") ++ small_reason b ++ floor_line b

-- ---- an exponent from 0 to 22, where k bits of the fraction stand below the point
unfoldable pub cut_text : ℕ → ℕ → List ℕ
cut_text k b =
    head_of b (ascii ", from 0 to 22: ") ++ cleared_reason k
    ++ line_of (ascii "cleared  ") (cleared k b) ++ step_reason (set k b) b ++ floor_line b

-- ---- an exponent of 23 or more: the pattern itself, an infinity's and a NaN's too
unfoldable pub large_text : ℕ → List ℕ
large_text b = head_of b (ascii ", 23 or more: x itself\n") ++ line_of (ascii "floor    ") b

-- ---- the whole
abbrev pub case_text : ℤ → ℕ → List ℕ
case_text (negsuc n) b = small_text b
case_text (pos e) b = cond (ltb e 23) (cut_text (23 - e) b) (large_text b)

unfoldable pub working_text : ℕ → List ℕ
working_text b = line_of (ascii "x        ") b ++ case_text (exponent b) b
