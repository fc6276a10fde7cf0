-- A CURVE BYTE FOR A WANTED END, AS TEXT: docs/SPECIFICATION.md, "A curve byte as text". Definitions only.
use Rattle.std.specs.Prelude.{List, ◌++◌, ℕ, Option, None, Some, Result, Ok, Err}
use Rattle.refusals.specs.declared.Refusal.{Refusal}
use Rattle.refusals.specs.Refusals.{refusal_number}
use Rattle.envelope_settings.specs.Formula.{sustain_end_of}
use Rattle.curve_finder.specs.declared.Search.{Search}
use Rattle.text.specs.Text.{ascii}
use Rattle.numerals.specs.Spelled.{decimal_of}
use Rattle.nine_places.specs.Places.{nine_places}

-- A number on a line, behind what it is.
unfoldable pub number_line : List ℕ → ℕ → List ℕ
number_line name n = name ++ decimal_of n ++ ascii "\n"

-- How many bytes were tried.
abbrev pub tried_line : ℕ → List ℕ
tried_line = number_line (ascii "tried      ")

-- The byte c, the end that it gives in nine places, and how many were tried.
unfoldable pub found_text : ℕ → ℕ → ℕ → List ℕ
found_text s c n = number_line (ascii "curve byte ") c ++ ascii "ends at    " ++ nine_places (sustain_end_of s c) ++ ascii "\n" ++ tried_line n

-- There is none, and how many were tried.
unfoldable pub none_text : ℕ → List ℕ
none_text n = ascii "curve byte none: no end lies within 1/512 of the level\n" ++ tried_line n

-- What a search came to: a byte, or none, after n were tried.
abbrev pub found_or_none : ℕ → Option ℕ → ℕ → List ℕ
found_or_none s (Some c) n = found_text s c n
found_or_none s None n = none_text n

abbrev pub search_text : ℕ → Search → List ℕ
search_text s search = found_or_none s search.byte search.tried

-- The answer for sustain byte s.
unfoldable pub curve_text : ℕ → Result Search Refusal → List ℕ
curve_text s (Ok search) = search_text s search
curve_text s (Err why) = number_line (ascii "refused ") (refusal_number why)
