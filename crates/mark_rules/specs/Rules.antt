-- A MARK ON A PANEL: docs/SPECIFICATION.md, "The page". The origin is the lower left corner of the frame, a unit is
-- 1/100 mm, and y grows downward. Definitions only.
use Rattle.std.specs.Prelude.{List, ◌++◌, ℕ, ◌+◌, ◌*◌}
use Rattle.text.specs.Text.{ascii}
use Rattle.numerals.specs.Spelled.{decimal_of}
use Rattle.words.specs.Words.{word_of}
use Rattle.marks.specs.declared.MarkKind.{MarkKind}
use Rattle.marks.specs.declared.Mark.{Mark}
use Rattle.marks.specs.Marks.{kind_number}
use Rattle.panel_frame.specs.Frame.{across_units}

-- What is at a mark, by its kind's number: the letter of a segment that starts, to the right of its rule, or a word
-- below the rule.
abbrev pub kind_text : MarkKind → List ℕ
kind_text kind = word_of (ascii " dx='50'>A</text>| dx='50'>D</text>| dx='50'>S</text>| dx='50'>R</text>| class='m'>corner</text>| class='m'>cycle</text>| class='m'>tap</text>| class='m'>width</text>| class='m'>sweep</text>") (kind_number kind)

-- A rule through the frame, down to its row.
unfoldable pub rule_text : ℕ → ℕ → List ℕ
rule_text row across = ascii "<path class='v' d='M" ++ decimal_of across ++ ascii "-2500V" ++ decimal_of (40 + 230 * row) ++ ascii "'/>"

-- What is at it.
unfoldable pub label_text : ℕ → ℕ → MarkKind → List ℕ
label_text row across kind = ascii "<text x='" ++ decimal_of across ++ ascii "' y='" ++ decimal_of (220 + 230 * row) ++ ascii "'" ++ kind_text kind

-- A mark past an edge is drawn at the edge.
unfoldable pub mark_text : ℕ → Mark → List ℕ
mark_text row m = rule_text row (across_units m.at) ++ label_text row (across_units m.at) m.kind
