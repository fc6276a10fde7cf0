-- THE TRIAL OF A LINE OF THE LIST OF EXACT HEIGHTS: docs/SPECIFICATION.md, "The checklist". Definitions only.
use Rattle.std.specs.Prelude.{Bool, false, cond, is_none, ℕ, ◌%◌, ◌^◌, min, eqb, get_or}
use Rattle.fixed_point.specs.Between.{within_of}
use Rattle.trials.specs.declared.Input.{Input}
use Rattle.trials.specs.declared.Trial.{Trial}
use Rattle.trials.specs.Trials.{nothing}
use Rattle.inputs.specs.Inputs.{input_height}
use Rattle.number_lines.specs.declared.Line.{Line}
use Rattle.number_lines.specs.Lines.{is_blank}

-- Number k of a line.
abbrev pub number_at : Line → ℕ → ℕ
number_at l k = get_or l.numbers k 0

-- The input of a line: a code, which has 32 bits at most, its bytes, and a position's bits.
unfoldable pub line_input : Line → Input
line_input l = record { code = min (number_at l 0) 4294967295; bytes = number_at l 1; position = number_at l 2 % 2 ^ 32 }

-- Five numbers, and nothing else.
unfoldable pub is_whole : Line → Bool
is_whole l = cond l.wrong false (cond (is_none l.letter) (eqb l.count 5) false)

-- The height lies between the line's last two numbers. A line with something else on it fails, and a blank one is not tried.
unfoldable pub line_trial : Line → Trial
line_trial l =
    cond (is_blank l) nothing
    (record { right = cond (is_whole l) (within_of (input_height (line_input l)).height (number_at l 3) (number_at l 4)) false; values = 1; input = line_input l })
