-- THE LIST OF EXACT HEIGHTS: docs/SPECIFICATION.md, "The checklist". Definitions only.
use Rattle.std.specs.Prelude.{cond, List, [], ◌∷◌, ℕ, eqb}
use Rattle.trials.specs.declared.Trial.{Trial}
use Rattle.trials.specs.declared.Row.{Row}
use Rattle.trials.specs.Trials.{row_of}
use Rattle.trials.specs.Noted.{noted_of}
use Rattle.number_lines.specs.declared.Line.{Line}
use Rattle.number_lines.specs.Lines.{no_line, read_one, line_ended, lines_of}
use Rattle.exact_trials.specs.LineTrials.{line_trial}
use Rattle.exact_heights.specs.declared.Reading.{Reading}

unfoldable pub trials_of : List Line → List Trial
trials_of [] = []
trials_of (l ∷ ls) = line_trial l ∷ trials_of ls

-- The row of a list.
unfoldable pub exact_row : List ℕ → Row
exact_row list = row_of (trials_of (lines_of list))

-- A byte more: what `step` computes.
unfoldable pub stepped : Reading → ℕ → Reading
stepped s b = cond (eqb b 10) (record { row = noted_of s.row (line_trial (line_ended s.line)); line = no_line }) (record { row = s.row; line = read_one s.line b })
