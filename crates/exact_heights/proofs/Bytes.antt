-- ONE BYTE MORE OF THE LIST: what is noted so far, with the trials of the lines that are left, stays the row of the whole list. Assumes nothing.
use mathlib.Core.Path.{◌≡◌, refl, sym, ap, ◌∙◌}
use mathlib.Core.Bool.{Bool, true, false, cond}
use mathlib.Core.List.{List, [], ◌∷◌}
use Prim.Native.Nat.{ℕ, suc, ◌+◌, ◌≤◌, ◌<◌}
use native.Mathlib.Numerals.{add-one}
use lib.Dec.{eqb}
use lib.ListN.{length, drop, get_or, drop_of_length-le}
use lib.Seq.{drop-cons}
use Rattle.trials.specs.declared.Row.{Row}
use Rattle.trials.specs.Trials.{row_of}
use Rattle.trials.specs.Noted.{noted_of, noted_all}
use Rattle.trials.proofs.Rows.{noted_all_lem}
use Rattle.number_lines.specs.declared.Line.{Line}
use Rattle.number_lines.specs.Lines.{no_line, read_one, line_ended, lines_from}
use Rattle.exact_trials.specs.LineTrials.{line_trial}
use Rattle.exact_heights.specs.declared.Reading.{Reading}
use Rattle.exact_heights.specs.Exact.{trials_of, exact_row, stepped}

-- What the row comes to, with the bytes that are left.
unfoldable pub row_after : Reading → List ℕ → Row
row_after s bytes = noted_all s.row (trials_of (lines_from s.line bytes))

pub none_read : (list : List ℕ) {row : Row} {line : Line} → row ≡ row_of [] → line ≡ no_line → row_after (record { row = row; line = line }) list ≡ exact_row list
unfolding row_after exact_row
none_read list e f = simp (e, f) (noted_all_lem [] (trials_of (lines_from no_line list)))

-- A byte ends the line, or it does not.
by_end : (end : Bool) (row : Row) (line next : Line) (bytes : List ℕ) →
    row_after (cond end (record { row = noted_of row (line_trial (line_ended line)); line = no_line }) (record { row = row; line = next })) bytes ≡ noted_all row (trials_of (cond end (line_ended line ∷ lines_from no_line bytes) (lines_from next bytes)))
unfolding row_after trials_of noted_all
by_end true row line next bytes = refl
by_end false row line next bytes = refl

one_byte : (s : Reading) (b : ℕ) (bytes : List ℕ) → row_after (stepped s b) bytes ≡ row_after s (b ∷ bytes)
unfolding stepped lines_from row_after
one_byte s b bytes = by_end (eqb b 10) s.row s.line (read_one s.line b) bytes

pub one_read : (list : List ℕ) (i : ℕ) (s : Reading) {next : Reading} {row : Row} → i < length list → row_after s (drop i list) ≡ row → next ≡ stepped s (get_or list i 0) → row_after next (drop (i + 1) list) ≡ row
one_read list i s h e f = ap (λ (r : Reading). row_after r (drop (i + 1) list)) f ∙ (rw (add-one i) (one_byte s (get_or list i 0) (drop (suc i) list)) ∙ (ap (row_after s) (sym (drop-cons list i 0 h)) ∙ e))

pub all_read : (list : List ℕ) (i : ℕ) (s : Reading) {row : Row} → length list ≤ i → row_after s (drop i list) ≡ row → noted_of s.row (line_trial (line_ended s.line)) ≡ row
unfolding row_after lines_from trials_of noted_all
all_read list i s h e = rw (drop_of_length-le list h) at e
