-- MARKS IN TWO LENT ARRAYS: docs/SPECIFICATION.md, "The C interface". Definitions only.
use Rattle.std.specs.Prelude.{◌≡◌, List, ℕ, min, Float, Result, Ok, Err}
use Rattle.lists.specs.Written.{written}
use Rattle.marks.specs.declared.Marks.{Marks}
use Rattle.marks.specs.Marks.{kind_number, max_marks, mark_at, no_marks}
use Rattle.refusals.specs.declared.Refusal.{Refusal}
use Rattle.refusals.specs.Refusals.{answer_refusal}
use Rattle.c_results.specs.declared.CountResult.{CountResult}

-- The position of mark i, and its kind's number.
abbrev pub mark_position : Marks → ℕ → Float
mark_position marks i = (mark_at marks i).at

abbrev pub mark_kind : Marks → ℕ → ℕ
mark_kind marks i = kind_number (mark_at marks i).kind

-- How many there are: never more than there are places.
abbrev pub marks_used : Marks → ℕ
marks_used marks = min marks.count max_marks

-- Beside a refusal there are none.
unfoldable pub marks_given : Result Marks Refusal → Marks
marks_given (Ok marks) = marks
marks_given (Err why) = no_marks

-- The marks of an answer, in two lent arrays: their positions and the numbers of their kinds stand first, and what is behind them is as it was.
pub record MarksNumbers (found : Result Marks Refusal) (at₀ at₁ : List Float) (kind₀ kind₁ : List ℕ) (r : CountResult) : Type 0 where
  pub result : r ≡ record { refusal = answer_refusal found; count = marks_used (marks_given found) }
  pub at : at₁ ≡ written (mark_position (marks_given found)) (marks_used (marks_given found)) at₀
  pub kind : kind₁ ≡ written (mark_kind (marks_given found)) (marks_used (marks_given found)) kind₀
