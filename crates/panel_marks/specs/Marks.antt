-- THE MARKS ON A PANEL: docs/SPECIFICATION.md, "The page". Definitions only.
use Rattle.std.specs.Prelude.{List, [], ◌++◌, cond, ℕ, zero, suc, min, ◌+◌, ◌%◌, leb}
use Rattle.marks.specs.declared.MarkKind.{MarkKind}
use Rattle.marks.specs.declared.MarkKind.TheVariants.{Segment as ASegment, Corner, Cycle, Tap, Width, Sweep}
use Rattle.marks.specs.declared.Marks.{Marks}
use Rattle.marks.specs.Marks.{max_marks, mark_at}
use Rattle.mark_rules.specs.Rules.{mark_text}

-- The row of a cycle that is mark number k: of up to six marks the fourth, which they share, and of more the third and
-- the fourth in turn, so that eight words stand apart.
unfoldable pub cycle_row : ℕ → ℕ → ℕ
cycle_row count k = cond (leb count 6) 3 (2 + k % 2)

-- The row of mark number k, of so many, under the frame: a row for each mark, so that two at one place are both read;
-- cycles share theirs.
abbrev pub row_of : ℕ → ℕ → MarkKind → ℕ
row_of count k (ASegment s) = k
row_of count k Corner = k
row_of count k Cycle = cycle_row count k
row_of count k Tap = k
row_of count k Width = k
row_of count k Sweep = k

-- The first k marks.
unfoldable pub rules_text : Marks → ℕ → List ℕ
rules_text m zero = []
rules_text m (suc k) = rules_text m k ++ mark_text (row_of m.count k (mark_at m k).kind) (mark_at m k)

-- All that are used.
unfoldable pub marks_text : Marks → List ℕ
marks_text m = rules_text m (min m.count max_marks)
