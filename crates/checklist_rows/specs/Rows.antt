-- FOUR ROWS OF THE CHECKLIST: docs/SPECIFICATION.md, "The checklist". Definitions only.
use Rattle.std.specs.Prelude.{◌≡◌, ◌<◌, ◌++◌, ℕ}
use Rattle.trials.specs.declared.Trial.{Trial}
use Rattle.trials.specs.declared.Row.{Row}
use Rattle.trials.specs.Trials.{row_of, numbered}
use Rattle.edge_trials.specs.Edges.{known_trial, beyond_trial}
use Rattle.shape_trials.specs.Shapes.{unnamed_trial, named_trial}
use Rattle.slew_trials.specs.Slew.{slew_trial}
use Rattle.checklist_rows.specs.Empty.{empty_trial}

-- What may be given at each number below a count is what f says.
abbrev pub GivesBelow : (ℕ → Trial → Type 0) → (ℕ → Trial) → ℕ → Type 0
GivesBelow gives f count = (n : ℕ) (t : Trial) → n < count → gives n t → t ≡ f n

-- 14 codes at 1,025 samples.
unfoldable pub empty_row : Row
empty_row = row_of (numbered empty_trial 14350)

-- The bytes 7 to 255, then the pairs of seven shapes.
unfoldable pub shapes_row : Row
shapes_row = row_of (numbered unnamed_trial 249 ++ numbered named_trial 49)

-- 20 entries for 14 codes at both sides, then 14 codes with two patterns at eight positions.
unfoldable pub edges_row : Row
edges_row = row_of (numbered known_trial 560 ++ numbered beyond_trial 224)

-- Seven shapes at two slews and 65 positions.
unfoldable pub slew_row : Row
slew_row = row_of (numbered slew_trial 910)
