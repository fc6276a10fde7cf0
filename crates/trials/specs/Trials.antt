-- A ROW OF TRIALS: docs/SPECIFICATION.md, "The checklist". Definitions only.
use Rattle.std.specs.Prelude.{Bool, true, false, cond, List, [], ◌∷◌, ◌++◌, ℕ, zero, suc, ◌+◌, min, ltb, eqb, length}
use Rattle.lists.specs.Padded.{padded}
use Rattle.trials.specs.declared.Input.{Input}
use Rattle.trials.specs.declared.Trial.{Trial}
use Rattle.trials.specs.declared.Row.{Row}

-- What stands where there is no input.
abbrev pub no_input : Input
no_input = record { code = 0; bytes = 0; position = 0 }

-- A trial that compares nothing.
abbrev pub nothing : Trial
nothing = record { right = true; values = 0; input = no_input }

-- How many values are compared.
unfoldable pub values_of : List Trial → ℕ
values_of [] = 0
values_of (t ∷ ts) = t.values + values_of ts

-- The input of a trial that is not right.
abbrev pub failed_by : Bool → Input → List Input
failed_by true i = []
failed_by false i = i ∷ []

-- The inputs of the trials that are not right, in their order.
unfoldable pub failing_of : List Trial → List Input
failing_of [] = []
failing_of (t ∷ ts) = failed_by t.right t.input ++ failing_of ts

-- A count in 32 bits, which stays at the largest.
abbrev pub counted : ℕ → ℕ
counted n = min n 4294967295

-- How many inputs of trials that are not right a row keeps.
abbrev pub kept : ℕ
kept = 3

-- The row of n values and of the inputs that fail: it keeps the first of those.
unfoldable pub row_by : ℕ → List Input → Row
row_by n failing = record { tried = counted n; failed = counted (length failing); inputs = padded no_input kept failing }

-- The row of some trials.
unfoldable pub row_of : List Trial → Row
row_of ts = row_by (values_of ts) (failing_of ts)

-- A row passes where no trial fails, and something was compared.
unfoldable pub passes_of : Row → Bool
passes_of row = cond (eqb row.failed 0) (ltb 0 row.tried) false

-- The first k of numbered trials.
unfoldable pub numbered : (ℕ → Trial) → ℕ → List Trial
numbered f zero = []
numbered f (suc k) = numbered f k ++ (f k ∷ [])
