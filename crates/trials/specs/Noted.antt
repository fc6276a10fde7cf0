-- ONE TRIAL MORE IN A ROW: what `note` computes. That it is the row of one trial more is `noted_more` (proofs/Rows.antt). Definitions only.
use Rattle.std.specs.Prelude.{Bool, true, false, cond, List, [], ◌∷◌, ℕ, ◌+◌, min, ltb, set}
use Rattle.trials.specs.declared.Input.{Input}
use Rattle.trials.specs.declared.Trial.{Trial}
use Rattle.trials.specs.declared.Row.{Row}
use Rattle.trials.specs.Trials.{kept}

-- A sum that stays at the largest count.
abbrev pub plus_of : ℕ → ℕ → ℕ
plus_of a b = min (a + b) 4294967295

-- An input goes to the place of the count so far, where a row has such a place.
unfoldable pub kept_with : List Input → ℕ → Input → List Input
kept_with inputs n i = cond (ltb n kept) (set inputs n i) inputs

-- Only the input of a trial that is not right is kept.
unfoldable pub noted_by : Bool → Row → ℕ → Input → Row
noted_by true row v i = record { tried = plus_of row.tried v; failed = row.failed; inputs = row.inputs }
noted_by false row v i = record { tried = plus_of row.tried v; failed = plus_of row.failed 1; inputs = kept_with row.inputs row.failed i }

unfoldable pub noted_of : Row → Trial → Row
noted_of row t = noted_by t.right row t.values t.input

-- Some trials more.
unfoldable pub noted_all : Row → List Trial → Row
noted_all row [] = row
noted_all row (t ∷ ts) = noted_all (noted_of row t) ts
