-- A WALK ON ITS WAY: docs/SPECIFICATION.md, "The curves". Definitions only.
use Rattle.std.specs.Prelude.{ℕ, ◌-◌, Float}
use Rattle.settings.specs.declared.LfoShape.{LfoShape}
use Rattle.walk.specs.declared.Walk.{Walk}
use Rattle.walk.specs.Formula.{place_of, level_after, full_from}

-- A walk after k full steps. No phase is in it, so that it serves all phases which those steps fall short of.
unfoldable pub reached_of : LfoShape → Float → ℕ → Walk
reached_of s limit k = record { full = k; place = place_of k; level = level_after s limit k }

-- The full steps of a walk that has k of them behind it and goes on to a phase; k where the next one reaches it.
unfoldable pub full_on : Float → ℕ → ℕ
full_on phase k = full_from phase (65534 - k) k
