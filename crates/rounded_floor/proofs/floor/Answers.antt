-- `floor` is `floor_of`. Assumes nothing.
use mathlib.Core.Path.{◌≡◌, refl, sym, subst}
use mathlib.Core.Bool.{true}
use lib.Dec.{T}
use lib.Ieee.{Float, binary32, fits}
use Rattle.rounded_floor.proofs.ByRounding.{around}
use Rattle.rounded_floor.proofs.floor.Goals as goal

-- the format holds an `f32`
held : (x : Float) → fits binary32 x ≡ true → T (fits binary32 x)
held x h = subst T (sym h) tt

pub returns-then-x-2 : goal.returns-then-x-2
returns-then-x-2 c = simp c.step_down.ensures (around _ (held _ c.well_formed.0.1) c.if-x.true c.if-x-2.true _ refl)
