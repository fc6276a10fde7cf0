-- `far_floor` is `floor_of`. Assumes nothing.
use mathlib.Core.Path.{◌≡◌, refl, sym, subst}
use mathlib.Core.Bool.{true}
use lib.Dec.{T}
use lib.Ieee.{Float, binary32, fits}
use Rattle.rounded_floor.proofs.ByRounding.{high, low, within}
use Rattle.rounded_floor.proofs.far_floor.Goals as goal

-- the format holds an `f32`
held : (x : Float) → fits binary32 x ≡ true → T (fits binary32 x)
held x h = subst T (sym h) tt

pub returns-then-not-x : goal.returns-then-not-x
returns-then-not-x c = high _ (held _ c.well_formed.0.1) c.if-not-x.true

pub returns-then-not-x-2 : goal.returns-then-not-x-2
returns-then-not-x-2 c = low _ (held _ c.well_formed.0.1) c.if-not-x-2.true

pub returns : goal.returns
returns c = simp (c.step_down.ensures, c.nearby-whole.ensures) (within _ (held _ c.well_formed.0.1) c.if-not-x.false c.if-not-x-2.false _ refl)
