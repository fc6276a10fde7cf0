-- WHAT PASSES AS A LEVEL IS ONE, and the other way round. Assumes nothing.
use mathlib.Core.Path.{◌≡◌, sym, subst}
use mathlib.Core.Bool.{Bool, true, ◌&&◌}
use lib.Dec.{T}
use lib.Ieee.{Float, binary32, fits, le}
use lib.Ieee.Bits.{is_true}
use lib.Ieee.Fits.{and_i, and_l, and_r}
use Rattle.exact.specs.Binary32.{zero₃₂, one₃₂}
use Rattle.curve.proofs.Positions.{Level}
use Rattle.level.specs.Level.{is_level}

pub level_of_lem : (x : Float) → T (fits binary32 x) → is_level x ≡ true → Level x
unfolding is_level
level_of_lem x f e =
    let t = subst (λ (b : Bool). T b) (sym e) tt in
    record { holds = f; from = and_l (le zero₃₂ x) (le x one₃₂) t; to = and_r (le zero₃₂ x) (le x one₃₂) t }

pub level_passes : (x : Float) → Level x → is_level x ≡ true
unfolding is_level
level_passes x l = is_true (le zero₃₂ x && le x one₃₂) (and_i (le zero₃₂ x) (le x one₃₂) l.from l.to)
