-- A POSITION is a number from 0 to 1, whatever the f32: `unit_level` of every x that is no NaN. Assumes nothing.
use mathlib.Core.Bool.{Bool, true, false, not, cond}
use lib.Dec.{T}
use lib.Ieee.{Float, nan, inf, fin, binary32, of_bits, fits, is_nan, lt, le, eq}
use lib.Ieee.Scale.{finite}
use Rattle.exact.specs.Binary32.{zero₃₂, one₃₂}
use Rattle.exact.proofs.Order.{le_value, nlt_at_most}
use Rattle.math.specs.Formulas.{clamp_of}
use Rattle.curve.specs.Curve.{clamp_unit_of, position_of}

-- a float of binary32 that is a number from 0 to 1
pub record Level (x : Float) : Type 0 where
  pub holds : T (fits binary32 x)
  pub from : T (le zero₃₂ x)
  pub to : T (le x one₃₂)

zero_level : Level zero₃₂
unfolding fits le lt eq of_bits
zero_level = record { holds = tt; from = tt; to = tt }

one_level : Level one₃₂
unfolding fits le lt eq of_bits
one_level = record { holds = tt; from = tt; to = tt }

-- what is neither below 0 nor above 1, and no NaN, lies from 0 to 1
inside : (x : Float) → T (fits binary32 x) → T (not (is_nan x)) → T (not (lt x zero₃₂)) → T (not (lt one₃₂ x)) → Level x
unfolding is_nan lt of_bits
inside nan f n a b = absurd n
inside (inf true) f n a b = absurd a
inside (inf false) f n a b = absurd b
inside (fin s m e) f n a b =
    record {
      holds = f;
      from = (le_value zero₃₂ (fin s m e) tt tt).1 (nlt_at_most (fin s m e) zero₃₂ tt tt a).le;
      to = (le_value (fin s m e) one₃₂ tt tt).1 (nlt_at_most one₃₂ (fin s m e) tt tt b).le;
    }

pub unit_level : (x : Float) → T (fits binary32 x) → T (not (is_nan x)) → Level (clamp_unit_of x)
unfolding clamp_of
unit_level x f n = go (lt x zero₃₂) (lt one₃₂ x) (λ a b. inside x f n a b)
  where
    go : (a b : Bool) → (T (not a) → T (not b) → Level x) → Level (cond a zero₃₂ (cond b one₃₂ x))
    go true b k = zero_level
    go false true k = one_level
    go false false k = k tt tt

pub position_level : (t : Float) → T (fits binary32 t) → Level (position_of t)
unfolding position_of
position_level t f = go (is_nan t) (unit_level t f)
  where
    go : (b : Bool) → (T (not b) → Level (clamp_unit_of t)) → Level (cond b zero₃₂ (clamp_unit_of t))
    go true k = zero_level
    go false k = k tt

-- it is finite
pub level_finite : (x : Float) → Level x → T (finite x)
unfolding le lt eq of_bits
level_finite nan h = absurd h.from
level_finite (inf true) h = absurd h.from
level_finite (inf false) h = absurd h.to
level_finite (fin s m e) h = tt
