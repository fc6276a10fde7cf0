-- WHAT IS PROMISED OF TAPS FOLLOWS FROM THE EQUATION, by the theorems over every train. Assumes nothing.
use mathlib.Core.Path.{◌≡◌, refl, sym, subst}
use Prim.Native.Nat.{ℕ}
use lib.Dec.{T}
use lib.Ieee.{Float, binary32, fits}
use Rattle.curve.specs.declared.Height.{Height}
use Rattle.curve.specs.Curve.{drawn_of}
use Rattle.taps.specs.declared.Taps.{Taps}
use Rattle.taps.specs.Formula.{at_of, tall_of, taps_height_of}
use Rattle.taps.proofs.EveryTaps.{taps_level}
use Rattle.taps.proofs.TapsError.{taps_drawn}
use Rattle.taps.specs.Promises.{TapsAnswered}

steps_none : (taps : Taps) (t : Float) → (taps_height_of taps t).steps ≡ 0
unfolding taps_height_of drawn_of
steps_none taps t = refl

pub taps_answered : (taps : Taps) (t : Float) (r : Height) → ((i : ℕ) → T (fits binary32 (at_of taps i))) → ((i : ℕ) → T (fits binary32 (tall_of taps i))) → T (fits binary32 t) → r ≡ taps_height_of taps t
    → TapsAnswered taps t r
taps_answered taps t r a h f e = subst (λ (x : Height). TapsAnswered taps t x) (sym e) own
  where
    own : TapsAnswered taps t (taps_height_of taps t)
    own =
        record {
          equation = refl;
          from = (taps_level taps t).from;
          to = (taps_level taps t).to;
          steps = steps_none taps t;
          near = λ o.
              taps_drawn taps
              (record { holds = λ i l. a i; at = o.at; tall = λ i l. record { holds = h i; from = o.from i l; to = o.to i l } }) t f;
        }
