-- `exp2` is `exp2_of`. Assumes nothing.
use mathlib.Core.Path.{◌≡◌, refl, sym, ap, ◌∙◌, subst}
use mathlib.Core.Bool.{false}
use lib.Dec.{T}
use lib.Ieee.{Float, nan, ne, is_nan, of_bits, neg, add, sub, mul}
use lib.Ieee.Compare.{differs_from_itself}
use Rattle.exact.specs.Binary32.{◌⊗◌}
use Rattle.series.specs.Horner.{horner}
use Rattle.math.specs.Formulas.{clamp_of}
use Rattle.floor.specs.Formula.{floor_of, fract_of}
use Rattle.exp2.specs.Formula.{exp2_coefficients, exp2_scale, exp2_within, exp2_of}
use Rattle.math.proofs.Nan.{is_nan_tested}
use Rattle.exp2.proofs.Scale.{Scales, least, most, clamped}
use Rattle.exp2.proofs.exp2.Goals as goal

-- a NaN gives a NaN
at_nan : exp2_within nan ≡ nan
unfolding exp2_within horner exp2_coefficients fract_of floor_of exp2_scale sub add mul neg of_bits
at_nan = refl

nan_case : (x c : Float) → c ≡ clamp_of least most x → c ≡ nan → c ≡ exp2_of x
unfolding exp2_of
nan_case x c e n = n ∙ sym at_nan ∙ ap exp2_within (sym n ∙ e)

-- its floor stands for its scale
whole : (x c w : Float) → c ≡ clamp_of least most x → ne c c ≡ false → w ≡ floor_of c → Scales w (exp2_scale c)
whole x c w e n f =
    let m = is_nan_tested false _ n in
    subst (λ (v : Float). Scales v (exp2_scale c)) (sym f)
    (subst (λ (v : Float). Scales (floor_of v) (exp2_scale v)) (sym e) (clamped _ (subst (λ (v : Float). is_nan v ≡ false) e m)))

pub returns-then-c : goal.returns-then-c
unfolding neg of_bits
returns-then-c c = nan_case _ _ c.clamp-c.ensures (differs_from_itself _ (subst T (sym c.if-c.true) tt))

pub float_to_int-field : goal.float_to_int-field
unfolding neg of_bits
float_to_int-field c = (whole _ _ _ c.clamp-c.ensures c.if-c.false c.floor-whole.ensures).whole

pub overflow_add-field : goal.overflow_add-field
unfolding neg of_bits
overflow_add-field c = (whole _ _ _ c.clamp-c.ensures c.if-c.false c.floor-whole.ensures).scaled.added

pub overflow_cast-field : goal.overflow_cast-field
unfolding neg of_bits
overflow_cast-field c = ((whole _ _ _ c.clamp-c.ensures c.if-c.false c.floor-whole.ensures).scaled.above, (whole _ _ _ c.clamp-c.ensures c.if-c.false c.floor-whole.ensures).scaled.narrow)

pub overflow_mul-result : goal.overflow_mul-result
unfolding neg of_bits
overflow_mul-result c = (whole _ _ _ c.clamp-c.ensures c.if-c.false c.floor-whole.ensures).scaled.shifted

pub float_from_bits-result : goal.float_from_bits-result
unfolding neg of_bits
float_from_bits-result c = (whole _ _ _ c.clamp-c.ensures c.if-c.false c.floor-whole.ensures).scaled.number

pub returns : goal.returns
unfolding exp2_of exp2_within fract_of neg of_bits
returns c =
    ap (λ (y : Float). c.polynomial.result ⊗ y) (whole _ _ _ c.clamp-c.ensures c.if-c.false c.floor-whole.ensures).scaled.is
    ∙ simp (c.polynomial.ensures, c.floor-whole.ensures, c.clamp-c.ensures)
