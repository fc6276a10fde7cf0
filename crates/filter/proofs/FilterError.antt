-- EVERY HEIGHT OF A FILTER IS A NUMBER FROM 0 TO 1 WITHIN 1 / 262,144 OF ITS EXACT HEIGHT. The logarithm (RollOff.antt) and the peak (Resonance.antt) are inputs of one last
-- analysis, and the clamp brings the two no further apart. Assumes nothing.
use mathlib.Core.Path.{◌≡◌, refl}
use mathlib.Core.Bool.{Bool, true, false, cond}
use lib.Dec.{T, lit<}
use lib.Ieee.{Float, binary32, of_bits, fits, lt}
use lib.Ieee.Fits.{mul-fits, div-fits}
use Rattle.exact.specs.Fraction.{Fraction, ratio}
use Rattle.exact.specs.Value.{value, Within}
use Rattle.exact.specs.Binary32.{◌⊕◌, ◌⊖◌, ◌⊗◌, zero₃₂, one₃₂}
use Rattle.rounding.proofs.Analyser.{Expr, var, constant, approx, plus, minus, times, over, Approximates, analyse, plain, certified, eval_float, eval_exact}
use Rattle.rounding.proofs.Soundness.{plainly}
use Rattle.rounding.proofs.Inputs.{two, two_inputs, bounded}
use Rattle.math.specs.Formulas.{clamp_of}
use Rattle.curve.specs.Curve.{clamp_unit_of, position_of, drawn_of, Drawn}
use Rattle.curve.proofs.Positions.{Level, position_level}
use Rattle.curve.proofs.Clamped.{drawn_near}
use Rattle.settings.specs.declared.Filter.{Filter}
use Rattle.settings.proofs.Ranges.{FilterRange}
use Rattle.filter.specs.Formula.{half_power₃₂, floor_db₃₂, range_db₃₂, octaves_of, twice_poles_of, squared_of, log_of, distance_of, peak_of, scaled_of, filter_level_of, filter_height_of}
use Rattle.filter.specs.Exact.{half_powerℚ, octavesℚ, squaredℚ, logℚ, distanceℚ, peakℚ, scaledℚ, filter_levelℚ, filter_heightℚ}
use Rattle.filter.proofs.Exponent.{octaves_near, squared_near}
use Rattle.filter.proofs.Resonance.{peak_bound, peak_near}
use Rattle.filter.proofs.RollOff.{roll_off_bound, log_near}

-- ---- the level, of a logarithm (input 0) and a peak (input 1)
scaled : Expr
scaled = over (minus (plus (times (approx half_power₃₂ half_powerℚ) (var 0)) (var 1)) (constant floor_db₃₂)) (constant range_db₃₂)

scaled_ok : T (certified binary32 (two roll_off_bound peak_bound) scaled 1 262144)
unfolding certified analyse scaled roll_off_bound peak_bound two of_bits
scaled_ok = tt

scaled_near : (l p : Float) (L P : Fraction) → Approximates binary32 l L roll_off_bound → Approximates binary32 p P peak_bound → Within (value (scaled_of l p)) (scaledℚ L P) (ratio 1 262144)
unfolding scaled_of scaledℚ scaled eval_float eval_exact plain two value of_bits
scaled_near l p L P h k =
    bounded binary32 (two l p) (two L P) (two roll_off_bound peak_bound) (two_inputs binary32 l p L P roll_off_bound peak_bound h k) scaled (plainly binary32 (two L P) scaled tt) 1 262144 (lit< tt) scaled_ok

-- the level before its clamp
unclamped : Filter → Float → Float
unclamped f t = scaled_of (log_of (squared_of f (octaves_of f t))) (peak_of f (distance_of f (octaves_of f t)))

unclamped_fits : (f : Filter) (t : Float) → T (fits binary32 (unclamped f t))
unfolding unclamped scaled_of
unclamped_fits f t =
    div-fits binary32 (half_power₃₂ ⊗ log_of (squared_of f (octaves_of f t)) ⊕ peak_of f (distance_of f (octaves_of f t)) ⊖ floor_db₃₂) range_db₃₂

squared_fits : (f : Filter) (o : Float) → T (fits binary32 (squared_of f o))
unfolding squared_of
squared_fits f o = mul-fits binary32 (twice_poles_of f.slope) o

level_near : (f : Filter) → FilterRange f → (t : Float) → Level t → Within (value (unclamped f t)) (filter_levelℚ f (value t)) (ratio 1 262144)
unfolding unclamped filter_levelℚ
level_near f r t h =
    let o = octaves_of f t in
    let O = octavesℚ f (value t) in
    scaled_near (log_of (squared_of f o)) (peak_of f (distance_of f o)) (logℚ (squaredℚ f O)) (peakℚ f (distanceℚ f O))
    (log_near (squared_of f o) (squaredℚ f O) (squared_fits f o) (squared_near f o O r (octaves_near f t r h))) (peak_near f t r h)

-- ---- the second clamp changes nothing
unit_twice : (x : Float) → clamp_unit_of (clamp_unit_of x) ≡ clamp_unit_of x
unfolding clamp_of lt of_bits
unit_twice x = go (lt x zero₃₂) (lt one₃₂ x) refl refl
  where
    go : (a b : Bool) → lt x zero₃₂ ≡ a → lt one₃₂ x ≡ b → clamp_unit_of (cond a zero₃₂ (cond b one₃₂ x)) ≡ cond a zero₃₂ (cond b one₃₂ x)
    go true b i j = refl
    go false true i j = refl
    go false false i j = rw (i, j) refl

-- ---- THE THEOREM
pub filter_drawn : (f : Filter) → FilterRange f → (t : Float) → T (fits binary32 t) → Drawn (filter_height_of f t).height (filter_heightℚ f t) (ratio 1 262144)
unfolding filter_height_of drawn_of filter_level_of filter_heightℚ unclamped
filter_drawn f r t h =
    let p = position_of t in
    rw (unit_twice (unclamped f p)) (drawn_near (unclamped f p) (filter_levelℚ f (value p)) 1 262144 (unclamped_fits f p) (level_near f r p (position_level t h)))
