-- THE OCTAVES FROM THE CORNER AND THE EXPONENT s OF THE SQUARED TERM, near the exact ones: s lies from -24 to 24, off by at most 68 * 2 ^ -24. Assumes nothing.
use mathlib.Core.Path.{◌≡◌, refl, subst₂}
use mathlib.Core.Bool.{Bool}
use Prim.Native.Nat.{ℕ, ◌-◌, ◌*◌, ◌^◌}
use lib.IntN.{pos, negsuc}
use lib.Dec.{T}
use lib.Ieee.{Float, binary32, of_bits, div, mul}
use Rattle.exact.specs.Fraction.{Fraction, ratio, ◌-ℚ◌, ◌*ℚ◌}
use Rattle.exact.specs.Value.{value}
use Rattle.exact.specs.Binary32.{◌⊖◌, ◌⊗◌, bits, half₃₂}
use Rattle.rounding.proofs.Analyser.{Bound, Expr, var, constant, approx, negated, minus, times, Approximates, analyse, plain, eval_float, eval_exact}
use Rattle.rounding.proofs.Soundness.{plainly}
use Rattle.rounding.proofs.Inputs.{one, one_input, covers, concludes, concluded}
use Rattle.curve.proofs.Positions.{Level}
use Rattle.curve.proofs.LevelInput.{unit, level_input}
use Rattle.settings.specs.declared.Pass.{Pass}
use Rattle.settings.specs.declared.Pass.TheVariants.{Low, High}
use Rattle.settings.specs.declared.Filter.{Filter}
use Rattle.settings.proofs.Ranges.{Slope, six, twelve, twenty_four, FilterRange}
use Rattle.filter.specs.Formula.{two₃₂, mirrored_of, octaves_of, twice_poles_of, squared_of}
use Rattle.filter.specs.Exact.{mirroredℚ, octavesℚ, twice_polesℚ, squaredℚ}

-- ---- OCTAVES, of the position
abbrev pub span : Float
span = bits 0x4040_0000

low : Expr
low = times (times (minus (var 0) (constant half₃₂)) (constant two₃₂)) (constant span)

unfoldable pub octaves : Pass → Expr
unfolding low
octaves Low = low
octaves High = negated low

-- from -3 to 3, off by at most 6.5 * 2 ^ -24
unfoldable pub octaves_bound : Bound
octaves_bound = record { lo = negsuc (3 * 2 ^ 149 - 1); hi = pos (3 * 2 ^ 149); err = 13 * 2 ^ 124 }

octaves_ok : (p : Pass) → T (concludes binary32 (one unit) (octaves p) octaves_bound)
unfolding concludes analyse covers octaves low unit octaves_bound one of_bits
octaves_ok Low = tt
octaves_ok High = tt

pub octaves_plain : (p : Pass) → T (plain (octaves p))
unfolding plain octaves low
octaves_plain Low = tt
octaves_plain High = tt

pub octaves_runs : (p : Pass) (ρ : ℕ → Float) → eval_float binary32 ρ (octaves p) ≡ mirrored_of p ((ρ 0 ⊖ half₃₂) ⊗ two₃₂ ⊗ span)
unfolding eval_float octaves low mirrored_of
octaves_runs Low ρ = refl
octaves_runs High ρ = refl

pub octaves_means : (p : Pass) (σ : ℕ → Fraction) → eval_exact σ (octaves p) ≡ mirroredℚ p ((σ 0 -ℚ ratio 1 2) *ℚ ratio 2 1 *ℚ value span)
unfolding eval_exact octaves low mirroredℚ value of_bits
octaves_means Low σ = refl
octaves_means High σ = refl

pub octaves_near : (f : Filter) (t : Float) → FilterRange f → Level t → Approximates binary32 (octaves_of f t) (octavesℚ f (value t)) octaves_bound
unfolding octaves_of octavesℚ one
octaves_near f t r h =
    rw r.span
    (subst₂ (λ (x : Float) (A : Fraction). Approximates binary32 x A octaves_bound) (octaves_runs f.pass (one t)) (octaves_means f.pass (one (value t)))
    (concluded binary32 (one t) (one (value t)) (one unit) (one_input binary32 t (value t) unit (level_input t h)) (octaves f.pass) (plainly binary32 (one (value t)) (octaves f.pass) (octaves_plain f.pass)) octaves_bound (octaves_ok f.pass)))

-- ---- s, of the octaves: twice the poles are exact
squared : Float → Expr
unfolding twice_poles_of twice_polesℚ
squared slope = times (approx (twice_poles_of slope) (twice_polesℚ (value slope))) (var 0)

unfoldable pub squared_bound : Bound
squared_bound = record { lo = negsuc (24 * 2 ^ 149 - 1); hi = pos (24 * 2 ^ 149); err = 68 * 2 ^ 125 }

squared_test : Float → Bool
squared_test slope = concludes binary32 (one octaves_bound) (squared slope) squared_bound

squared_ok : (x : Float) → Slope x → T (squared_test x)
unfolding squared_test concludes analyse covers squared octaves_bound squared_bound one twice_poles_of twice_polesℚ value of_bits mul div
squared_ok x (six e) = rw e tt
squared_ok x (twelve e) = rw e tt
squared_ok x (twenty_four e) = rw e tt

pub squared_near : (f : Filter) (o : Float) (O : Fraction) → FilterRange f → Approximates binary32 o O octaves_bound → Approximates binary32 (squared_of f o) (squaredℚ f O) squared_bound
unfolding squared_of squaredℚ squared_test squared eval_float eval_exact plain one
squared_near f o O r h =
    concluded binary32 (one o) (one O) (one octaves_bound) (one_input binary32 o O octaves_bound h) (squared f.slope) (plainly binary32 (one O) (squared f.slope) tt) squared_bound (squared_ok f.slope r.slope)
