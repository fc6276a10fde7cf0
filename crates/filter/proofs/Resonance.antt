-- THE RESONANT PEAK, near the exact one: from 0 to 12, off by at most 1300 * 2 ^ -24. Its distance from the corner reaches 24, and over all positions at once the bound of
-- 1 / (1 + distance²) would be too coarse: so it is tested over six ranges of the position and two of the resonance, all by one computation for each pass.
-- Assumes nothing.
use mathlib.Core.Logic.{◌⊎◌, inl, inr}
use mathlib.Core.Bool.{Bool}
use mathlib.Core.List.{List, [], ◌∷◌}
use Prim.Native.Nat.{ℕ, zero, suc, ◌*◌, ◌^◌, ◌<◌}
use native.Mathlib.Nat.{le_refl}
use native.Mathlib.Omega.{arith}
use lib.IntN.{pos}
use lib.Dec.{T}
use lib.Ieee.{Float, binary32, of_bits}
use Rattle.exact.specs.Fraction.{Fraction, ratio, ◌≤ℚ◌}
use Rattle.exact.specs.Value.{value}
use Rattle.exact.specs.Binary32.{one₃₂}
use Rattle.exact.proofs.Order.{≤ℚ-parts, ≤ℚ-total}
use Rattle.rounding.proofs.Analyser.{Bound, Expr, var, constant, approx, plus, times, over, Approximates, constant_of, analyse, plain, eval_float, eval_exact}
use Rattle.rounding.proofs.Soundness.{plainly}
use Rattle.rounding.proofs.Inputs.{range, two, two_inputs, covers, concludes, concluded}
use Rattle.lists.proofs.Every.{every, each}
use Rattle.curve.proofs.Positions.{Level}
use Rattle.settings.specs.declared.Pass.{Pass}
use Rattle.settings.specs.declared.Pass.TheVariants.{Low, High}
use Rattle.curve.proofs.LevelInput.{unit, level_input}
use Rattle.settings.specs.declared.Filter.{Filter}
use Rattle.settings.proofs.Ranges.{FilterRange}
use Rattle.filter.specs.Formula.{two₃₂, six₃₂, ceiling_db₃₂, octaves_of, distance_of, peak_of}
use Rattle.filter.specs.Exact.{octavesℚ, distanceℚ, peakℚ}
use Rattle.filter.proofs.Exchange.{lower_fraction, upper_fraction}
use Rattle.filter.proofs.Exponent.{octaves, octaves_plain, octaves_runs, octaves_means}

-- ---- the formulas: input 0 is the position, input 1 the resonance
distance : Pass → Expr
unfolding octaves
distance p = times (octaves p) (plus (constant two₃₂) (times (var 1) (constant six₃₂)))

peak : Pass → Expr
unfolding distance
peak p = over (times (var 1) (approx ceiling_db₃₂ (ratio 12 1))) (plus (constant one₃₂) (times (distance p) (distance p)))

unfoldable pub peak_bound : Bound
peak_bound = record { lo = pos 0; hi = pos (12 * 2 ^ 149); err = 1300 * 2 ^ 125 }

-- ---- where a number lies among sixteenths
nth : List ℕ → ℕ → ℕ
nth [] i = 16
nth (c ∷ cs) zero = c
nth (c ∷ cs) (suc i) = nth cs i

positions : List ℕ
positions = 0 ∷ 4 ∷ 7 ∷ 8 ∷ 9 ∷ 12 ∷ []

resonances : List ℕ
resonances = 0 ∷ 8 ∷ []

cut : List ℕ → ℕ → Fraction
cut cs i = ratio (nth cs i * 2 ^ 145) (2 ^ 149)

between : List ℕ → ℕ → Bound
between cs i = record { lo = pos (nth cs i * 2 ^ 145); hi = pos (nth cs (suc i) * 2 ^ 145); err = 0 }

record Found (cs : List ℕ) (n : ℕ) (A : Fraction) : Type 0 where
  i : ℕ
  before : i < n
  above : cut cs i ≤ℚ A
  below : A ≤ℚ cut cs (suc i)

find : (cs : List ℕ) (n : ℕ) (A : Fraction) → cut cs 0 ≤ℚ A → A ≤ℚ cut cs (suc n) → Found cs (suc n) A
find cs zero A a b = record { i = 0; before = le_refl 1; above = a; below = b }
find cs (suc n) A a b = go (≤ℚ-total A (cut cs (suc n))) (λ l. find cs n A a l)
  where
    grow : (i n : ℕ) → i < n → i < suc n
    grow i n h = omega arith

    go : (A ≤ℚ cut cs (suc n)) ⊎ (cut cs (suc n) ≤ℚ A) → (A ≤ℚ cut cs (suc n) → Found cs (suc n) A) → Found cs (suc (suc n)) A
    go (inl l) k = let r = k l in record { i = r.i; before = grow r.i (suc n) r.before; above = r.above; below = r.below }
    go (inr l) k = record { i = suc n; before = le_refl (suc (suc n)); above = l; below = b }

placed : (cs : List ℕ) (i : ℕ) (x : Float) → Level x → cut cs i ≤ℚ value x → value x ≤ℚ cut cs (suc i) → Approximates binary32 x (value x) (between cs i)
unfolding cut between unit range
placed cs i x h a b =
    let u = level_input x h in
    record { defined = u.defined; near = u.near; lower = ≤ℚ-parts (cut cs i) (value x) a; upper = ≤ℚ-parts (value x) (cut cs (suc i)) b }

-- ---- the tests
peak_test : Pass → ℕ → ℕ → Bool
peak_test p i j = concludes binary32 (two (between positions i) (between resonances j)) (peak p) peak_bound

peak_ok : (p : Pass) → T (every (λ i. every (λ j. peak_test p i j) 2) 6)
unfolding every peak_test concludes analyse covers between positions resonances nth peak distance octaves peak_bound two of_bits
peak_ok Low = tt
peak_ok High = tt

peak_plain : (p : Pass) → T (plain (peak p))
unfolding plain peak distance octaves
peak_plain Low = octaves_plain Low
peak_plain High = octaves_plain High

-- ---- THE PEAK
from_zero : (x : Float) → Level x → ratio 0 (2 ^ 149) ≤ℚ value x
unfolding unit range constant_of of_bits
from_zero x h = lower_fraction (2 ^ 149) (value x) (pos 0) (level_input x h).lower

to_one : (x : Float) → Level x → value x ≤ℚ ratio (2 ^ 149) (2 ^ 149)
unfolding unit range constant_of of_bits
to_one x h = upper_fraction (2 ^ 149) (value x) (pos (2 ^ 149)) (level_input x h).upper

peak_at : (p : Pass) (t r : Float) → Level t → Level r → Approximates binary32 (eval_float binary32 (two t r) (peak p)) (eval_exact (two (value t) (value r)) (peak p)) peak_bound
unfolding peak_test cut nth positions resonances
peak_at p t r h k =
    let x = find positions 5 (value t) (from_zero t h) (to_one t h) in
    let y = find resonances 1 (value r) (from_zero r k) (to_one r k) in
    let a = between positions x.i in
    let b = between resonances y.i in
    concluded binary32 (two t r) (two (value t) (value r)) (two a b) (two_inputs binary32 t r (value t) (value r) a b (placed positions x.i t h x.above x.below) (placed resonances y.i r k y.above y.below))
    (peak p) (plainly binary32 (two (value t) (value r)) (peak p) (peak_plain p)) peak_bound
    (each (λ j. peak_test p x.i j) 2 y.i (each (λ i. every (λ j. peak_test p i j) 2) 6 x.i (peak_ok p) x.before) y.before)

pub peak_near : (f : Filter) (t : Float) → FilterRange f → Level t → Approximates binary32 (peak_of f (distance_of f (octaves_of f t))) (peakℚ f (distanceℚ f (octavesℚ f (value t)))) peak_bound
unfolding peak_of distance_of octaves_of peakℚ distanceℚ octavesℚ peak distance eval_float eval_exact two value of_bits
peak_near f t r h =
    let p = f.pass in
    rw (r.span, ← octaves_runs p (two t f.resonance), ← octaves_means p (two (value t) (value f.resonance))) (peak_at p t f.resonance h r.resonance)
