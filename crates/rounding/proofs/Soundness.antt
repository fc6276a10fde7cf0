-- THE ANALYSER IS SOUND: where its tests pass the float is finite, the exact value is defined and lies within its bounds, and the two differ by at
-- most `err` quanta. The steps are in StepSums, StepQuotients and StepLeaves. Assumes nothing.
use mathlib.Core.Bool.{true}
use Prim.Native.Nat.{ℕ}
use lib.Dec.{T}
use lib.Ieee.{Float, Format, sub, neg}
use Rattle.exact.specs.Fraction.{Fraction, over, negℚ}
use Rattle.rounding.proofs.Analyser as A
use Rattle.rounding.proofs.Analyser.{Bound, Expr, Approximates, Facts, eval_float, eval_exact, analyse, negated_of}
use Rattle.rounding.proofs.StepSums.{both, plus_sound, plus_guard, negated_sound, times_sound, times_guard}
use Rattle.rounding.proofs.StepQuotients.{quotient_tests, quotient_sound, over_sound, over_guard}
use Rattle.rounding.proofs.StepLeaves.{constant_sound, approx_sound, truncated_sound, truncated_guard, enclosed_sound, enclosed_guard, clamped_sound, clamped_guard, negated_guard}

-- ---- THE THEOREM: inputs within their bounds, and tests that pass, give a result within its bound
pub sound : (f : Format) (ρ : ℕ → Float) (σ : ℕ → Fraction) (β : ℕ → Bound) → ((i : ℕ) → Approximates f (ρ i) (σ i) (β i))
    → (e : Expr) → Facts f σ e → T (analyse f β e).ok → Approximates f (eval_float f ρ e) (eval_exact σ e) (analyse f β e).bound
unfolding eval_float eval_exact Facts analyse sub
sound f ρ σ β v (A.var i) k ok = v i
sound f ρ σ β v (A.constant x) k ok = constant_sound f x ok
sound f ρ σ β v (A.approx x q) k ok = approx_sound f x q ok
sound f ρ σ β v (A.negated a) k ok = negated_sound f (eval_float f ρ a) (eval_exact σ a) (analyse f β a) (sound f ρ σ β v a k (negated_guard (analyse f β a) ok))
sound f ρ σ β v (A.plus a b) k ok =
    let g = plus_guard f (analyse f β a) (analyse f β b) ok in
    plus_sound f (eval_float f ρ a) (eval_float f ρ b) (eval_exact σ a) (eval_exact σ b) (analyse f β a) (analyse f β b) (sound f ρ σ β v a k.0 g.0) (sound f ρ σ β v b k.1 g.1) ok
sound f ρ σ β v (A.minus a b) k ok =
    let g = plus_guard f (analyse f β a) (negated_of (analyse f β b)) ok in
    plus_sound f (eval_float f ρ a) (neg (eval_float f ρ b)) (eval_exact σ a) (negℚ (eval_exact σ b)) (analyse f β a) (negated_of (analyse f β b)) (sound f ρ σ β v a k.0 g.0)
    (negated_sound f (eval_float f ρ b) (eval_exact σ b) (analyse f β b) (sound f ρ σ β v b k.1 (negated_guard (analyse f β b) g.1))) ok
sound f ρ σ β v (A.times a b) k ok =
    let g = times_guard f (analyse f β a) (analyse f β b) ok in
    times_sound f (eval_float f ρ a) (eval_float f ρ b) (eval_exact σ a) (eval_exact σ b) (analyse f β a) (analyse f β b) (sound f ρ σ β v a k.0 g.0) (sound f ρ σ β v b k.1 g.1) ok
sound f ρ σ β v (A.over a b) k ok =
    let g = over_guard f (analyse f β a) (analyse f β b) ok in
    over_sound f (eval_float f ρ a) (eval_float f ρ b) (eval_exact σ a) (eval_exact σ b) (analyse f β a) (analyse f β b) (sound f ρ σ β v a k.0 g.0) (sound f ρ σ β v b k.1 g.1) ok
sound f ρ σ β v (A.clamped a) k ok = clamped_sound f (eval_float f ρ a) (eval_exact σ a) (analyse f β a) (sound f ρ σ β v a k (clamped_guard f (analyse f β a) ok))
sound f ρ σ β v (A.truncated a b) k ok =
    let g = truncated_guard (analyse f β a) (analyse f β b) ok in
    truncated_sound f (eval_float f ρ a) (eval_float f ρ b) (eval_exact σ a) (eval_exact σ b) (analyse f β a) (analyse f β b) (sound f ρ σ β v a k.0 g.0) (sound f ρ σ β v b k.1 g.1)
sound f ρ σ β v (A.enclosed l h a) k ok =
    enclosed_sound f (eval_float f ρ a) (eval_exact σ a) l h (analyse f β a) (sound f ρ σ β v a k.0 (enclosed_guard l h (analyse f β a) ok)) k.1 k.2
sound f ρ σ β v (A.quotient l h a b) k ok =
    let g = quotient_tests f true l h (analyse f β a) (analyse f β b) ok in
    quotient_sound f true (eval_float f ρ a) (eval_float f ρ b) (eval_exact σ a) (eval_exact σ b) l h (analyse f β a) (analyse f β b) (sound f ρ σ β v a k.0.0 g.0) (sound f ρ σ β v b k.0.1 g.1)
    k.1 k.2 ok

-- an expression that brings no bounds along takes nothing for granted
pub plainly : (f : Format) (σ : ℕ → Fraction) (e : Expr) → T (A.plain e) → Facts f σ e
unfolding Facts A.plain
plainly f σ (A.var i) t = tt
plainly f σ (A.constant x) t = tt
plainly f σ (A.approx x q) t = tt
plainly f σ (A.negated a) t = plainly f σ a t
plainly f σ (A.plus a b) t = let w = both (A.plain a) (A.plain b) t in (plainly f σ a w.0, plainly f σ b w.1)
plainly f σ (A.minus a b) t = let w = both (A.plain a) (A.plain b) t in (plainly f σ a w.0, plainly f σ b w.1)
plainly f σ (A.times a b) t = let w = both (A.plain a) (A.plain b) t in (plainly f σ a w.0, plainly f σ b w.1)
plainly f σ (A.over a b) t = let w = both (A.plain a) (A.plain b) t in (plainly f σ a w.0, plainly f σ b w.1)
plainly f σ (A.clamped a) t = plainly f σ a t
plainly f σ (A.truncated a b) t = let w = both (A.plain a) (A.plain b) t in (plainly f σ a w.0, plainly f σ b w.1)
plainly f σ (A.enclosed l h a) t = absurd t
plainly f σ (A.quotient l h a b) t = absurd t
