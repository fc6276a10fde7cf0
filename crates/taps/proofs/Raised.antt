-- THE HEIGHT SO FAR IS +0 OR A NUMBER ABOVE 0, so that the level is what one comparison for each tap computes, and never below 0. Assumes nothing.
use mathlib.Core.Logic.{inl, inr}
use mathlib.Core.Path.{◌≡◌, sym, ap, ◌∙◌, subst}
use mathlib.Core.Bool.{false}
use Prim.Native.Nat.{ℕ, zero, suc}
use lib.Ieee.{Float, of_bits, lt}
use Rattle.exact.specs.Binary32.{◌⊖◌, zero₃₂}
use Rattle.math.specs.Formulas.{abs_of}
use Rattle.taps.specs.declared.Taps.{Taps}
use Rattle.taps.specs.Formula.{tap_width, at_of, tall_of, spike_of, tap_raised_of, taps_level_of}
use Rattle.taps.proofs.Larger.{Raised, asymmetric, raised_zero, raised_above, either}
use Rattle.taps.proofs.OneComparison.{raised_is}

-- ---- one tap more
tap_raised : (at tall t h : Float) → Raised h → Raised (tap_raised_of at tall t h)
unfolding tap_raised_of
tap_raised at tall t h r =
    let v = spike_of tall (abs_of (t ⊖ at)) in
    either (lt (abs_of (t ⊖ at)) tap_width) (λ _. either (lt h v) (raised_above h v r) r) r

pub raised_level : (taps : Taps) (t : Float) (i : ℕ) → Raised (taps_level_of taps t i)
unfolding taps_level_of
raised_level taps t zero = raised_zero
raised_level taps t (suc i) =
    let r = raised_level taps t i in
    let h = taps_level_of taps t i in
    subst Raised (raised_is (at_of taps i) (tall_of taps i) t h r) (tap_raised (at_of taps i) (tall_of taps i) t h r)

-- The level of one tap more, as the code computes it from the level so far.
pub level_raised : {h r : Float} (taps : Taps) (t : Float) (i : ℕ) → h ≡ taps_level_of taps t i → r ≡ tap_raised_of (at_of taps i) (tall_of taps i) t h → r ≡ taps_level_of taps t (suc i)
unfolding taps_level_of
level_raised taps t i e k =
    k ∙ ap (tap_raised_of (at_of taps i) (tall_of taps i) t) e ∙ raised_is (at_of taps i) (tall_of taps i) t (taps_level_of taps t i) (raised_level taps t i)

-- ---- so no level is below 0
not_below : (h : Float) → Raised h → lt h zero₃₂ ≡ false
unfolding lt of_bits
not_below h (inl e) = simp e
not_below h (inr l) = asymmetric zero₃₂ h l

pub level_from_zero : {h : Float} (taps : Taps) (t : Float) (i : ℕ) → h ≡ taps_level_of taps t i → lt h zero₃₂ ≡ false
level_from_zero taps t i e = subst (λ x. lt x zero₃₂ ≡ false) (sym e) (not_below (taps_level_of taps t i) (raised_level taps t i))
