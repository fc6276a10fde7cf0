-- A PART OF A TURN: a float equal to an exact number from 0 to a bound. And of floats that are equal to exact numbers the comparison is the exact one. Assumes nothing.
use mathlib.Core.Path.{◌≡◌, sym, ap, subst₂, ◌∙◌}
use mathlib.Core.Bool.{Bool, cond}
use lib.Dec.{T}
use lib.Ieee.{Float, binary32, lt, fits}
use Rattle.exact.specs.Fraction.{Fraction, ratio, ◌≤ℚ◌, ltℚ, if_below}
use Rattle.exact.specs.Value.{value, Equal}
use Rattle.exact.proofs.Order.{lt_value}
use Rattle.exact.proofs.Defined.{value_defined, choice_is}
use Rattle.exact.proofs.Inequality.{lt_equal}

-- a float of binary32 that is equal to A, which lies from 0 to hi
pub record Turned (x : Float) (A hi : Fraction) : Type 0 where
  pub holds : T (fits binary32 x)
  pub is : Equal (value x) A
  pub above : ratio 0 1 ≤ℚ A
  pub below : A ≤ℚ hi

-- the float comparison is the exact one
pub compared : (x y : Float) {A B : Fraction} → Equal (value x) A → Equal (value y) B → lt x y ≡ ltℚ A B
compared x y e d = lt_value x y ((value_defined x).0 e.left) ((value_defined y).0 d.left) ∙ lt_equal e d

-- and so is the choice by it
pub chosen : (P : Float → Fraction → Type 0) (x y : Float) {A B : Fraction} → Equal (value x) A → Equal (value y) B → (u v : Float) (U W : Fraction)
    → P (cond (ltℚ A B) u v) (cond (ltℚ A B) U W) → P (cond (lt x y) u v) (if_below A B U W)
chosen P x y {A} {B} e d u v U W h = subst₂ P (ap (λ (b : Bool). cond b u v) (sym (compared x y e d))) (sym (choice_is A B e.right d.right U W)) h
