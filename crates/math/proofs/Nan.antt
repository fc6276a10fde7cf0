-- A test for a NaN by `x != x`, and what is none. Assumes nothing.
use mathlib.Core.Path.{◌≡◌, refl, sym, ◌∙◌, subst}
use mathlib.Core.Bool.{Bool, true, false, not}
use Prim.Native.Nat.{ℕ, ◌*◌, ◌/◌, ◌%◌, ◌<◌}
use native.Mathlib.Omega.{arith}
use lib.Dec.{T}
use lib.Ieee.{Float, nan, inf, fin, binary32, up, down, ne, is_nan, nan_bits}
use lib.Ieee.Scale.{finite}
use borrow.Author.Tests.{eq-eqb, ne_eqb}

ne_self : (x : Float) → ne x x ≡ is_nan x
unfolding ne is_nan
ne_self nan = refl
ne_self (inf true) = refl
ne_self (inf false) = refl
ne_self (fin true m e) = simp (eq-eqb (m * up e * down e) (m * up e * down e) refl)
ne_self (fin false m e) = simp (eq-eqb (m * up e * down e) (m * up e * down e) refl)

pub is_nan_tested : (b : Bool) (x : Float) → ne x x ≡ b → is_nan x ≡ b
is_nan_tested b x h = sym (ne_self x) ∙ h

pub not_nan : (x : Float) → is_nan x ≡ false → T (not (is_nan x))
not_nan x h = subst (λ (b : Bool). T (not b)) (sym h) tt

pub finite_number : (x : Float) → T (finite x) → is_nan x ≡ false
unfolding is_nan
finite_number nan h = absurd h
finite_number (inf s) h = absurd h
finite_number (fin s m e) h = refl

-- ---- a pattern below that of infinity is none's
not_ones : (b : ℕ) → b < 2139095040 → b % 2147483648 / 8388608 ≡ 255 → ⊥
not_ones b h e = omega arith

pub number_bits : (b : ℕ) → b < 2139095040 → T (not (nan_bits binary32 b))
unfolding nan_bits
number_bits b h = simp (ne_eqb (b % 2147483648 / 8388608) 255 (not_ones b h)) tt
