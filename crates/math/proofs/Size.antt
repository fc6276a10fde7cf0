-- THE SIZE OF A FLOAT IS ITS BITS WITHOUT THE SIGN. Assumes nothing.
use mathlib.Core.Path.{◌≡◌, refl, sym, ap, subst, ◌∙◌}
use mathlib.Core.Bool.{Bool, true, false, not, cond, false≢true}
use Prim.Native.Nat.{ℕ, zero, suc, ◌+◌, ◌/◌, ◌%◌, ◌^◌, ◌≤◌}
use native.Mathlib.Omega.{arith}
use lib.Dec.{T, eqb, leb, leb→le, not_T}
use lib.Ieee.{Float, nan, inf, fin, binary32, odd, of_fields, of_bits, to_bits, nan_bits, fits, is_nan}
use lib.Ieee.Bits.{is_false, of_bits-to_bits, nan_bits_is}
use Rattle.math.specs.Formulas.{abs_of}

odd_size : (d : ℕ) (s : Bool) (q k l : ℕ) → odd d false q k l ≡ abs_of (odd d s q k l)
unfolding odd abs_of
odd_size d s zero k l = refl
odd_size d s (suc q) k l = refl

fields_size : (s : Bool) (F t : ℕ) → of_fields binary32 false F t ≡ abs_of (of_fields binary32 s F t)
unfolding of_fields abs_of
fields_size s zero t = odd_size 24 s t 0 149
fields_size s (suc x) t = go (eqb (suc x) 255) (eqb t 0)
  where
    go : (a b : Bool) → cond a (cond b (inf false) nan) (odd 24 false (2 ^ 23 + t) x 149) ≡ abs_of (cond a (cond b (inf s) nan) (odd 24 s (2 ^ 23 + t) x 149))
    go true true = refl
    go true false = refl
    go false b = odd_size 24 s (2 ^ 23 + t) x 149

bits_size : (b : ℕ) → of_bits binary32 (b % 2 ^ 31) ≡ abs_of (of_bits binary32 b)
unfolding of_bits
bits_size b =
    ap (λ (s : Bool). of_fields binary32 s (b % 2 ^ 31 % 2 ^ 31 / 2 ^ 23) (b % 2 ^ 31 % 2 ^ 23)) (is_false (leb (2 ^ 31) (b % 2 ^ 31)) (not_T (leb (2 ^ 31) (b % 2 ^ 31)) (λ (e : T (leb (2 ^ 31) (b % 2 ^ 31))). none b (leb→le (2 ^ 31) (b % 2 ^ 31) e))))
    ∙ ap (λ (z : ℕ). of_fields binary32 false (z / 2 ^ 23) (b % 2 ^ 31 % 2 ^ 23)) (again b) ∙ ap (of_fields binary32 false (b % 2 ^ 31 / 2 ^ 23)) (low b) ∙ fields_size (leb (2 ^ 31) b) (b % 2 ^ 31 / 2 ^ 23) (b % 2 ^ 23)
  where
    none : (b : ℕ) → 2 ^ 31 ≤ b % 2 ^ 31 → ⊥
    none b h = omega arith

    again : (b : ℕ) → b % 2 ^ 31 % 2 ^ 31 ≡ b % 2 ^ 31
    again b = omega arith

    low : (b : ℕ) → b % 2 ^ 31 % 2 ^ 23 ≡ b % 2 ^ 23
    low b = omega arith

pub size_by_bits : (x : Float) → T (fits binary32 x) → of_bits binary32 (to_bits binary32 x % 2 ^ 31) ≡ abs_of x
size_by_bits x f = bits_size (to_bits binary32 x) ∙ ap abs_of (of_bits-to_bits binary32 x f)

-- a NaN has none, and what is none has no NaN for its size
pub nan_size : (x : Float) → is_nan x ≡ true → x ≡ abs_of x
unfolding is_nan abs_of
nan_size nan h = refl
nan_size (inf s) h = absurd (false≢true h)
nan_size (fin s m e) h = absurd (false≢true h)

number : (x : Float) → is_nan x ≡ false → is_nan (abs_of x) ≡ false
unfolding is_nan abs_of
number nan h = h
number (inf s) h = refl
number (fin s m e) h = refl

pub size_no_nan : (x : Float) → T (fits binary32 x) → is_nan x ≡ false → T (not (nan_bits binary32 (to_bits binary32 x % 2 ^ 31)))
size_no_nan x f h = subst (λ (b : Bool). T (not b)) (sym (nan_bits_is binary32 (to_bits binary32 x % 2 ^ 31) ∙ ap is_nan (size_by_bits x f) ∙ number x h)) tt
