-- THE BITS OF A NaN: which patterns are read as one, and which pattern one is written as. Assumes nothing.
use mathlib.Core.Path.{◌≡◌, refl, sym, ◌∙◌, subst}
use mathlib.Core.Bool.{Bool, true, not}
use Prim.Native.Nat.{ℕ, ◌%◌, ◌<◌, ◌≤◌}
use lib.Dec.{T}
use lib.Ieee.{Float, nan, inf, fin, binary32, nan_bits, to_bits, is_nan}
use lib.Ieee.Bits.{nan_bits_is, nan_bits_above}
use borrow.Author.Tests.{lt-ltb, le-ltb}
use Rattle.exact.specs.Binary32.{bits}

-- A pattern is a NaN's where it lies above an infinity's, but for the sign.
pub nan_above : (n : ℕ) → 0x7f80_0000 < n % 0x8000_0000 → is_nan (bits n) ≡ true
nan_above n h = sym (nan_bits_is binary32 n) ∙ nan_bits_above binary32 n ∙ lt-ltb 0x7f80_0000 (n % 0x8000_0000) h

pub number_pattern : (n : ℕ) → n % 0x8000_0000 ≤ 0x7f80_0000 → T (not (nan_bits binary32 n))
number_pattern n h = subst (λ (b : Bool). T (not b)) (sym (nan_bits_above binary32 n ∙ le-ltb 0x7f80_0000 (n % 0x8000_0000) h)) tt

-- There is one NaN.
only_nan : (x : Float) → T (is_nan x) → nan ≡ x
unfolding is_nan
only_nan nan t = refl
only_nan (inf s) t = absurd t
only_nan (fin s m e) t = absurd t

pub one_nan : (x : Float) → is_nan x ≡ true → nan ≡ x
one_nan x h = only_nan x (subst T (sym h) tt)

written : 0x7fc0_0000 ≡ to_bits binary32 nan
unfolding to_bits
written = refl

pub nan_bits_lem : (x : Float) → is_nan x ≡ true → 0x7fc0_0000 ≡ to_bits binary32 x
nan_bits_lem x h = subst (λ (y : Float). 0x7fc0_0000 ≡ to_bits binary32 y) (one_nan x h) written
