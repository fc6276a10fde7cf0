-- What `log2` asks of a bit pattern b: the exponent's field less 127, as an i32 and as a float, and the mantissa's pattern. Assumes nothing.
use mathlib.Core.Path.{◌≡◌, sym, ap, ◌∙◌, subst}
use mathlib.Core.Bool.{Bool, true, false, not, cond, false≢true}
use Prim.Native.Nat.{ℕ, suc, ◌+◌, ◌-◌, ◌/◌, ◌%◌, ◌≤◌, ◌<◌}
use native.Mathlib.Omega.{arith}
use lib.Dec.{T, ltb, le→leb, lt→ltb}
use lib.IntN.{ℤ, pos, negsuc, ◌-ℤ◌}
use lib.Ieee.{Float, nan, inf, fin, binary32, of_bits, is_nan, in_float, nan_bits, lt}
use mir.Syntax.{w32}
use mir.Val.{SFits, to_z, of_z}
use mir.ValLaws.{to_z-of_z}
use borrow.Author.Tests.{lt-ltb}
use Rattle.exact.specs.Binary32.{zero₃₂}
use Rattle.math.proofs.Nan.{number_bits}

-- what is above zero is a number
pub above_zero : (x : Float) → lt zero₃₂ x ≡ true → T (not (is_nan x))
unfolding lt is_nan of_bits
above_zero nan h = absurd (false≢true h)
above_zero (inf s) h = tt
above_zero (fin s m e) h = tt

-- a mantissa's pattern
pub mantissa_number : (b : ℕ) → T (not (nan_bits binary32 (1065353216 + b % 8388608)))
mantissa_number b = number_bits (1065353216 + b % 8388608) (omega arith)

-- ---- an exponent: the field n, less 127
abbrev less : ℕ → ℤ
less n = to_z w32 n -ℤ pos 127

pub record Exponent (n : ℕ) : Type 0 where
  pub field : SFits w32 (pos n)
  pub sum : SFits w32 (less n)
  pub exact : T (in_float binary32 (to_z w32 (of_z w32 (less n))))
  pub is : to_z w32 (of_z w32 (less n)) ≡ pos n -ℤ pos 127

below : (n : ℕ) → n < 512 → n < 2147483648
below n h = omega arith

deep : (n : ℕ) → 127 - suc n < 16777216
deep n = omega arith

high : (n : ℕ) → n < 512 → n - 127 ≤ 16777216
high n h = omega arith

in_range : (n : ℕ) → n < 512 → SFits w32 (pos n -ℤ pos 127) × T (in_float binary32 (pos n -ℤ pos 127))
unfolding in_float
in_range n h = go (ltb n 127)
  where
    go : (t : Bool) → SFits w32 (cond t (negsuc (127 - suc n)) (pos (n - 127))) × T (in_float binary32 (cond t (negsuc (127 - suc n)) (pos (n - 127))))
    go true = (record { sfits = omega arith }, lt→ltb (127 - suc n) 16777216 (deep n))
    go false = (record { sfits = omega arith }, le→leb (n - 127) 16777216 (high n h))

pub exponent : (b : ℕ) → b < 4294967296 → Exponent (b / 8388608)
exponent b h =
    let n = b / 8388608 in
    let l : n < 512 = omega arith in
    let f : to_z w32 n ≡ pos n = simp (lt-ltb n 2147483648 (below n l)) in
    let k = in_range n l in
    let s : SFits w32 (less n) = subst (λ (z : ℤ). SFits w32 (z -ℤ pos 127)) (sym f) k.0 in
    let i : to_z w32 (of_z w32 (less n)) ≡ pos n -ℤ pos 127 = to_z-of_z w32 (less n) s ∙ ap (λ (z : ℤ). z -ℤ pos 127) f in
    record { field = record { sfits = below n l }; sum = s; exact = subst (λ (z : ℤ). T (in_float binary32 z)) (sym i) k.1; is = i }
