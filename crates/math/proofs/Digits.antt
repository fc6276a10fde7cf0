-- A NUMBER OF 16 BITS AS A FLOAT: n over the bits of 2 ^ 23 is the float 2 ^ 23 + n. Assumes nothing.
use mathlib.Core.Path.{◌≡◌, refl, sym, ap, ◌∙◌, subst}
use mathlib.Core.Bool.{Bool, true, false, cond}
use Prim.Native.Nat.{ℕ, zero, suc, ◌+◌, ◌-◌, ◌*◌, ◌/◌, ◌%◌, ◌^◌, ◌≤◌, ◌<◌}
use native.Mathlib.Nat.{one-mul, mul_assoc, mul_right_comm, eq_of_mul-eq-mul_right}
use native.Mathlib.Omega.{arith}
use lib.IntN.{ℤ, pos, negsuc, neg_ℤ, sub_ℕ}
use lib.Pow.{pow_pos}
use lib.Ieee.{Float, nan, inf, fin, binary32, up, down, odd, of_int, of_bits, neg, sub}
use lib.Ieee.Exact.{HasValue, odd_sign}
use borrow.Author.Tests.{lt-ltb, le-ltb}
use Rattle.exact.specs.Binary32.{◌⊕◌, ◌⊖◌, bits}
use Rattle.math.proofs.Bits.{bits_are}
use Rattle.math.proofs.Whole.{sum_whole}

-- a common factor of a value's fraction is left out
pub reduced : (x : Float) (s : Bool) (a c p : ℕ) → 0 < p → HasValue x s (a * p) (c * p) → HasValue x s a c
reduced nan s a c p h v = v
reduced (inf t) s a c p h v = v
reduced (fin t m e) s a c p h v = (v.0, eq_of_mul-eq-mul_right p h (m * up e * c) (a * down e) (mul_assoc (m * up e) c p ∙ v.1 ∙ mul_right_comm a p (down e)))

pub cancel : (x : Float) (s : Bool) (q p : ℕ) → 0 < p → HasValue x s (q * p) p → HasValue x s q 1
cancel x s q p h v = reduced x s q 1 p h (subst (λ (c : ℕ). HasValue x s (q * p) c) (sym (one-mul p)) v)

-- ---- 2 ^ 23 taken off a whole number from there up
abbrev pub step : Float
step = bits 0x4b00_0000

-- w - (q + 1), not above 0
pub minus_is : (w q : ℕ) → w ≤ suc q → sub_ℕ w (suc q) ≡ neg_ℤ (pos (suc q - w))
minus_is w q h = go (suc q - w) refl
  where
    go : (r : ℕ) → suc q - w ≡ r → sub_ℕ w (suc q) ≡ neg_ℤ (pos r)
    go zero e =
        let l : suc q ≤ w = omega arith in
        let z : w - suc q ≡ 0 = omega arith in
        simp (le-ltb w (suc q) l, z)
    go (suc r) e =
        let l : w < suc q = omega arith in
        let z : suc q - suc w ≡ r = omega arith in
        simp (lt-ltb w (suc q) l, z)

pub taken : (s : Bool) (x : Float) (Q : ℕ) → 8388608 ≤ Q → HasValue x s Q 1 → cond s (x ⊕ step) (x ⊖ step) ≡ of_int binary32 (cond s (neg_ℤ (pos (Q - 8388608))) (pos (Q - 8388608)))
unfolding sub neg of_bits
taken false x Q h v = sum_whole x (neg step) (pos Q) (negsuc 8388607) v (refl, refl) ∙ simp (le-ltb Q 8388608 h)
taken true x zero h v = absurd (omega arith)
taken true x (suc Q) h v = sum_whole x step (negsuc Q) (pos 8388608) v (refl, refl) ∙ ap (λ (z : ℤ). of_int binary32 z) (minus_is 8388608 Q h)

-- ---- n over the bits of 2 ^ 23
digits : (n : ℕ) → n < 65536 → HasValue (bits (0x4b00_0000 + n)) false (8388608 + n) 1
digits n h = subst (λ (x : Float). HasValue x false (8388608 + n) 1) (sym is) (cancel (odd 24 false (8388608 + n) 149 149) false (8388608 + n) (2 ^ 149) (pow_pos 149) (odd_sign 24 false (8388608 + n) 149 149))
  where
    b : ℕ
    b = 0x4b00_0000 + n

    low : b % 2 ^ 23 ≡ n
    low = omega arith

    field : b / 2 ^ 23 - 1 ≡ 149
    field = omega arith

    is : bits b ≡ odd 24 false (8388608 + n) 149 149
    is = bits_are b (omega arith) (omega arith) ∙ ap (λ (r : ℕ). odd 24 false (2 ^ 23 + r) (b / 2 ^ 23 - 1) 149) low ∙ ap (λ (k : ℕ). odd 24 false (2 ^ 23 + n) k 149) field

pub from_digits : (n : ℕ) → n < 65536 → bits (0x4b00_0000 + n) ⊖ step ≡ of_int binary32 (pos n)
from_digits n h = taken false (bits (0x4b00_0000 + n)) (8388608 + n) (omega arith) (digits n h) ∙ ap (λ (k : ℕ). of_int binary32 (pos k)) back
  where
    back : 8388608 + n - 8388608 ≡ n
    back = omega arith
