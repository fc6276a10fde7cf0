-- The bit at a place of a number, as the code has it and as `digits_of` does; and one bit less to put. Assumes nothing.
use mathlib.Core.Path.{◌≡◌, sym, ap, ◌∙◌, subst}
use mathlib.Core.List.{List, [], ◌∷◌}
use Prim.Native.Nat.{ℕ, ◌+◌, ◌-◌, ◌*◌, ◌/◌, ◌%◌, ◌^◌, ◌<◌}
use native.Mathlib.Nat.{one-mul, mod-lt}
use native.Mathlib.Omega.{arith}
use borrow.Author.Tests.{lt-ltb}
use lib.Dec.{lit<}
use lib.Pow.{pow_pos, shl_exact}
use Rattle.text.specs.declared.Writer.{Writer}
use Rattle.text.specs.Text.{Puts}
use Rattle.text.proofs.Writing.{Left, left_less, puts_as}
use Rattle.numerals.specs.Spelled.{glyph_of, digits_of}
use Rattle.numerals.proofs.Digits.{digits_front}

-- 1 shifted by k in 32 bits
abbrev pub shifted : ℕ → ℕ
shifted k = 1 * 2 ^ k % 4294967296

pub shifted_is : (k : ℕ) → k < 32 → shifted k ≡ 2 ^ k
shifted_is k h = shl_exact 1 k 32 (lit< tt) (omega arith) ∙ one-mul (2 ^ k)

pub shifted_pos : (k : ℕ) → k < 32 → 0 < shifted k
shifted_pos k h = subst (λ (p : ℕ). 0 < p) (sym (shifted_is k h)) (pow_pos k)

-- the character of a bit
bit_glyph : (d : ℕ) → d < 2 → glyph_of d ≡ 48 + d
unfolding glyph_of
bit_glyph d h = let l : d < 10 = omega arith in rw (lt-ltb d 10 l)

pub bit_put : {w w₁ : Writer} (n k : ℕ) → Puts w ((48 + n / 2 ^ k % 2) ∷ []) w₁ → Puts w (glyph_of (n / 2 ^ k % 2) ∷ []) w₁
bit_put n k f =
    let two : 0 < 2 = omega arith in
    puts_as (ap (λ (g : ℕ). g ∷ []) (sym (bit_glyph (n / 2 ^ k % 2) (mod-lt (n / 2 ^ k) two)))) f

pub bit_less : {w w₁ w₂ : Writer} {x : List ℕ} (k n : ℕ) → 0 < k → Left w x w₁ (digits_of 2 k n)
    → Puts w₁ (glyph_of (n / 2 ^ (k - 1) % 2) ∷ []) w₂ → Left w x w₂ (digits_of 2 (k - 1) n)
bit_less k n h f q = left_less (rw (digits_front 2 k n h) at f) q
