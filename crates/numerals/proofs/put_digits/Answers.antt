use mathlib.Core.Path.{◌≡◌}
use mathlib.Core.List.{List, [], ◌∷◌}
use Prim.Native.Nat.{ℕ, ◌-◌, ◌/◌, ◌%◌, ◌^◌, ◌<◌}
use native.Mathlib.Omega.{arith}
use Rattle.text.specs.declared.Writer.{Writer}
use Rattle.text.specs.Text.{Puts}
use Rattle.numerals.specs.Spelled.{glyph_of, digits_of}
use Rattle.text.proofs.Writing.{Left, left_less, left_none}
use Rattle.numerals.proofs.Digits.{power_fits, power_positive, digits_front, no_digits}
use Rattle.numerals.proofs.put_digits.Goals as goal

-- One digit is put.
digit_less : {w w₁ w₂ : Writer} {x : List ℕ} {g p : ℕ} (base k n : ℕ) → 0 < k → p ≡ base ^ (k - 1) → g ≡ glyph_of (n / p % base)
    → Left w x w₁ (digits_of base k n) → Puts w₁ (g ∷ []) w₂ → Left w x w₂ (digits_of base (k - 1) n)
digit_less {g = g} base k n h ep eg f q = left_less (rw (digits_front base k n h, ← ep, ← eg) at f) q

pub pow-requires : goal.pow-requires
pow-requires c = power_fits _ _ _ _ c.requires.0 (omega arith) c.requires.2

pub nonzero_div-digit : goal.nonzero_div-digit
nonzero_div-digit c = rw c.pow.ensures (power_positive _ _ c.requires.0)

pub loop-k-preserved : goal.loop-k-preserved
loop-k-preserved c = digit_less _ _ _ c.loop-k-test.true c.pow.ensures c.glyph.ensures c.loop-k.invariant c.put_byte.ensures

pub returns : goal.returns
returns c = left_none (rw (no_digits _ _ _ c.loop-k-test.false) at c.loop-k.invariant)
