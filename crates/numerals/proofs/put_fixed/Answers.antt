-- `put_fixed` puts `fixed_of`. Assumes nothing.
use mathlib.Core.Path.{◌≡◌}
use mathlib.Core.List.{◌++◌}
use Prim.Native.Nat.{ℕ, ◌/◌, ◌^◌, min}
use lib.Dec.{ltb→lt}
use Rattle.text.specs.Text.{ascii}
use Rattle.numerals.specs.Spelled.{digits_of, decimal_of, fixed_of}
use Rattle.text.proofs.Writing.{◌⨾◌, puts_as}
use Rattle.numerals.proofs.Digits.{power_positive}
use Rattle.numerals.proofs.put_fixed.Goals as goal

fixed : (n places k w : ℕ) → k ≡ min places 19 → w ≡ 10 ^ k → decimal_of (n / w) ++ ascii "." ++ digits_of 10 k n ≡ fixed_of n places
unfolding fixed_of
fixed n places k w ek ew = rw (ew, ek)

pub nonzero_div-whole : goal.nonzero_div-whole
nonzero_div-whole c = rw c.pow.ensures (power_positive 10 _ (ltb→lt 1 10 tt))

pub returns : goal.returns
returns c = puts_as (fixed _ _ _ _ c.min-k.ensures c.pow.ensures) (c.put_decimal.ensures ⨾ c.put.ensures ⨾ c.put_digits.ensures)
