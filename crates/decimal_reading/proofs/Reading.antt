-- One digit more: the number so far stays small, and what is left to read gives the same. Assumes nothing.
use mathlib.Core.Path.{◌≡◌}
use mathlib.Core.List.{List}
use Prim.Native.Nat.{ℕ, ◌+◌, ◌-◌, ◌*◌, ◌^◌, ◌<◌, ◌≤◌}
use native.Mathlib.Nat.{pow-suc, pow-le-pow_right, lt_of_lt_of_le}
use native.Mathlib.Numerals.{add-one}
use native.Mathlib.Omega.{arith}
use borrow.Author.Tests.{lt-ltb, le-ltb}
use lib.Dec.{ltb→lt}
use lib.ListN.{length, drop, get_or, drop_of_length-le}
use lib.Seq.{drop-cons}
use Rattle.std.specs.Prelude.{Option, Some, None}
use Rattle.decimal_reading.specs.Reading.{read_after}

-- Fewer than nine digits stand for a number below a hundred million.
pub small : (n i : ℕ) → n < 10 ^ i → i < 9 → n < 100000000
small n i h k = let z : 0 < 10 = ltb→lt 0 10 tt in let l : i ≤ 8 = omega arith in lt_of_lt_of_le h (pow-le-pow_right z l)

pub digit_small : (n i c : ℕ) → n < 10 ^ i → c ≤ 57 → n * 10 + (c - 48) < 10 ^ (i + 1)
digit_small n i c h k = rw (add-one i, pow-suc 10 i) (omega arith)

module _ (text : List ℕ) (i n : ℕ) (h : i < length text) where
  pub read_more : 48 ≤ get_or text i 0 → get_or text i 0 ≤ 57 → (r : Option ℕ) → read_after n (drop i text) ≡ r → read_after (n * 10 + (get_or text i 0 - 48)) (drop (i + 1) text) ≡ r
  unfolding read_after
  read_more l k r e = rw (add-one i) (rw (le-ltb (get_or text i 0) 48 l, le-ltb 57 (get_or text i 0) k) at (rw (drop-cons text i 0 h) at e))

  pub read_below : get_or text i 0 < 48 → (r : Option ℕ) → read_after n (drop i text) ≡ r → None ≡ r
  unfolding read_after
  read_below l r e = rw (lt-ltb (get_or text i 0) 48 l) at (rw (drop-cons text i 0 h) at e)

  pub read_above : 48 ≤ get_or text i 0 → 57 < get_or text i 0 → (r : Option ℕ) → read_after n (drop i text) ≡ r → None ≡ r
  unfolding read_after
  read_above l k r e = rw (le-ltb (get_or text i 0) 48 l, lt-ltb 57 (get_or text i 0) k) at (rw (drop-cons text i 0 h) at e)

pub read_whole : (text : List ℕ) (i n : ℕ) (r : Option ℕ) → length text ≤ i → read_after n (drop i text) ≡ r → Some n ≡ r
unfolding read_after
read_whole text i n r h e = rw (drop_of_length-le text h) at e
