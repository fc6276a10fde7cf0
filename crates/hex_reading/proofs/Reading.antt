-- One digit more: the number so far fits, and what is left to read gives the same. Assumes nothing.
use mathlib.Core.Path.{◌≡◌, ap}
use mathlib.Core.Bool.{Bool, true, false, cond}
use mathlib.Core.List.{List}
use Prim.Native.Nat.{ℕ, ◌+◌, ◌-◌, ◌*◌, ◌^◌, ◌<◌, ◌≤◌}
use native.Mathlib.Nat.{pow-suc, pow-le-pow_right, lt_of_lt_of_le, le_of_eq}
use native.Mathlib.Numerals.{add-one}
use native.Mathlib.Omega.{arith}
use lib.Dec.{T, ltb, ltb→lt}
use lib.ListN.{length, drop, take, get_or, drop_of_length-le, length-drop}
use lib.Seq.{drop-cons, take_all}
use Rattle.std.specs.Prelude.{Option, Some, None}
use Rattle.hex_reading.specs.Reading.{digit_of, read_after}

-- Fewer than eight digits stand for a number below 2 ^ 28.
pub small : (n i : ℕ) → n < 16 ^ i → i < 8 → n < 268435456
small n i h k = let z : 0 < 16 = ltb→lt 0 16 tt in let l : i ≤ 7 = omega arith in lt_of_lt_of_le h (pow-le-pow_right z l)

pub digit_small : (n i d : ℕ) → n < 16 ^ i → d ≤ 15 → n * 16 + d < 16 ^ (i + 1)
digit_small n i d h k = rw (add-one i, pow-suc 16 i) (omega arith)

-- ---- a digit is below 16
abbrev value : Option ℕ → ℕ
value (Some n) = n
value None = 0

pub digit_below : (c d : ℕ) → Some d ≡ digit_of c → d ≤ 15
unfolding digit_of
digit_below c d e =
    rw (ap value e) (go (ltb c 48) (ltb c 58) (ltb c 65) (ltb c 71) (ltb c 97) (ltb c 103) (ltb→lt c 58) (ltb→lt c 71) (ltb→lt c 103))
  where
    go : (t u v w x y : Bool) → (T u → c < 58) → (T w → c < 71) → (T y → c < 103)
        → value (cond t None (cond u (Some (c - 48)) (cond v None (cond w (Some (c - 55)) (cond x None (cond y (Some (c - 87)) None)))))) ≤ 15
    go true u v w x y f g h = omega arith
    go false true v w x y f g h = let l : c < 58 = f tt in omega arith
    go false false true w x y f g h = omega arith
    go false false false true x y f g h = let l : c < 71 = g tt in omega arith
    go false false false false true y f g h = omega arith
    go false false false false false true f g h = let l : c < 103 = h tt in omega arith
    go false false false false false false f g h = omega arith

-- ---- one character more
-- What is read from the third byte on.
pub behind : (text : List ℕ) → take (length text - 2) (drop 2 text) ≡ drop 2 text
behind text = take_all (length text - 2) (drop 2 text) (le_of_eq (length-drop 2 text))

module _ (text : List ℕ) (i n : ℕ) (h : i < length text) where
  pub read_more : {d : ℕ} → Some d ≡ digit_of (get_or text i 0) → {r : Option ℕ} → read_after n (drop i text) ≡ r → read_after (n * 16 + d) (drop (i + 1) text) ≡ r
  unfolding read_after
  read_more e f = rw (add-one i) (rw (read_after, ← e) at (rw (drop-cons text i 0 h) at f))

  pub read_other : None ≡ digit_of (get_or text i 0) → {r : Option ℕ} → read_after n (drop i text) ≡ r → None ≡ r
  unfolding read_after
  read_other e f = rw (read_after, ← e) at (rw (drop-cons text i 0 h) at f)

pub read_whole : (text : List ℕ) (i n : ℕ) {r : Option ℕ} → length text ≤ i → read_after n (drop i text) ≡ r → Some n ≡ r
unfolding read_after
read_whole text i n h e = rw (drop_of_length-le text h) at e
