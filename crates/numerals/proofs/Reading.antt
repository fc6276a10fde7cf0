-- DECIMAL DIGITS STAND FOR THEIR NUMBER: `decimal_of` of a number below 10 ^ 20 reads as that number, in the fewest digits that hold it, so with no zero in front. Assumes nothing.
use mathlib.Core.Path.{◌≡◌, refl, sym, ap, ◌∙◌}
use mathlib.Core.Bool.{Bool, true, false, cond}
use mathlib.Core.Logic.{◌⊎◌, ⊎_elim}
use Prim.Native.Nat.{ℕ, zero, suc, ◌+◌, ◌-◌, ◌*◌, ◌/◌, ◌%◌, ◌^◌, ◌<◌, ◌≤◌}
use native.Mathlib.Nat.{lt_irrefl, pow-suc, mod-lt, mod-eq_of_lt, div-add-mod', add-mul-mod_self_left, mul-le-mul_right, eq-or-lt_of_le}
use native.Mathlib.Omega.{arith}
use borrow.Author.Tests.{lt-ltb, ltb-true, ltb-false}
use lib.Dec.{ltb, ltb→lt}
use lib.ListN.{length}
use Rattle.numerals.specs.Spelled.{glyph_of, digits_of, places_from, digit_count, decimal_of, number_of}
use Rattle.numerals.proofs.Digits.{power_positive}

-- ---- k digits
digits_length : (b k n : ℕ) → length (digits_of b k n) ≡ k
unfolding digits_of
digits_length b zero n = refl
digits_length b (suc k) n = ap suc (digits_length b k n)

glyph_digit : (d : ℕ) → d < 10 → glyph_of d - 48 ≡ d
unfolding glyph_of
glyph_digit d h = rw (lt-ltb d 10 h) (omega arith)

-- the digit of m, and what is below it
split : (n m b : ℕ) → 0 < m → 0 < b → n / m % b * m + n % m ≡ n % (m * b)
split n m b hm hb =
    let q = n / m in
    let r = mod-lt n hm in
    let s = mod-lt q hb in
    let l : suc (q % b) ≤ b = s in
    let t : q % b * m + n % m < m * b = omega (arith, mul-le-mul_right m l) in
    let e : q % b * m + n % m + m * b * (q / b) ≡ n = omega (arith, div-add-mod' n m, ap (λ (x : ℕ). x * m) (div-add-mod' q b)) in
    sym (ap (λ (x : ℕ). x % (m * b)) (sym e) ∙ add-mul-mod_self_left (q % b * m + n % m) (m * b) (q / b) ∙ mod-eq_of_lt t)

digits_number : (k n : ℕ) → number_of (digits_of 10 k n) ≡ n % 10 ^ k
unfolding digits_of number_of
digits_number zero n = sym (one n)
  where
    one : (n : ℕ) → n % 1 ≡ 0
    one n = omega arith
digits_number (suc k) n =
    let ten : 0 < 10 = ltb→lt 0 10 tt in
    rw (digits_length 10 k n, digits_number k n, glyph_digit (n / 10 ^ k % 10) (mod-lt (n / 10 ^ k) ten), pow-suc 10 k)
    (split n (10 ^ k) 10 (power_positive 10 k (ltb→lt 1 10 tt)) ten)

-- ---- how many digits
places_from_lem : (more k n : ℕ) → k ≤ places_from more k n
unfolding places_from
places_from_lem zero k n = omega arith
places_from_lem (suc more) k n = go (ltb n (10 ^ k)) (places_from_lem more (suc k) n)
  where
    go : (b : Bool) → suc k ≤ places_from more (suc k) n → k ≤ cond b k (places_from more (suc k) n)
    go true h = omega arith
    go false h = omega arith

enough : (more k n : ℕ) → n < 10 ^ (k + more) → n < 10 ^ places_from more k n
unfolding places_from
enough zero k n h = let e : k + 0 ≡ k = omega arith in rw e at h
enough (suc more) k n h =
    let e : k + suc more ≡ suc k + more = omega arith in
    go (ltb n (10 ^ k)) (ltb-true n (10 ^ k)) (enough more (suc k) n (rw e at h))
  where
    go : (b : Bool) → (b ≡ true → n < 10 ^ k) → n < 10 ^ places_from more (suc k) n → n < 10 ^ cond b k (places_from more (suc k) n)
    go true f g = f refl
    go false f g = g

fewest : (more k n : ℕ) → k < places_from more k n → 10 ^ (places_from more k n - 1) ≤ n
unfolding places_from
fewest zero k n h = absurd (lt_irrefl k h)
fewest (suc more) k n h = go (ltb n (10 ^ k)) (ltb-false n (10 ^ k)) h (eq-or-lt_of_le (places_from_lem more (suc k) n)) (fewest more (suc k) n)
  where
    no : (k : ℕ) → k < k → ⊥
    no k h = omega arith

    go : (b : Bool) → (b ≡ false → 10 ^ k ≤ n) → k < cond b k (places_from more (suc k) n) → (suc k ≡ places_from more (suc k) n) ⊎ (suc k < places_from more (suc k) n)
        → (suc k < places_from more (suc k) n → 10 ^ (places_from more (suc k) n - 1) ≤ n) → 10 ^ (cond b k (places_from more (suc k) n) - 1) ≤ n
    go true f l c again = absurd (lt_irrefl k l)
    go false f l c again = ⊎_elim (λ e. let z : places_from more (suc k) n - 1 ≡ k = omega arith in rw z (f refl)) again c

-- ---- a number below 10 ^ 20
pub decimal_number : (n : ℕ) → n < 10 ^ 20 → number_of (decimal_of n) ≡ n
unfolding decimal_of
decimal_number n h = digits_number (digit_count n) n ∙ mod-eq_of_lt (enough 19 1 n h)

pub decimal_fewest : (n : ℕ) → 1 < length (decimal_of n) → 10 ^ (length (decimal_of n) - 1) ≤ n
unfolding decimal_of
decimal_fewest n h = let e = digits_length 10 (digit_count n) n in rw e (fewest 19 1 n (rw e at h))
