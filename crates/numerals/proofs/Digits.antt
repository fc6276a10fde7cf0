-- What the digits' loops need: powers that fit, one digit less, and one number of places passed. Assumes nothing.
use mathlib.Core.Path.{◌≡◌, refl}
use mathlib.Core.List.{[], ◌∷◌}
use Prim.Native.Nat.{ℕ, zero, suc, ◌+◌, ◌-◌, ◌/◌, ◌%◌, ◌^◌, ◌<◌, ◌≤◌}
use native.Mathlib.Nat.{pow-le-pow_right, one-le-pow, lt_of_le_of_lt, not-suc-le-zero}
use native.Mathlib.Numerals.{add-one}
use native.Mathlib.Omega.{arith}
use borrow.Author.Tests.{lt-ltb, le-ltb}
use lib.Dec.{ltb→lt}
use Rattle.numerals.specs.Spelled.{glyph_of, digits_of, places_from}

-- A power fits where a larger one does.
pub power_fits : (base j k m : ℕ) → 1 < base → j ≤ k → base ^ k < m → base ^ j < m
power_fits base j k m hb hj hk = let hz : 0 < base = omega arith in lt_of_le_of_lt (pow-le-pow_right hz hj) hk

pub ten_fits : (k : ℕ) → k < 20 → 10 ^ k < 2 ^ 64
ten_fits k h = power_fits 10 k 19 (2 ^ 64) (ltb→lt 1 10 tt) (omega arith) (ltb→lt (10 ^ 19) (2 ^ 64) tt)

pub power_positive : (base k : ℕ) → 1 < base → 0 < base ^ k
power_positive base k h = let hz : 0 < base = omega arith in one-le-pow k base hz

-- The digit in front, where there is one.
pub digits_front : (b k n : ℕ) → 0 < k → digits_of b k n ≡ glyph_of (n / b ^ (k - 1) % b) ∷ digits_of b (k - 1) n
unfolding digits_of
digits_front b zero n h = absurd (not-suc-le-zero h)
digits_front b (suc k) n h = let e : suc k - 1 ≡ k = omega arith in rw e

pub no_digits : (b k n : ℕ) → k ≤ 0 → digits_of b k n ≡ []
unfolding digits_of
no_digits b zero n h = refl
no_digits b (suc k) n h = absurd (not-suc-le-zero h)

-- k digits hold n, or they do not.
pub places_hold : (more k n : ℕ) → 0 < more → n < 10 ^ k → places_from more k n ≡ k
unfolding places_from
places_hold zero k n h g = absurd (not-suc-le-zero h)
places_hold (suc more) k n h g = rw (lt-ltb n (10 ^ k) g)

pub places_pass : (k n : ℕ) → k < 20 → 10 ^ k ≤ n → places_from (20 - (k + 1)) (k + 1) n ≡ places_from (20 - k) k n
unfolding places_from
places_pass k n h g = let e : 20 - k ≡ suc (20 - (k + 1)) = omega arith in rw (e, add-one k, le-ltb n (10 ^ k) g)

pub places_last : (k n : ℕ) → k ≤ 20 → 20 ≤ k → 20 ≡ places_from (20 - k) k n
unfolding places_from
places_last k n h g = let e : k ≡ 20 = omega arith in rw e
