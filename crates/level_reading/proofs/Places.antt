-- BINARY PLACES OUT OF DECIMAL ONES: with each doubling of the digits one place more is kept, and one less is left of
-- the 149. What is kept and what is left at the end give the bits of the number. Assumes nothing.
use mathlib.Core.Path.{◌≡◌, refl, sym, ap, ◌∙◌}
use mathlib.Core.Bool.{false}
use mathlib.Core.List.{List}
use Prim.Native.Nat.{ℕ, zero, suc, ◌+◌, ◌-◌, ◌*◌, ◌^◌, ◌≤◌, ◌<◌, compare}
use native.Mathlib.Nat.{le_refl, le_trans, not-suc-le-zero, pow-suc}
use native.Mathlib.Omega.{arith}
use lib.ListN.{length}
use lib.Ieee.{binary32, round, nearest, of_bits}
use lib.Ieee.Fits.{nearest-le}
use Rattle.numerals.specs.Spelled.{number_of}
use Rattle.level_reading.specs.Digits.{AreDigits, Doubled}
use Rattle.level_reading.proofs.RoundBits.{Leading, round_bits}
use Rattle.level_reading.proofs.Digits.{no_more, number_below}

-- The digits before, as places behind the point, are the places kept and then the digits after; so many are left.
pub record KeptPlaces (before after : List ℕ) (kept left : ℕ) : Type 0 where
  pub as_many : length after ≡ length before
  pub digits : AreDigits after
  pub small : kept < 2 ^ 24
  pub within : left ≤ 149
  pub value : number_of before * 2 ^ 149 ≡ (kept * 10 ^ length before + number_of after) * 2 ^ left

pub none_kept : (text : List ℕ) → AreDigits text → KeptPlaces text text 0 149
none_kept text h = record {
  as_many = refl;
  digits = h;
  small = omega arith;
  within = le_refl 149;
  value = ap (λ (x : ℕ). x * 2 ^ 149) (sym (no_more (10 ^ length text) (number_of text)));
}

-- k is kept, a and b are the numbers of the digits before and after a doubling, and c is carried out.
place : (k p a b c w : ℕ) → a * 2 ≡ c * p + b → (k * p + a) * (w * 2) ≡ ((k * 2 + c) * p + b) * w
place k p a b c w e = omega (arith, ap (λ (x : ℕ). x * w) e)

place_kept : (before after next : List ℕ) (kept left carry : ℕ) → kept < 2 ^ 23
    → KeptPlaces before after kept (suc left) → Doubled after next carry
    → KeptPlaces before next (kept * 2 + carry) left
place_kept before after next kept left carry h s d =
    let p = 10 ^ length before in
    let t = rw s.as_many at d.twice in
    record {
      as_many = d.as_many ∙ s.as_many;
      digits = d.digits;
      small = let l = d.carried in omega arith;
      within = let l = s.within in omega arith;
      value = s.value ∙ rw (pow-suc 2 left) (place kept p (number_of after) (number_of next) carry (2 ^ left) t);
    }

pub one_kept : (before after next : List ℕ) (kept left carry : ℕ) → 0 < left → kept < 2 ^ 23
    → KeptPlaces before after kept left → Doubled after next carry
    → KeptPlaces before next (kept * 2 + carry) (left - 1)
one_kept before after next kept zero carry l h s d = absurd (not-suc-le-zero l)
one_kept before after next kept (suc left) carry l h s d =
    let e : suc left - 1 ≡ left = omega arith in rw e (place_kept before after next kept left carry h s d)

-- ---- rounded
pub rounded_small : (text : List ℕ) (kept r : ℕ) → kept < 2 ^ 24
    → r ≡ nearest kept (compare (number_of text * 2) (10 ^ length text)) → r ≤ 2 ^ 24
rounded_small text kept r h e = rw e (le_trans (nearest-le kept (compare (number_of text * 2) (10 ^ length text))) h)

pub all_kept : (before after : List ℕ) (kept left r : ℕ) → KeptPlaces before after kept left → Leading kept left
    → r ≡ nearest kept (compare (number_of after * 2) (10 ^ length after))
    → of_bits binary32 (left * 2 ^ 23 + r) ≡ round binary32 false (number_of before) (10 ^ length before)
all_kept before after kept left r s c e =
    let p = 10 ^ length before in
    let l = rw s.as_many at (number_below after s.digits) in
    rw (e, s.as_many)
    (sym (round_bits (number_of before) p kept (number_of after) left l s.small s.within c s.value))
