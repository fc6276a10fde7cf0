-- THE SAMPLE THAT AN INDEX NAMES, by tests against whole numbers: where k ≤ x the number is at least k, and otherwise it is below k. Assumes nothing.
use mathlib.Core.Path.{◌≡◌, refl, sym, ap, subst}
use mathlib.Core.Bool.{Bool, true, false, cond, ◌&&◌, ◌||◌, true≢false, false≢true}
use Prim.Native.Nat.{ℕ, ◌-◌, ◌*◌, ◌/◌, ◌^◌, ◌≤◌, ◌<◌, min}
use native.Mathlib.Nat.{le-div_iff_mul-le, div-lt_iff_lt-mul, mul-pos, mul-le-mul_right}
use native.Mathlib.Omega.{arith}
use lib.Dec.{ltb, eqb, lit<}
use lib.ListN.{get_or}
use lib.IntN.{ℤ, pos}
use lib.Ieee.{Float, nan, inf, fin, up, down, of_bits, lt, eq, le, to_unsigned}
use lib.Ieee.Fits.{down_pos}
use borrow.Author.Tests.{ltb-true, ltb-false, le-ltb, eqb-true, eqb-false}
use Rattle.exact.specs.Binary32.{zero₃₂, half₃₂}
use Rattle.math.specs.Formulas.{clamp_of}
use Rattle.lfo_shapes.specs.Formula.{seven₃₂, samples, sample_of}

unfoldable pub number : Float → ℕ
number x = to_unsigned 64 (clamp_of zero₃₂ seven₃₂ x)

-- the test b says that k is at most n, where k is not 0
pub record Reaches (b : Bool) (k n : ℕ) : Type 0 where
  pub passed : b ≡ true → k ≤ n
  pub failed : b ≡ false → n < k

-- ---- a finite x that is not negative: n / d against k
either : (a b : Bool) → (a ≡ true → ⊥) → (b ≡ true → ⊥) → a || (b && true) ≡ true → ⊥
either true b h k e = h refl
either false true h k e = k refl
either false false h k e = false≢true e

neither : (a b : Bool) → a || (b && true) ≡ false → (a ≡ false) × (b ≡ false)
neither true b e = absurd (true≢false e)
neither false true e = absurd (true≢false e)
neither false false e = (refl, refl)

at_least : (n k d : ℕ) → ltb (k * d) (n * 1) || (eqb (k * d) (n * 1) && true) ≡ true → k * d ≤ n
at_least n k d e = go (ltb n (k * d)) refl
  where
    go : (t : Bool) → ltb n (k * d) ≡ t → k * d ≤ n
    go true h =
        let l = ltb-true n (k * d) h in
        absurd (either (ltb (k * d) (n * 1)) (eqb (k * d) (n * 1)) (λ a. over n (k * d) l (ltb-true (k * d) (n * 1) a)) (λ a. same n (k * d) l (eqb-true (k * d) (n * 1) a)) e)
      where
        over : (n m : ℕ) → n < m → m < n * 1 → ⊥
        over n m h k = omega arith

        same : (n m : ℕ) → n < m → m ≡ n * 1 → ⊥
        same n m h k = omega arith
    go false h = ltb-false n (k * d) h

less : (n k d : ℕ) → ltb (k * d) (n * 1) || (eqb (k * d) (n * 1) && true) ≡ false → n < k * d
less n k d e =
    let w = neither (ltb (k * d) (n * 1)) (eqb (k * d) (n * 1)) e in
    go n (k * d) (ltb-false (k * d) (n * 1) w.0) (eqb-false (k * d) (n * 1) w.1)
  where
    go : (n m : ℕ) → n * 1 ≤ m → (m ≡ n * 1 → ⊥) → n < m
    go n m h k = split (ltb n m) refl
      where
        split : (t : Bool) → ltb n m ≡ t → n < m
        split true i = ltb-true n m i
        split false i = absurd (k (let l = ltb-false n m i in omega arith))

-- its number
cut : (n : ℕ) → n ≤ 7 → min n (2 ^ 64 - 1) ≡ n
cut n h = omega arith

some : (n d k : ℕ) → 0 < d → k ≤ 7 → 0 < k → (t : Bool) → ltb (7 * 1 * d) (n * 1) ≡ t
    → Reaches (ltb (k * d) (n * 1) || (eqb (k * d) (n * 1) && true)) k (cond t 7 (min (n / d) (2 ^ 64 - 1)))
some n d k D h l true e =
    record {
      passed = λ a. h;
      failed = λ a. absurd (apart n d (k * d) (ltb-true (7 * 1 * d) (n * 1) e) (less n k d a) (mul-le-mul_right d h));
    }
  where
    apart : (n d m : ℕ) → 7 * 1 * d < n * 1 → n < m → m ≤ 7 * d → ⊥
    apart n d m a b c = omega arith
some n d k D h l false e =
    let m : n / d ≤ 7 = last (n / d) ((div-lt_iff_lt-mul D).1 (next n d D (ltb-false (7 * 1 * d) (n * 1) e))) in
    subst (λ (z : ℕ). Reaches (ltb (k * d) (n * 1) || (eqb (k * d) (n * 1) && true)) k z) (sym (cut (n / d) m))
    (record { passed = λ a. (le-div_iff_mul-le D).1 (at_least n k d a); failed = λ a. (div-lt_iff_lt-mul D).1 (less n k d a) })
  where
    next : (n d : ℕ) → 0 < d → n * 1 ≤ 7 * 1 * d → n < 8 * d
    next n d D h = omega arith

    last : (q : ℕ) → q < 8 → q ≤ 7
    last q h = omega arith

-- ---- every f32, against k = j * 2 ^ i
none : (n d : ℕ) → 0 * 1 * d ≤ n * 1
none n d = omega arith

picked : (t : Bool) (m : ℕ) (e : ℤ) → to_unsigned 64 (cond t (fin false 7 (pos 0)) (fin false m e)) ≡ cond t 7 (min (m * up e / down e) (2 ^ 64 - 1))
unfolding to_unsigned
picked true m e = refl
picked false m e = refl

below_zero : (a : Bool) (m : ℕ) (e : ℤ) → to_unsigned 64 (cond a (fin false 0 (pos 0)) (fin true m e)) ≡ 0
unfolding to_unsigned
below_zero true m e = refl
below_zero false m e = refl

no_level : (k d n : ℕ) → 0 < k → 0 < d → eqb (k * d) (n * 1) && eqb (k * d) 0 ≡ true → ⊥
no_level k d n p D h = go (eqb (k * d) (n * 1)) (eqb (k * d) 0) (eqb-true (k * d) 0) h
  where
    go : (a b : Bool) → (b ≡ true → k * d ≡ 0) → a && b ≡ true → ⊥
    go true true g h = pos_not (mul-pos p D) (g refl)
      where
        pos_not : {m : ℕ} → 0 < m → m ≡ 0 → ⊥
        pos_not l e = omega arith
    go true false g h = false≢true h
    go false b g h = false≢true h

pub number_below : (m : ℕ) (e : ℤ) → number (fin true m e) ≡ 0
unfolding number clamp_of lt of_bits
number_below m e = below_zero (lt (fin true m e) zero₃₂) m e

pub number_is : (m : ℕ) (e : ℤ) → number (fin false m e) ≡ cond (ltb (7 * 1 * down e) (m * up e * 1)) 7 (min (m * up e / down e) (2 ^ 64 - 1))
unfolding number clamp_of lt of_bits
number_is m e = simp (le-ltb (m * up e * 1) (0 * 1 * down e) (none (m * up e) (down e))) (picked (ltb (7 * 1 * down e) (m * up e * 1)) m e)

pub reaches : (j i : ℕ) (x : Float) → 0 < j * 2 ^ i → j * 2 ^ i ≤ 7 → Reaches (le (fin false j (pos i)) x) (j * 2 ^ i) (number x)
unfolding le lt eq number clamp_of to_unsigned of_bits
reaches j i nan p h = record { passed = λ a. absurd (false≢true a); failed = λ a. p }
reaches j i (inf true) p h = record { passed = λ a. absurd (false≢true a); failed = λ a. p }
reaches j i (inf false) p h = record { passed = λ a. h; failed = λ a. absurd (true≢false a) }
reaches j i (fin true m e) p h =
    record {
      passed = λ a. absurd (no_level (j * 2 ^ i) (down e) (m * up e) p (down_pos e) a);
      failed = λ a. subst (λ (n : ℕ). n < j * 2 ^ i) (sym (number_below m e)) p;
    }
reaches j i (fin false m e) p h =
    subst (Reaches (le (fin false j (pos i)) (fin false m e)) (j * 2 ^ i)) (sym (number_is m e))
    (some (m * up e) (down e) (j * 2 ^ i) (down_pos e) h p (ltb (7 * 1 * down e) (m * up e * 1)) refl)

-- ---- the sample, by its number
pub named : (x : Float) (k : ℕ) → number x ≡ k → get_or samples k half₃₂ ≡ sample_of x
unfolding sample_of number
named x k e = ap (λ (n : ℕ). get_or samples n half₃₂) (sym e)

pub seven_most : (x : Float) → number x < 8
unfolding number clamp_of to_unsigned lt of_bits
seven_most nan = lit< tt
seven_most (inf true) = lit< tt
seven_most (inf false) = lit< tt
seven_most (fin true m e) = subst (λ (n : ℕ). n < 8) (sym (number_below m e)) (lit< tt)
seven_most (fin false m e) = subst (λ (n : ℕ). n < 8) (sym (number_is m e)) (go (ltb (7 * 1 * down e) (m * up e * 1)) refl)
  where
    go : (t : Bool) → ltb (7 * 1 * down e) (m * up e * 1) ≡ t → cond t 7 (min (m * up e / down e) (2 ^ 64 - 1)) < 8
    go true h = lit< tt
    go false h = within (m * up e / down e) ((div-lt_iff_lt-mul (down_pos e)).1 (next (m * up e) (down e) (down_pos e) (ltb-false (7 * 1 * down e) (m * up e * 1) h)))
      where
        next : (n d : ℕ) → 0 < d → n * 1 ≤ 7 * 1 * d → n < 8 * d
        next n d D h = omega arith

        within : (q : ℕ) → q < 8 → min q (2 ^ 64 - 1) < 8
        within q h = omega arith
