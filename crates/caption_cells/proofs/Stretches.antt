-- THE STRETCH OF A SEGMENT HAS JUST ITS SAMPLES: captions never go back, so that those of the segments before k are the first ones, and the samples of k follow them. Assumes nothing.
use mathlib.Core.Path.{◌≡◌, sym, ap, ◌∙◌}
use mathlib.Core.Logic.{◌⊎◌, inl, inr}
use mathlib.Core.Bool.{Bool, true, false, not, cond}
use mathlib.Core.List.{List}
use Prim.Native.Nat.{ℕ, zero, suc, ◌+◌, ◌≤◌, ◌<◌}
use native.Mathlib.Nat.{eq-or-lt_of_le, le_of_suc-le-suc, not-suc-le-zero, lt_of_le_of_lt, not-le_of_lt, lt_of_not-le, le_of_eq}
use native.Mathlib.Omega.{arith}
use lib.Dec.{T, ltb, ltb→lt, nltb→le}
use lib.ListN.{length, get_or}
use Rattle.generator.specs.declared.Shape.{Shape}
use Rattle.captions.specs.Captions.{caption_at, captions_of}
use Rattle.captions.proofs.Laws.{captions_at}
use Rattle.caption_cells.specs.Cells.{samples_before}
use Rattle.caption_cells.proofs.Rise.{captions_rise}

abbrev caption : List ℕ → ℕ → ℕ
caption captions i = get_or captions i 0

-- ---- of captions that never go back, m of the first n are below k: the first m
record First (captions : List ℕ) (k n m : ℕ) : Type 0 where
  most : m ≤ n
  those : (i : ℕ) → i < n → caption captions i < k → i < m
  others : (i : ℕ) → i < n → k ≤ caption captions i → m ≤ i

abbrev Rise : List ℕ → ℕ → Type 0
Rise captions n = (i j : ℕ) → i ≤ j → j < n → caption captions i ≤ caption captions j

all_below : (n m : ℕ) → ((i : ℕ) → i < n → i < m) → n ≤ m
all_below zero m f = omega arith
all_below (suc n) m f = f n (omega arith)

one_more : (captions : List ℕ) (k n m : ℕ) → Rise captions (suc n) → First captions k n m → (b : Bool) → (T b → caption captions n < k) → (T (not b) → k ≤ caption captions n) → First captions k (suc n) (m + cond b 1 0)
one_more captions k n m r f true below above =
    record {
      most = omega (arith, f.most);
      those = λ i l h. omega (arith, all_below n m (λ i l. f.those i l (every i (omega arith))));
      others = λ i l h. absurd (not-le_of_lt (every i l) h);
    }
  where
    every : (i : ℕ) → i < suc n → caption captions i < k
    every i l = lt_of_le_of_lt (r i n (le_of_suc-le-suc l) (omega arith)) (below tt)
one_more captions k n m r f false below above =
    record {
      most = omega (arith, f.most);
      those = λ i l h. earlier i (eq-or-lt_of_le (le_of_suc-le-suc l)) h;
      others = λ i l h. later i (eq-or-lt_of_le (le_of_suc-le-suc l)) h;
    }
  where
    earlier : (i : ℕ) → (i ≡ n) ⊎ (i < n) → caption captions i < k → i < m + 0
    earlier i (inl e) h = absurd (not-le_of_lt (rw e at h) (above tt))
    earlier i (inr l) h = omega (arith, f.those i l h)

    later : (i : ℕ) → (i ≡ n) ⊎ (i < n) → k ≤ caption captions i → m + 0 ≤ i
    later i (inl e) h = omega (arith, f.most)
    later i (inr l) h = omega (arith, f.others i l h)

first : (captions : List ℕ) (k n : ℕ) → Rise captions n → First captions k n (samples_before k captions n)
unfolding samples_before
first captions k zero r = record { most = omega arith; those = λ i l h. absurd (not-suc-le-zero l); others = λ i l h. absurd (not-suc-le-zero l) }
first captions k (suc n) r =
    one_more captions k n (samples_before k captions n) r (first captions k n (λ i j h l. r i j h (omega arith)))
    (ltb (caption captions n) k) (ltb→lt (caption captions n) k) (nltb→le (caption captions n) k)

-- ---- THE STRETCH OF SEGMENT k, in the captions of a shape's 501 samples
pub record Stretch (captions : List ℕ) (k i : ℕ) : Type 0 where
  pub of : samples_before k captions 501 ≤ i → i < samples_before (k + 1) captions 501 → get_or captions i 0 ≡ k
  pub within : get_or captions i 0 ≡ k → (samples_before k captions 501 ≤ i) × (i < samples_before (k + 1) captions 501)

pub stretch : (s : Shape) (xs : List ℕ) → length xs ≡ 501 → (k i : ℕ) → i < 501 → Stretch (captions_of s xs) k i
stretch s xs e k i l =
    record {
      of = λ a b. omega (arith, lt_of_not-le (λ h. not-le_of_lt b (g.others i l h)), lt_of_not-le (λ h. not-le_of_lt (f.those i l h) a));
      within = λ h. (f.others i l (le_of_eq (sym h)), g.those i l (rw h (omega arith)));
    }
  where
    is : (j : ℕ) → j < 501 → caption (captions_of s xs) j ≡ caption_at s 501 j
    is j h = captions_at 0 s xs (rw e (omega arith)) (rw e (omega arith)) j (rw e h) ∙ ap (λ (n : ℕ). caption_at s n j) e

    rise : Rise (captions_of s xs) 501
    rise j m h k = rw (is j (omega arith), is m k) (captions_rise s 501 j m (omega arith) (omega arith) h k)

    f : First (captions_of s xs) k 501 (samples_before k (captions_of s xs) 501)
    f = first (captions_of s xs) k 501 rise

    g : First (captions_of s xs) (k + 1) 501 (samples_before (k + 1) (captions_of s xs) 501)
    g = first (captions_of s xs) (k + 1) 501 rise
