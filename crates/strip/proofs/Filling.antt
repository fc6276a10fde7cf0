-- FILLING A STRIP SAMPLE BY SAMPLE: the invariant of every loop, one sample more, and what is answered. Assumes nothing.
use mathlib.Core.Path.{◌≡◌, refl, sym, ap, ◌∙◌}
use mathlib.Core.List.{List}
use Prim.Native.Nat.{ℕ, zero, suc, ◌+◌, ◌*◌, ◌-◌, ◌≤◌, ◌<◌}
use native.Mathlib.Nat.{le_antisymm}
use native.Mathlib.Numerals.{add-one}
use native.Mathlib.Omega.{arith}
use lib.ListN.{length, length-set, set}
use lib.Ieee.{Float}
use Rattle.curve.specs.declared.Height.{Height}
use Rattle.generator.specs.declared.Shape.{Shape}
use Rattle.shape_heights.specs.Heights.{height_of}
use Rattle.lists.specs.Written.{written}
use Rattle.lists.proofs.Written.{written_next}
use Rattle.strip.specs.Strip.{part_of, sample_position, sample_of, filled_of, step_sum}
use Rattle.strip.proofs.Laws.{sample_steps, sum_at_most}

-- The strip has kept its length, and the first i of its n samples are written.
abbrev pub Filled : Shape → ℕ → ℕ → List Float → List Float → Type 0
Filled s n i xs ys = (length ys ≡ length xs) × (i ≤ n) × (ys ≡ filled_of s n i xs)

pub filled_none : (s : Shape) (n : ℕ) (xs : List Float) → Filled s n 0 xs xs
unfolding written
filled_none s n xs = (refl, omega arith, refl)

module _ (s : Shape) (n i : ℕ) where
  -- The height at the position of a sample; the number of the last is one less than that of all.
  pub at_position : (last : ℕ) {p : Float} {w : Height} → last ≡ n - 1 → p ≡ part_of i last → w ≡ height_of s p → w ≡ sample_of s n i
  unfolding sample_of sample_position
  at_position last e p h = simp (h, p, e)

  module _ {w : Height} (e : w ≡ sample_of s n i) where
    pub steps_small : w.steps ≤ 65535
    steps_small = rw e (sample_steps s n i)

    pub sum_next : {total : ℕ} → total ≡ step_sum s n i → total + w.steps ≡ step_sum s n (i + 1)
    unfolding step_sum
    sum_next a = simp (a, e, add-one)

  pub total_small : {total : ℕ} → total ≡ step_sum s n i → total ≤ 65535 * i
  total_small a = rw a (sum_at_most s n i)

  module _ (xs : List Float) {ys : List Float} (f : Filled s n i xs ys) where
    -- One sample more.
    pub filled_next : i < n → (last : ℕ) {p v : Float} → last ≡ n - 1 → p ≡ part_of i last → v ≡ (height_of s p).height → Filled s n (i + 1) xs (set ys i v)
    unfolding sample_of sample_position
    filled_next h last e p v = (simp length-set f.0, omega arith, written_next (λ (j : ℕ). (sample_of s n j).height) i xs f.2 (simp (v, p, e)))

    -- After the last sample the strip is filled.
    pub filled_whole : {total : ℕ} → n ≤ i → total ≡ step_sum s n i → (total ≡ step_sum s n n) × (ys ≡ filled_of s n n xs)
    filled_whole h d = (simp (d, le_antisymm f.1 h), simp (f.2, le_antisymm f.1 h))

-- Where no height takes steps their sum is 0.
pub stepless : (s : Shape) → ((t : Float) → (height_of s t).steps ≡ 0) → (n k : ℕ) → 0 ≡ step_sum s n k
unfolding step_sum sample_of
stepless s z n zero = refl
stepless s z n (suc k) = simp (z, sym (stepless s z n k))
