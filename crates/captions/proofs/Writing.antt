-- WRITING CAPTIONS: the caption of a sample by the number of the last one, and what is answered. Assumes nothing.
use mathlib.Core.Path.{◌≡◌, ap, ◌∙◌}
use mathlib.Core.Bool.{true, false}
use mathlib.Core.List.{List}
use Prim.Native.Nat.{ℕ, ◌+◌, ◌-◌, ◌≤◌}
use native.Mathlib.Omega.{arith}
use lib.ListN.{length}
use Rattle.generator.specs.declared.Shape.{Shape}
use Rattle.strip.specs.Strip.{length_fits}
use Rattle.lists.specs.Written.{written}
use Rattle.std.specs.Prelude.{Ok, Err}
use Rattle.captions.specs.Captions.{caption_at, answer_of, captions_of}

-- The number of the last sample is one less than that of all.
pub caption_here : (s : Shape) (n i last : ℕ) {w : ℕ} → 1 ≤ n → last ≡ n - 1 → w ≡ caption_at s (last + 1) i → w ≡ caption_at s n i
caption_here s n i last h e a =
    let m : last + 1 ≡ n = omega arith in
    a ∙ ap (λ (k : ℕ). caption_at s k i) m

-- ---- the answer, and what the slice holds, by the length
pub refused : (s : Shape) (xs : List ℕ) → length_fits (length xs) ≡ false → (Err (record {}) ≡ answer_of (length xs)) × (xs ≡ captions_of s xs)
unfolding answer_of captions_of
refused s xs h = (simp h, simp h)

pub accepted : (s : Shape) (xs : List ℕ) {ys : List ℕ} → length_fits (length xs) ≡ true → ys ≡ written (caption_at s (length xs)) (length xs) xs → (Ok tt ≡ answer_of (length xs)) × (ys ≡ captions_of s xs)
unfolding answer_of captions_of
accepted s xs h r = (simp h, simp (h, r))
