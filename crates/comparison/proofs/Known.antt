-- THE LARGEST DIFFERENCE OF TWO SHAPES' STRIPS is that of their curves. Assumes nothing.
use mathlib.Core.Path.{◌≡◌, refl, ◌∙◌}
use mathlib.Core.List.{List}
use Prim.Native.Nat.{ℕ, ◌<◌}
use native.Mathlib.Omega.{arith}
use lib.ListN.{length, replicate}
use lib.Ieee.{Float}
use Rattle.generator.specs.declared.Shape.{Shape}
use Rattle.strip.specs.Strip.{filled_of}
use Rattle.strip.proofs.Laws.{filled_at}
use Rattle.largest_difference.specs.declared.Largest.{Largest as ALargest}
use Rattle.largest_difference.specs.Largest.{compared_samples, heights_of, largest_of}
use Rattle.largest_difference.proofs.Agreeing.{same_largest}
use Rattle.comparison.specs.Differences.{curve_of}

-- A strip of comparedSamples that is filled with a shape is the shape's curve, whatever it held.
strip_curve : (s : Shape) (xs ys : List Float) → length xs ≡ compared_samples → ys ≡ filled_of s (length xs) (length xs) xs → (i : ℕ) → i < compared_samples → heights_of ys i ≡ curve_of s i
strip_curve s xs ys l e i h = rw (e, l) (filled_at s compared_samples xs i (omega arith) h)

-- What each strip held before: one number throughout.
abbrev blank : Float → List Float
blank z = replicate compared_samples z

pub known_largest : (s t : Shape) (z : Float) (a b : List Float) (l : ALargest) → a ≡ filled_of s (length (blank z)) (length (blank z)) (blank z) → b ≡ filled_of t (length (blank z)) (length (blank z)) (blank z)
    → l ≡ largest_of (heights_of a) (heights_of b) compared_samples → l ≡ largest_of (curve_of s) (curve_of t) compared_samples
known_largest s t z a b l e f k = k ∙ same_largest _ _ _ _ compared_samples (strip_curve s (blank z) a refl e) (strip_curve t (blank z) b refl f)
