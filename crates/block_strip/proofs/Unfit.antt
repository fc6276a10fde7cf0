-- A STRIP WHOSE LENGTH DOES NOT FIT is answered as one of no samples, and stays as it was. Assumes nothing.
use mathlib.Core.Path.{◌≡◌, refl}
use mathlib.Core.Bool.{false}
use mathlib.Core.List.{List}
use Prim.Native.Nat.{ℕ}
use lib.ListN.{length}
use lib.Ieee.{Float}
use Rattle.std.specs.Prelude.{Result, Ok, Err}
use Rattle.refusals.specs.declared.Refusal.{Refusal}
use Rattle.generator.specs.declared.Generator.{Generator}
use Rattle.strip.specs.Strip.{length_fits, strip_of}
use Rattle.block_strip.specs.Strips.{strip_answer, strip_after}

pub unfit_answer : (a : Result Generator Refusal) (n : ℕ) → length_fits n ≡ false → strip_answer a 0 ≡ strip_answer a n
unfolding strip_answer
unfit_answer (Ok g) n h = simp h
unfit_answer (Err r) n h = refl

pub unfit_after : (a : Result Generator Refusal) (xs : List Float) → length_fits (length xs) ≡ false → xs ≡ strip_after a xs
unfolding strip_after strip_of
unfit_after (Ok g) xs h = simp h
unfit_after (Err r) xs h = refl
