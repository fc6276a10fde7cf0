-- THE STRIP OF WHAT IS CHOSEN: docs/SPECIFICATION.md, "The three demands" and "Strips". Definitions only.
use Rattle.refusals.specs.declared.Refusal.{Refusal}
use Rattle.generator.specs.declared.Generator.{Generator}
use Rattle.std.specs.Prelude.{cond, List, ℕ, Float, Result, Ok, Err}
use Rattle.refusals.specs.declared.Refusal.TheVariants.{Strip}
use Rattle.strip.specs.Strip.{length_fits, steps_of, strip_of}

-- A strip of n samples: the sum of their steps, or the refusal of its length, which is the last to be looked for.
unfoldable pub strip_answer : Result Generator Refusal → ℕ → Result ℕ Refusal
strip_answer (Ok g) n = cond (length_fits n) (Ok (steps_of g.shape n)) (Err Strip)
strip_answer (Err r) n = Err r

-- What the strip holds afterwards.
unfoldable pub strip_after : Result Generator Refusal → List Float → List Float
strip_after (Ok g) before = strip_of g.shape before
strip_after (Err r) before = before
