-- THE STRIP OF WHAT IS CHOSEN, WITH ONE WALK ALONG IT: docs/SPECIFICATION.md, "Strips". It holds afterwards what the plain engine leaves, `strip_after`. Definitions only.
use Rattle.refusals.specs.declared.Refusal.{Refusal}
use Rattle.generator.specs.declared.Generator.{Generator}
use Rattle.std.specs.Prelude.{cond, ℕ, Result, Ok, Err}
use Rattle.refusals.specs.declared.Refusal.TheVariants.{Strip}
use Rattle.strip.specs.Strip.{length_fits}
use Rattle.lfo_strip_once.specs.Once.{steps_once}

-- A strip of n samples: the steps of the one walk, or the refusal of its length, which is the last to be looked for.
unfoldable pub strip_once_answer : Result Generator Refusal → ℕ → Result ℕ Refusal
strip_once_answer (Ok g) n = cond (length_fits n) (Ok (steps_once g.shape n)) (Err Strip)
strip_once_answer (Err r) n = Err r
