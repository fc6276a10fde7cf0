-- WHAT A BLOCK, A CODE AND A NUMBER OF TURNS CHOOSE: docs/SPECIFICATION.md, "Turns". The answers at a number of turns are those of what is chosen: heightAnswer, stripAnswer,
-- stripOnceAnswer, marksAnswer, scaleAnswer. Definitions only.
use Rattle.refusals.specs.declared.Refusal.{Refusal}
use Rattle.generator.specs.declared.Generator.{Generator}
use Rattle.settings.specs.declared.SampledTurns.{SampledTurns}
use Rattle.std.specs.Prelude.{List, ℕ, Option, None, Some, Result, Ok, Err}
use Rattle.generator.specs.Generator.{generator_of}
use Rattle.turns.specs.Turns.{turns_read, turned_of}
use Rattle.refusals.specs.declared.Refusal.TheVariants.{Turns}
use Rattle.block.specs.Refusals.{chosen_of}

-- A generator at a number of turns has its shape at that number. What is refused already stays so.
unfoldable pub chosen_at : Result Generator Refusal → Option SampledTurns → Result Generator Refusal
chosen_at (Ok g) (Some n) = Ok (generator_of (turned_of n g.shape))
chosen_at (Ok g) None = Err Turns
chosen_at (Err r) n = Err r

-- The block is tested first, then the code, then the turns.
unfoldable pub chosen_turns : List ℕ → ℕ → ℕ → Result Generator Refusal
chosen_turns block code turns = chosen_at (chosen_of block code) (turns_read turns)
