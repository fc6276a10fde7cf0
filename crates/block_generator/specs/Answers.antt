-- THE REST LEVEL, THE SCALE AND THE ANCHOR OF A BLOCK AND A CODE: docs/SPECIFICATION.md, "What is offered to callers". Each is a function of what the block and the code choose: a generator's
-- formula, or the refusal. Definitions only.
use Rattle.std.specs.Prelude.{Bool, Float, Result}
use Rattle.generator.specs.declared.Generator.{Generator}
use Rattle.generator.specs.declared.Scale.{Scale}
use Rattle.generator.specs.Generator.{rest_of, anchored_of}
use Rattle.refusals.specs.declared.Refusal.{Refusal}
use Rattle.block_choice.specs.Promises.{of_chosen}

abbrev pub rest_answer : Result Generator Refusal → Result Float Refusal
rest_answer = of_chosen (λ g. rest_of g.shape)

abbrev pub scale_answer : Result Generator Refusal → Result Scale Refusal
scale_answer = of_chosen (λ g. g.scale)

abbrev pub anchored_answer : Result Generator Refusal → Result Bool Refusal
anchored_answer = of_chosen (λ g. anchored_of g.shape)
