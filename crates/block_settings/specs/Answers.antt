-- THE SETTINGS OF A BLOCK AND A CODE: docs/SPECIFICATION.md, "What is offered to callers". They are a function of what the block and the code choose: the shape of a
-- generator, or the refusal. Definitions only.
use Rattle.std.specs.Prelude.{Result}
use Rattle.generator.specs.declared.Generator.{Generator}
use Rattle.generator.specs.declared.Shape.{Shape}
use Rattle.refusals.specs.declared.Refusal.{Refusal}
use Rattle.block_choice.specs.Promises.{of_chosen}

abbrev pub settings_answer : Result Generator Refusal → Result Shape Refusal
settings_answer = of_chosen (λ g. g.shape)
