-- THE MARKS OF A BLOCK AND A CODE: docs/SPECIFICATION.md, "What is offered to callers". They are a function of what the block and the code choose: those of a generator,
-- or the refusal. Definitions only.
use Rattle.std.specs.Prelude.{Result}
use Rattle.marks.specs.declared.Marks.{Marks}
use Rattle.generator.specs.declared.Generator.{Generator}
use Rattle.generator.specs.Generator.{marks_of}
use Rattle.refusals.specs.declared.Refusal.{Refusal}
use Rattle.block_choice.specs.Promises.{of_chosen}

abbrev pub marks_answer : Result Generator Refusal → Result Marks Refusal
marks_answer = of_chosen (λ g. marks_of g.shape)
