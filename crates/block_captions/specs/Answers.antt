-- THE CAPTIONS OF A BLOCK AND A CODE: docs/SPECIFICATION.md, "What is offered to callers". Definitions only.
use Rattle.refusals.specs.declared.Refusal.{Refusal}
use Rattle.generator.specs.declared.Generator.{Generator}
use Rattle.std.specs.Prelude.{List, ℕ, Result, Ok, Err}
use Rattle.captions.specs.declared.WrongLength.{WrongLength}
use Rattle.captions.specs.Captions.{answer_of as captioned, captions_of}
use Rattle.refusals.specs.declared.Refusal.TheVariants.{Strip}

-- Captions of n samples, and what their slice holds afterwards.
unfoldable pub captioned_answer : Result (Unit {0}) WrongLength → Result (Unit {0}) Refusal
captioned_answer (Ok done) = Ok tt
captioned_answer (Err wrong) = Err Strip

unfoldable pub captions_answer : Result Generator Refusal → ℕ → Result (Unit {0}) Refusal
captions_answer (Ok g) n = captioned_answer (captioned n)
captions_answer (Err r) n = Err r

unfoldable pub captions_after : Result Generator Refusal → List ℕ → List ℕ
captions_after (Ok g) before = captions_of g.shape before
captions_after (Err r) before = before
