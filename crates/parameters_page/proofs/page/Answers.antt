-- `page` puts `parameters_text`, and answers `page_answer`: nothing, and a refusal, where the length is another. Assumes nothing.
use borrow.Author.Tests.{ne_eqb}
use Rattle.text.proofs.Writing.{puts_none}
use Rattle.parameters_page.specs.ParametersPage.{parameters_text, page_answer}
use Rattle.parameters_page.proofs.page.Goals as goal

pub returns-then-block-clause-text : goal.returns-then-block-clause-text
unfolding parameters_text
returns-then-block-clause-text c = simp (ne_eqb _ _ c.if-block.true) (puts_none _)

pub returns-then-block-clause-answer : goal.returns-then-block-clause-answer
unfolding page_answer
returns-then-block-clause-answer c = simp (ne_eqb _ _ c.if-block.true)

pub returns-clause-text : goal.returns-clause-text
unfolding parameters_text
returns-clause-text c = simp c.if-block.false c.put_page.ensures

pub returns-clause-answer : goal.returns-clause-answer
unfolding page_answer
returns-clause-answer c = simp c.if-block.false
