-- `glyph` is `glyph_of`. Assumes nothing.
use borrow.Author.Rules.{rules}
use borrow.Author.Tests.{lt-ltb, le-ltb}
use Rattle.numerals.specs.Spelled.{glyph_of}
use Rattle.numerals.proofs.glyph.Goals as goal

pub overflow_cast-result : goal.overflow_cast-result
unfolding glyph_of
overflow_cast-result c = search rules

pub overflow_add-result : goal.overflow_add-result
unfolding glyph_of
overflow_add-result c = search rules

pub returns-then-d-lt10 : goal.returns-then-d-lt10
unfolding glyph_of
returns-then-d-lt10 c = simp (lt-ltb _ _ c.if-d-lt10.true)

pub overflow_cast-result-2 : goal.overflow_cast-result-2
unfolding glyph_of
overflow_cast-result-2 c = search rules

pub overflow_add-result-2 : goal.overflow_add-result-2
unfolding glyph_of
overflow_add-result-2 c = search rules

pub returns : goal.returns
unfolding glyph_of
returns c = simp (le-ltb _ _ c.if-d-lt10.false)
