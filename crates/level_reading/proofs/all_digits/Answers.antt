use mathlib.Core.Path.{refl, ◌∙◌}
use Rattle.level_reading.proofs.Digits.{digits_more, digits_below, digits_above, digits_whole}
use Rattle.level_reading.proofs.all_digits.Goals as goal

pub loop-c-init : goal.loop-c-init
loop-c-init c = refl

pub returns-then-c-lt48 : goal.returns-then-c-lt48
returns-then-c-lt48 c = digits_below _ _ c.loop-c-test.true c.if-c-lt48.true ∙ c.loop-c.invariant

pub returns-then-c-gt57 : goal.returns-then-c-gt57
returns-then-c-gt57 c = digits_above _ _ c.loop-c-test.true c.if-c-lt48.false c.if-c-gt57.true ∙ c.loop-c.invariant

pub loop-c-preserved : goal.loop-c-preserved
loop-c-preserved c = digits_more _ _ c.loop-c-test.true c.if-c-lt48.false c.if-c-gt57.false ∙ c.loop-c.invariant

pub returns : goal.returns
returns c = digits_whole _ _ c.loop-c-test.false ∙ c.loop-c.invariant
