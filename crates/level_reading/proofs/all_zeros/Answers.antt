use mathlib.Core.Path.{refl, sym, ◌∙◌}
use borrow.Author.Tests.{eq-eqb, ne_eqb}
use Rattle.level_reading.proofs.Digits.{number_none, zero_passed, digit_counts}
use Rattle.level_reading.proofs.all_zeros.Goals as goal

pub loop-c-init : goal.loop-c-init
loop-c-init c = refl

pub returns-then-c-ne48 : goal.returns-then-c-ne48
returns-then-c-ne48 c =
    let h = c.loop-c-test.true in
    let l = c.loop-c in
    let d = c.requires l.c-index h in
    sym (ne_eqb _ _ (λ z. digit_counts _ _ h d.0 c.if-c-ne48.true (l.invariant ∙ z)))

pub loop-c-preserved : goal.loop-c-preserved
loop-c-preserved c = zero_passed _ _ c.loop-c-test.true c.if-c-ne48.false ∙ c.loop-c.invariant

pub returns : goal.returns
returns c = sym (eq-eqb _ _ (sym c.loop-c.invariant ∙ number_none _ _ c.loop-c-test.false))
