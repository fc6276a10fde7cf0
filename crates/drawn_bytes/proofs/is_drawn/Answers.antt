use mathlib.Core.Path.{refl, sym, ◌∙◌}
use native.Mathlib.Nat.{le_antisymm}
use borrow.Author.Tests.{eq-eqb}
use Rattle.drawn_bytes.specs.Drawn.{drawn_by, drawn}
use Rattle.drawn_bytes.proofs.Drawn.{none_yet, one_reads, of_codes}
use Rattle.drawn_bytes.proofs.is_drawn.Goals as goal

pub returns-then-n-eq-GATE_TIME : goal.returns-then-n-eq-GATE_TIME
unfolding drawn
returns-then-n-eq-GATE_TIME c = simp (eq-eqb _ _ c.if-n-eq-GATE_TIME.true)

pub loop-k-init : goal.loop-k-init
unfolding drawn_by
loop-k-init c = refl

pub returns-then-reads : goal.returns-then-reads
returns-then-reads c = of_codes _ _ c.if-n-eq-GATE_TIME.false (one_reads _ _ _ c.loop-k-test.true (sym c.reads.ensures ∙ c.if-reads.true))

pub loop-k-preserved : goal.loop-k-preserved
loop-k-preserved c = none_yet _ _ c.loop-k.invariant (sym c.reads.ensures ∙ c.if-reads.false)

pub returns : goal.returns
returns c = of_codes _ _ c.if-n-eq-GATE_TIME.false (rw (le_antisymm c.loop-k.auto.k-end c.loop-k-test.false) at c.loop-k.invariant)
