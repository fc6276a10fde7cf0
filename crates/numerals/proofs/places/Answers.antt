use mathlib.Core.Path.{sym, ◌∙◌}
use native.Mathlib.Omega.{arith}
use borrow.Author.Rules.{rules}
use Rattle.numerals.proofs.Digits.{places_hold, places_pass, places_last}
use Rattle.numerals.proofs.places.Goals as goal

pub returns-then-n-pow : goal.returns-then-n-pow
returns-then-n-pow c = (sym (places_hold _ _ _ (omega arith) (rw c.pow.ensures at c.if-n-pow.true)) ∙ c.loop-k.invariant, search rules, search rules)

pub loop-k-preserved : goal.loop-k-preserved
loop-k-preserved c = places_pass _ _ c.loop-k-test.true (rw c.pow.ensures at c.if-n-pow.false) ∙ c.loop-k.invariant

pub returns : goal.returns
returns c = (places_last _ _ (omega arith) c.loop-k-test.false ∙ c.loop-k.invariant, search rules, search rules)
