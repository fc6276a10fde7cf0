-- `is_manual` is `is_manual`: 0, the sources that are named, and the rest. Assumes nothing.
use native.Mathlib.Nat.{le_of_suc-le-suc}
use borrow.Author.Tests.{ne_eqb, lt-ltb, le-ltb}
use Rattle.settings.proofs.is_manual.Goals as goal

pub returns-in-0 : goal.returns-in-0
returns-in-0 c = simp c.in-0.is

pub returns-in-1-to-5 : goal.returns-in-1-to-5
returns-in-1-to-5 c = simp (ne_eqb _ _ c.in-1-to-5.in_default-own.rest.1, le-ltb 5 _ (le_of_suc-le-suc c.in-1-to-5.if-source-lt6-own.true))

pub returns-in-6-to-255 : goal.returns-in-6-to-255
returns-in-6-to-255 c = simp (ne_eqb _ _ c.in-6-to-255.in_default-own.rest.1, lt-ltb 5 _ c.in-6-to-255.if-source-lt6-own.false)
