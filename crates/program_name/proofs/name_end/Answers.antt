use mathlib.Core.Path.{◌≡◌, refl, sym, ap, ◌∙◌}
use Prim.Native.Nat.{ℕ, suc, ◌+◌, ◌-◌}
use native.Mathlib.Nat.{le_antisymm}
use native.Mathlib.Numerals.{add-one}
use native.Mathlib.Omega.{arith}
use borrow.Author.Rules.{rules}
use Rattle.program_name.specs.ProgramName.{end_from, name_end}
use Rattle.program_name.proofs.NameEnd.{end_none, end_here, end_next}
use Rattle.program_name.proofs.name_end.Goals as goal

pub loop-i-init : goal.loop-i-init
unfolding name_end
loop-i-init c = refl

pub returns-then-block-i-eq0 : goal.returns-then-block-i-eq0
returns-then-block-i-eq0 c =
    let l = c.loop-i in
    (sym (end_here _ (240 - l.i) _ c.if-block-i-eq0.true) ∙ l.invariant, search rules, search rules)

pub loop-i-preserved : goal.loop-i-preserved
loop-i-preserved c =
    let i = c.loop-i.i in
    let block = c.args.block.now in
    let e : 240 - i ≡ suc (240 - (i + 1)) = omega arith in
    ap (end_from block (240 - (i + 1))) (add-one i) ∙ sym (end_next block (240 - (i + 1)) i c.if-block-i-eq0.false) ∙ ap (λ (n : ℕ). end_from block n i) (sym e) ∙ c.loop-i.invariant

pub returns : goal.returns
returns c =
    let block = c.args.block.now in
    let e = le_antisymm (c.loop-i.auto.i-end (omega arith)) c.loop-i-test.false in
    (sym (end_none block 240) ∙ (rw e at c.loop-i.invariant), search rules, search rules)
