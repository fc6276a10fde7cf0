use mathlib.Core.Path.{◌∙◌, ap}
use Prim.Native.Nat.{◌-◌}
use borrow.Author.Rules.{rules}
use lib.ListN.{get_or, set}
use Rattle.inputs.proofs.Placed.{none_put, none_divided, one_put, one_divided, all_put}
use Rattle.inputs.proofs.put_places.Goals as goal

pub loop-i-init : goal.loop-i-init
loop-i-init c = (search rules, none_divided _ _, none_put c.args.places.now c.args.bytes _)

pub loop-i-preserved : goal.loop-i-preserved
loop-i-preserved c =
    let start = c.args in
    let places = start.places.now in
    let at = c.loop-i in
    let some = c.loop-i-test.true in
    let put = c.put_at.ensures ∙ ap (set at.program (get_or places (at.i - 1) 0)) c.low_byte.ensures in
    (search rules, one_divided _ _ _ _ some at.invariant.0 at.invariant.1, one_put places at.i start.bytes at.rest start.program.now _ _ some at.invariant.0 at.invariant.1 at.invariant.2 put)

pub returns : goal.returns
returns c = all_put c.args.places.now _ _ _ _ c.loop-i-test.false c.loop-i.invariant.2
