use mathlib.Core.Path.{refl, sym, ◌∙◌}
use Prim.Native.Nat.{◌<◌}
use native.Mathlib.Omega.{arith}
use lib.ListN.{length, drop, length-drop}
use Rattle.hex_reading.proofs.Reading.{small, digit_small, digit_below, behind, read_more, read_other, read_whole}
use borrow.Author.Rules.{rules}
use Rattle.hex_reading.proofs.read_digits.Goals as goal

pub loop-c-init : goal.loop-c-init
loop-c-init c = (search rules, refl)

pub returns-in_err-d : goal.returns-in_err-d
returns-in_err-d c =
    let text = c.args.text.now in
    let h = rw (behind text) at c.loop-c-test.true in
    c.from_residual.ensures ∙ read_other _ _ _ h (rw (behind text) at (sym c.in_err-d.was ∙ c.digit.ensures)) c.loop-c.invariant.1

pub overflow_mul-value : goal.overflow_mul-value
overflow_mul-value c =
    let text = c.args.text.now in
    let h : c.loop-c.c-index < length (drop 2 text) = rw (behind text) at c.loop-c-test.true in
    let k = small _ _ c.loop-c.invariant.0 (omega (arith, length-drop 2 text)) in
    omega arith

pub overflow_add-value : goal.overflow_add-value
overflow_add-value c =
    let text = c.args.text.now in
    let h : c.loop-c.c-index < length (drop 2 text) = rw (behind text) at c.loop-c-test.true in
    let k = small _ _ c.loop-c.invariant.0 (omega (arith, length-drop 2 text)) in
    let d = digit_below _ _ (sym c.in_ok-d.was ∙ c.digit.ensures) in
    omega arith

pub loop-c-preserved : goal.loop-c-preserved
loop-c-preserved c =
    let text = c.args.text.now in
    let h = rw (behind text) at c.loop-c-test.true in
    let d = sym c.in_ok-d.was ∙ c.digit.ensures in
    (digit_small _ _ _ c.loop-c.invariant.0 (digit_below _ _ d), read_more _ _ _ h (rw (behind text) at d) c.loop-c.invariant.1)

pub returns : goal.returns
returns c =
    let text = c.args.text.now in
    read_whole _ _ _ (rw (behind text) at c.loop-c-test.false) c.loop-c.invariant.1
