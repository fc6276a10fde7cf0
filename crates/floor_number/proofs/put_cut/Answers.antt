-- `put_cut` puts the floor by its digits: not below 0, below 0 with no bit lost, and with one. Assumes nothing.
use native.Mathlib.Omega.{arith}
use Rattle.text.proofs.Writing.{puts_as}
use Rattle.bit_fields.proofs.Bits.{shifted_pos}
use Rattle.floor_number.proofs.Numbers.{size_fits, more_fits, plus_text, minus_text, down_text}
use Rattle.floor_number.proofs.put_cut.Goals as goal

pub nonzero_div-size : goal.nonzero_div-size
nonzero_div-size c = shifted_pos _ (omega arith)

pub overflow_cast-size : goal.overflow_cast-size
overflow_cast-size c = record { fits = size_fits _ _ }

pub returns-then-b-lt-SIGN : goal.returns-then-b-lt-SIGN
returns-then-b-lt-SIGN c =
    let g = c.requires in
    puts_as (plus_text _ _ g.0 g.1 g.2 c.if-b-lt-SIGN.true) c.put_decimal.ensures

pub nonzero_rem-b : goal.nonzero_rem-b
nonzero_rem-b c = shifted_pos _ (omega arith)

pub overflow_cast-size-then-b-one-eq0 : goal.overflow_cast-size-then-b-one-eq0
overflow_cast-size-then-b-one-eq0 c = record { fits = size_fits _ _ }

pub returns-then-b-one-eq0 : goal.returns-then-b-one-eq0
returns-then-b-one-eq0 c =
    let g = c.requires in
    puts_as (minus_text _ _ g.0 g.1 g.2 c.if-b-lt-SIGN.false c.if-b-one-eq0.true) c.put_minus.ensures

pub overflow_cast-size-2 : goal.overflow_cast-size-2
overflow_cast-size-2 c = record { fits = size_fits _ _ }

pub overflow_add-size-2 : goal.overflow_add-size-2
overflow_add-size-2 c = record { fits = more_fits _ _ }

pub returns : goal.returns
returns c =
    let g = c.requires in
    let z = c.if-b-one-eq0.false in
    puts_as (down_text _ _ g.0 g.1 g.2 c.if-b-lt-SIGN.false (omega arith)) c.put_minus-2.ensures
