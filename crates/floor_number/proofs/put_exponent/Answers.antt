-- `put_exponent` puts the exponent, by the field. Assumes nothing.
use Rattle.text.proofs.Writing.{puts_as}
use Rattle.floor_number.proofs.Exponents.{text_below, text_from}
use Rattle.floor_number.proofs.put_exponent.Goals as goal

pub returns-then-field-lt-ONE : goal.returns-then-field-lt-ONE
returns-then-field-lt-ONE c = puts_as (text_below _ c.if-field-lt-ONE.true) c.put_minus.ensures

pub returns : goal.returns
returns c = puts_as (text_from _ c.if-field-lt-ONE.false) c.put_decimal.ensures
