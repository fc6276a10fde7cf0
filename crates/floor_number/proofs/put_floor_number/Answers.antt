-- `put_floor_number` puts `number_text`, by the field. Assumes nothing.
use Rattle.text.proofs.Writing.{puts_as, puts_none}
use Rattle.floor_number.proofs.Exponents.{number_small, number_cut, number_large}
use Rattle.floor_number.proofs.put_floor_number.Goals as goal

pub returns-then-field-lt-ONE : goal.returns-then-field-lt-ONE
returns-then-field-lt-ONE c = puts_as (number_small _ c.if-field-lt-ONE.true) c.put_small.ensures

pub returns-then-field-lt-WHOLE : goal.returns-then-field-lt-WHOLE
returns-then-field-lt-WHOLE c = puts_as (number_cut _ c.if-field-lt-ONE.false c.if-field-lt-WHOLE.true) c.put_cut.ensures

pub returns : goal.returns
returns c = puts_as (number_large _ c.if-field-lt-WHOLE.false) (puts_none _)
