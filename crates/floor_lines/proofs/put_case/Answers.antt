-- `put_case` puts `case_text`, by the field. Assumes nothing.
use Rattle.text.proofs.Writing.{puts_as}
use Rattle.floor_lines.proofs.Cases.{small_case, cut_case, large_case}
use Rattle.floor_lines.proofs.put_case.Goals as goal

pub returns-then-field-lt-ONE : goal.returns-then-field-lt-ONE
returns-then-field-lt-ONE c = puts_as (small_case _ c.if-field-lt-ONE.true) c.put_small.ensures

pub returns-then-field-lt-WHOLE : goal.returns-then-field-lt-WHOLE
returns-then-field-lt-WHOLE c = puts_as (cut_case _ c.if-field-lt-ONE.false c.if-field-lt-WHOLE.true) c.put_cut.ensures

pub returns : goal.returns
returns c = puts_as (large_case _ c.if-field-lt-WHOLE.false) c.put_large.ensures
