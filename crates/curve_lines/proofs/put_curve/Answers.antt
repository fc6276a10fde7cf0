-- `put_curve` puts `curve_text`, by the answer. Assumes nothing.
use Rattle.curve_lines.specs.Lines.{curve_text}
use Rattle.curve_lines.proofs.put_curve.Goals as goal

pub returns-in-Ok : goal.returns-in-Ok
unfolding curve_text
returns-in-Ok c = rw c.in-Ok.is c.put_search.ensures

pub returns-in-Err : goal.returns-in-Err
unfolding curve_text
returns-in-Err c = rw c.in-Err.is (rw c.refusal_number.ensures at c.put_number.ensures)
