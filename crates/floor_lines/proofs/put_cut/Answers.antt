-- `put_cut` puts `cut_text`: its parts, one after the other. Assumes nothing.
use native.Mathlib.Nat.{mod-le}
use native.Mathlib.Omega.{arith}
use Rattle.text.proofs.Writing.{◌⨾◌, puts_as}
use Rattle.floor_lines.specs.Lines.{cut_text}
use Rattle.floor_lines.proofs.Cases.{cleared_line, set_reason}
use Rattle.floor_lines.proofs.put_cut.Goals as goal

pub overflow_sub-b : goal.overflow_sub-b
overflow_sub-b c = mod-le _ _

pub returns : goal.returns
unfolding cut_text
returns c =
    c.put_head.ensures ⨾
    c.put_cleared_reason.ensures ⨾
    puts_as (cleared_line _ _ (omega arith) _) c.put_line.ensures ⨾
    puts_as (set_reason _ c.args.k (omega arith)) c.put_step_reason.ensures ⨾
    c.put_floor.ensures
