-- `read_level` is `level_of`: each answer by its tests. Assumes nothing.
use mathlib.Core.Path.{sym, ◌∙◌}
use Prim.Native.Nat.{◌<◌, ◌≤◌}
use native.Mathlib.Omega.{arith}
use borrow.Author.Tests.{eq-eqb, ne_eqb, le-leb, lt-leb}
use lib.ListN.{length, drop, get_or, length-drop}
use Rattle.level_reading.proofs.Levels.{from, level_empty, level_whole, level_pointed}
use Rattle.level_reading.proofs.read_level.Goals as goal

pub returns-then-text-eq0 : goal.returns-then-text-eq0
returns-then-text-eq0 c = level_empty _ c.if-text-eq0.true

pub returns-then-text-eq1 : goal.returns-then-text-eq1
returns-then-text-eq1 c =
    let text = c.args.text.now in
    rw (from 1 text) at c.read_digits.ensures ∙ level_whole text c.if-text-eq1.true

pub returns-then-text-ne46 : goal.returns-then-text-ne46
returns-then-text-ne46 c =
    let text = c.args.text.now in
    sym (level_pointed text (omega arith) ∙ rw (ne_eqb (get_or text 1 0) 46 c.if-text-ne46.true))

pub returns-then-text : goal.returns-then-text
returns-then-text c =
    let text = c.args.text.now in
    let l : 160 < length (drop 2 text) = rw (length-drop 2 text) (omega arith) in
    sym (level_pointed text (omega arith) ∙ rw (eq-eqb (get_or text 1 0) 46 c.if-text-ne46.false, lt-leb _ _ l))

pub returns : goal.returns
returns c =
    let text = c.args.text.now in
    let l : length (drop 2 text) ≤ 160 = rw (length-drop 2 text) (omega arith) in
    rw (from 2 text) at c.read_digits-2.ensures
    ∙ sym (level_pointed text (omega arith) ∙ rw (eq-eqb (get_or text 1 0) 46 c.if-text-ne46.false, le-leb _ _ l))
