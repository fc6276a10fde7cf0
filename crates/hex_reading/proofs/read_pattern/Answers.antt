-- `read_pattern` is `read_of`: each refusal by its test. Assumes nothing.
use mathlib.Core.Path.{◌∙◌}
use borrow.Author.Tests.{eq-eqb, ne_eqb, lt-ltb, le-ltb}
use Rattle.hex_reading.specs.Reading.{prefixed, read_of}
use Rattle.hex_reading.proofs.read_pattern.Goals as goal

pub returns-then-text-lt-FEWEST : goal.returns-then-text-lt-FEWEST
unfolding read_of
returns-then-text-lt-FEWEST c = simp (lt-ltb _ _ c.if-text-lt-FEWEST.true)

pub returns-then-text-gt-MOST : goal.returns-then-text-gt-MOST
unfolding read_of
returns-then-text-gt-MOST c = simp (le-ltb _ _ c.if-text-lt-FEWEST.false, lt-ltb _ _ c.if-text-gt-MOST.true)

pub returns-then-text-ne48 : goal.returns-then-text-ne48
unfolding read_of prefixed
returns-then-text-ne48 c = simp (le-ltb _ _ c.if-text-lt-FEWEST.false, le-ltb _ _ c.if-text-gt-MOST.false, ne_eqb _ _ c.if-text-ne48.true)

pub returns-then-text-ne120 : goal.returns-then-text-ne120
unfolding read_of prefixed
returns-then-text-ne120 c =
    simp (
      le-ltb _ _ c.if-text-lt-FEWEST.false,
      le-ltb _ _ c.if-text-gt-MOST.false,
      eq-eqb _ _ c.if-text-ne48.false,
      ne_eqb _ _ c.if-text-ne120.true,
    )

pub returns : goal.returns
unfolding read_of prefixed
returns c =
    c.read_digits.ensures
    ∙ simp (
      le-ltb _ _ c.if-text-lt-FEWEST.false,
      le-ltb _ _ c.if-text-gt-MOST.false,
      eq-eqb _ _ c.if-text-ne48.false,
      eq-eqb _ _ c.if-text-ne120.false,
    )
