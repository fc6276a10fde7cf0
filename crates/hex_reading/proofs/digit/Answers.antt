-- `digit` is `digit_of`: the three kinds of digits, and what lies below, between and above them. Assumes nothing.
use native.Mathlib.Omega.{arith}
use borrow.Author.Tests.{lt-ltb, le-ltb}
use Rattle.hex_reading.specs.Reading.{digit_of}
use Rattle.hex_reading.proofs.digit.Goals as goal

pub returns-in-48-to-57 : goal.returns-in-48-to-57
unfolding digit_of
returns-in-48-to-57 c = simp (le-ltb c.args.c 48 (omega arith), lt-ltb c.args.c 58 (omega arith))

pub returns-in-65-to-70 : goal.returns-in-65-to-70
unfolding digit_of
returns-in-65-to-70 c =
    simp (le-ltb c.args.c 48 (omega arith), le-ltb c.args.c 58 (omega arith), le-ltb c.args.c 65 (omega arith), lt-ltb c.args.c 71 (omega arith))

pub returns-in-97-to-102 : goal.returns-in-97-to-102
unfolding digit_of
returns-in-97-to-102 c =
    simp (
      le-ltb c.args.c 48 (omega arith),
      le-ltb c.args.c 58 (omega arith),
      le-ltb c.args.c 65 (omega arith),
      le-ltb c.args.c 71 (omega arith),
      le-ltb c.args.c 97 (omega arith),
      lt-ltb c.args.c 103 (omega arith),
    )

pub returns-in_default : goal.returns-in_default
unfolding digit_of
returns-in_default c = simp (lt-ltb c.args.c 48 (omega arith))

pub returns-in_default-2 : goal.returns-in_default-2
unfolding digit_of
returns-in_default-2 c = simp (le-ltb c.args.c 48 (omega arith), le-ltb c.args.c 58 (omega arith), lt-ltb c.args.c 65 (omega arith))

pub returns-in_default-3 : goal.returns-in_default-3
unfolding digit_of
returns-in_default-3 c =
    simp (
      le-ltb c.args.c 48 (omega arith),
      le-ltb c.args.c 58 (omega arith),
      le-ltb c.args.c 65 (omega arith),
      le-ltb c.args.c 71 (omega arith),
      lt-ltb c.args.c 97 (omega arith),
    )

pub returns-in_default-4 : goal.returns-in_default-4
unfolding digit_of
returns-in_default-4 c =
    simp (
      le-ltb c.args.c 48 (omega arith),
      le-ltb c.args.c 58 (omega arith),
      le-ltb c.args.c 65 (omega arith),
      le-ltb c.args.c 71 (omega arith),
      le-ltb c.args.c 97 (omega arith),
      le-ltb c.args.c 103 (omega arith),
    )
