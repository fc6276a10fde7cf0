use native.Mathlib.Omega.{arith}
use borrow.Author.Tests.{ne_eqb, lt-ltb, le-ltb}
use Rattle.decimal_reading.specs.Reading.{read_of}
use Rattle.decimal_reading.proofs.Reading.{small, digit_small, read_more, read_below, read_above, read_whole}
use borrow.Author.Rules.{rules}
use Rattle.decimal_reading.proofs.read_number.Goals as goal

pub returns-then-text-eq0 : goal.returns-then-text-eq0
unfolding read_of
returns-then-text-eq0 c = simp c.if-text-eq0.true

pub returns-then-text-gt-MAX_DIGITS : goal.returns-then-text-gt-MAX_DIGITS
unfolding read_of
returns-then-text-gt-MAX_DIGITS c = simp (ne_eqb _ _ c.if-text-eq0.false, lt-ltb _ _ c.if-text-gt-MAX_DIGITS.true)

pub loop-c-init : goal.loop-c-init
unfolding read_of
loop-c-init c = (search rules, simp (ne_eqb _ _ c.if-text-eq0.false, le-ltb _ _ c.if-text-gt-MAX_DIGITS.false))

pub returns-then-c-lt48 : goal.returns-then-c-lt48
returns-then-c-lt48 c = read_below _ _ _ c.loop-c-test.true c.if-c-lt48.true _ c.loop-c.invariant.1

pub returns-then-c-gt57 : goal.returns-then-c-gt57
returns-then-c-gt57 c = read_above _ _ _ c.loop-c-test.true c.if-c-lt48.false c.if-c-gt57.true _ c.loop-c.invariant.1

pub overflow_mul-value : goal.overflow_mul-value
overflow_mul-value c = let k = small _ _ c.loop-c.invariant.0 (omega arith) in omega arith

pub overflow_cast-value : goal.overflow_cast-value
overflow_cast-value c = omega arith

pub overflow_add-value : goal.overflow_add-value
overflow_add-value c = let k = small _ _ c.loop-c.invariant.0 (omega arith) in omega arith

pub loop-c-preserved : goal.loop-c-preserved
loop-c-preserved c = (
  digit_small _ _ _ c.loop-c.invariant.0 c.if-c-gt57.false,
  read_more _ _ _ c.loop-c-test.true c.if-c-lt48.false c.if-c-gt57.false _ c.loop-c.invariant.1,
)

pub returns : goal.returns
returns c = read_whole _ _ _ _ c.loop-c-test.false c.loop-c.invariant.1
