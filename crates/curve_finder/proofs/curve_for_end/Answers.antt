use mathlib.Core.Path.{◌≡◌, refl, sym, ◌∙◌}
use mathlib.Core.Bool.{true, false}
use native.Mathlib.Omega.{arith}
use lib.Ieee.{Float}
use borrow.Author.Count.{below_more}
use borrow.Author.Rules.{rules}
use Rattle.refusals.specs.Refusals.{accepted, check_level}
use Rattle.level.specs.Level.{is_level}
use Rattle.curve_finder.proofs.curve_for_end.Goals as goal

-- a level is accepted, and what is none is refused
no_level : (w : Float) → is_level w ≡ false → 4 ≡ check_level (is_level w) accepted
unfolding check_level
no_level w e = simp e

a_level : (w : Float) → is_level w ≡ true → accepted ≡ check_level (is_level w) accepted
unfolding check_level
a_level w e = simp e

pub returns-then-not-is_level : goal.returns-then-not-is_level
returns-then-not-is_level c = record { refusal = no_level _ (sym c.is_level.ensures ∙ c.if-not-is_level.true); promised = tt }

pub loop-byte-init : goal.loop-byte-init
loop-byte-init c = (sym c.is_level.ensures ∙ c.if-not-is_level.false, λ k h e. omega arith)

pub returns-then-ends_near : goal.returns-then-ends_near
returns-then-ends_near c =
    let level = c.loop-byte.invariant.0 in
    record { refusal = a_level _ level; promised = record { byte = search rules; ends = c.ends_near.ensures.passed c.if-ends_near.true; tried = refl } }

pub loop-byte-preserved : goal.loop-byte-preserved
loop-byte-preserved c = (c.loop-byte.invariant.0, below_more _ _ c.loop-byte.invariant.1 (c.ends_near.ensures.failed c.if-ends_near.false))

pub returns-else-ends_near : goal.returns-else-ends_near
returns-else-ends_near c =
    let none = below_more _ _ c.loop-byte.invariant.1 (c.ends_near.ensures.failed c.if-ends_near.false) in
    record { refusal = a_level _ c.loop-byte.invariant.0; promised = record { none = λ k h. none k (omega arith); tried = refl } }
