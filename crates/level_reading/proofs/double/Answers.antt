use Prim.Native.Nat.{◌-◌, ◌≤◌, ◌<◌}
use native.Mathlib.Omega.{arith}
use Rattle.level_reading.proofs.Doubling.{none_doubled, one_doubled, all_doubled}
use Rattle.level_reading.proofs.double.Goals as goal

pub loop-i-init : goal.loop-i-init
loop-i-init c = none_doubled _ c.requires

pub overflow_sub-twice : goal.overflow_sub-twice
overflow_sub-twice c = let l = c.loop-i in omega (arith, l.invariant.digits (l.i - 1) (omega arith))

pub overflow_mul-twice : goal.overflow_mul-twice
overflow_mul-twice c = let l = c.loop-i in omega (arith, l.invariant.digits (l.i - 1) (omega arith))

pub overflow_add-twice : goal.overflow_add-twice
overflow_add-twice c = let l = c.loop-i in omega (arith, l.invariant.digits (l.i - 1) (omega arith))

pub loop-i-preserved : goal.loop-i-preserved
loop-i-preserved c =
    let l = c.loop-i in
    let h : 0 < l.i = omega arith in
    one_doubled _ _ _ _ h l.invariant

pub returns : goal.returns
returns c =
    let l = c.loop-i in
    let h : l.i ≤ 0 = omega arith in
    all_doubled _ _ _ _ h l.invariant
