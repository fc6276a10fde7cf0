-- `sample` is `sample_of`: the tests on the way to a sample leave one number. Assumes nothing.
use mathlib.Core.Path.{◌≡◌}
use Prim.Native.Nat.{ℕ, suc, ◌≤◌, ◌<◌, zero-le}
use native.Mathlib.Omega.{arith}
use lib.Dec.{lit<, lit≤}
use lib.Ieee.{of_bits}
use Rattle.lfo_shapes.specs.Formula.{samples}
use Rattle.lfo_shapes.proofs.Index.{number, reaches, named, seven_most}
use Rattle.lfo_shapes.proofs.sample.Goals as goal

-- from k up and below k + 1
between : (n k : ℕ) → k ≤ n → n < suc k → n ≡ k
between n k h l = omega arith

pub returns-then-index-3 : goal.returns-then-index-3
unfolding samples of_bits
returns-then-index-3 c = named _ 7 (between (number _) 7 ((reaches 7 0 _ (lit< tt) (lit≤ tt)).passed c.if-index-3.true) (seven_most _))

pub returns-then-index-2 : goal.returns-then-index-2
unfolding samples of_bits
returns-then-index-2 c = named _ 6 (between (number _) 6 ((reaches 3 1 _ (lit< tt) (lit≤ tt)).passed c.if-index-2.true) ((reaches 7 0 _ (lit< tt) (lit≤ tt)).failed c.if-index-3.false))

pub returns-then-index-4 : goal.returns-then-index-4
unfolding samples of_bits
returns-then-index-4 c = named _ 5 (between (number _) 5 ((reaches 5 0 _ (lit< tt) (lit≤ tt)).passed c.if-index-4.true) ((reaches 3 1 _ (lit< tt) (lit≤ tt)).failed c.if-index-2.false))

pub returns-then-index : goal.returns-then-index
unfolding samples of_bits
returns-then-index c = named _ 4 (between (number _) 4 ((reaches 1 2 _ (lit< tt) (lit≤ tt)).passed c.if-index.true) ((reaches 5 0 _ (lit< tt) (lit≤ tt)).failed c.if-index-4.false))

pub returns-then-index-6 : goal.returns-then-index-6
unfolding samples of_bits
returns-then-index-6 c = named _ 3 (between (number _) 3 ((reaches 3 0 _ (lit< tt) (lit≤ tt)).passed c.if-index-6.true) ((reaches 1 2 _ (lit< tt) (lit≤ tt)).failed c.if-index.false))

pub returns-then-index-5 : goal.returns-then-index-5
unfolding samples of_bits
returns-then-index-5 c = named _ 2 (between (number _) 2 ((reaches 1 1 _ (lit< tt) (lit≤ tt)).passed c.if-index-5.true) ((reaches 3 0 _ (lit< tt) (lit≤ tt)).failed c.if-index-6.false))

pub returns-then-index-7 : goal.returns-then-index-7
unfolding samples of_bits
returns-then-index-7 c = named _ 1 (between (number _) 1 ((reaches 1 0 _ (lit< tt) (lit≤ tt)).passed c.if-index-7.true) ((reaches 1 1 _ (lit< tt) (lit≤ tt)).failed c.if-index-5.false))

pub returns : goal.returns
unfolding samples of_bits
returns c = named _ 0 (between (number _) 0 zero-le ((reaches 1 0 _ (lit< tt) (lit≤ tt)).failed c.if-index-7.false))
