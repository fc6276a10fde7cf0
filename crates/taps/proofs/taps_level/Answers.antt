-- `taps_level` is `taps_level_of` of all the taps that are used: a return for each number of them. Assumes nothing.
use mathlib.Core.Path.{refl}
use native.Mathlib.Omega.{arith}
use Rattle.taps.specs.Formula.{taps_level_of}
use Rattle.taps.proofs.UsedTaps.{just, all_four}
use Rattle.taps.proofs.Raised.{level_raised}
use Rattle.taps.proofs.taps_level.Goals as goal

pub returns-then-used-lt1 : goal.returns-then-used-lt1
unfolding taps_level_of
returns-then-used-lt1 c = simp (just 0 (omega arith) (omega arith) c.if-used-lt1.true)

pub returns-then-used-lt2 : goal.returns-then-used-lt2
unfolding taps_level_of
returns-then-used-lt2 c =
    let a = c.args in
    let first = level_raised a.taps a.t 0 refl c.tap_height-first.ensures in
    simp (just 1 (omega arith) c.if-used-lt1.false c.if-used-lt2.true) first

pub returns-then-used-lt3 : goal.returns-then-used-lt3
unfolding taps_level_of
returns-then-used-lt3 c =
    let a = c.args in
    let first = level_raised a.taps a.t 0 refl c.tap_height-first.ensures in
    let second = level_raised a.taps a.t 1 first c.tap_height-second.ensures in
    simp (just 2 (omega arith) c.if-used-lt2.false c.if-used-lt3.true) second

pub returns-then-used-lt4 : goal.returns-then-used-lt4
unfolding taps_level_of
returns-then-used-lt4 c =
    let a = c.args in
    let first = level_raised a.taps a.t 0 refl c.tap_height-first.ensures in
    let second = level_raised a.taps a.t 1 first c.tap_height-second.ensures in
    let third = level_raised a.taps a.t 2 second c.tap_height-third.ensures in
    simp (just 3 (omega arith) c.if-used-lt3.false c.if-used-lt4.true) third

pub returns : goal.returns
unfolding taps_level_of
returns c =
    let a = c.args in
    let first = level_raised a.taps a.t 0 refl c.tap_height-first.ensures in
    let second = level_raised a.taps a.t 1 first c.tap_height-second.ensures in
    let third = level_raised a.taps a.t 2 second c.tap_height-third.ensures in
    let fourth = level_raised a.taps a.t 3 third c.tap_height.ensures in
    simp (all_four c.if-used-lt4.false) fourth
