-- `taps_of` is `taps_of`. Assumes nothing.
use mathlib.Core.Path.{refl}
use Rattle.c_taps.specs.Results.{taps_of}
use borrow.Author.Rules.{rules}
use Rattle.c_taps.proofs.taps_of.Goals as goal

pub bounds-at-0 : goal.bounds-at-0
unfolding taps_of
bounds-at-0 c = search rules

pub bounds-at-1 : goal.bounds-at-1
unfolding taps_of
bounds-at-1 c = search rules

pub bounds-at-2 : goal.bounds-at-2
unfolding taps_of
bounds-at-2 c = search rules

pub bounds-at-3 : goal.bounds-at-3
unfolding taps_of
bounds-at-3 c = search rules

pub bounds-tall-0 : goal.bounds-tall-0
unfolding taps_of
bounds-tall-0 c = search rules

pub bounds-tall-1 : goal.bounds-tall-1
unfolding taps_of
bounds-tall-1 c = search rules

pub bounds-tall-2 : goal.bounds-tall-2
unfolding taps_of
bounds-tall-2 c = search rules

pub bounds-tall-3 : goal.bounds-tall-3
unfolding taps_of
bounds-tall-3 c = search rules

pub returns : goal.returns
unfolding taps_of
returns c = refl
