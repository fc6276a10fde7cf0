-- `bend` reads the chart at the place of its byte, row by row. Assumes nothing.
use native.Mathlib.Omega.{arith}
use Rattle.lists.proofs.Passed.{Passed, passed}
use Rattle.bends.proofs.Entries.{at_its_place}
use borrow.Author.Rules.{rules}
use Rattle.bend.proofs.bend.Goals as goal

pub chart-rows-requires : goal.chart-rows-requires
unfolding Passed
chart-rows-requires c = search rules

pub bounds-rows-0 : goal.bounds-rows-0
unfolding Passed
bounds-rows-0 c = search rules

pub in_row-requires : goal.in_row-requires
unfolding Passed
in_row-requires c = search rules

pub bounds-rows-1 : goal.bounds-rows-1
unfolding Passed
bounds-rows-1 c = search rules

pub in_row-requires-in-1 : goal.in_row-requires-in-1
unfolding Passed
in_row-requires-in-1 c = search rules

pub bounds-rows-2 : goal.bounds-rows-2
unfolding Passed
bounds-rows-2 c = search rules

pub in_row-requires-in-2 : goal.in_row-requires-in-2
unfolding Passed
in_row-requires-in-2 c = search rules

pub bounds-rows-3 : goal.bounds-rows-3
unfolding Passed
bounds-rows-3 c = search rules

pub in_row-requires-in-3 : goal.in_row-requires-in-3
unfolding Passed
in_row-requires-in-3 c = search rules

pub bounds-rows-4 : goal.bounds-rows-4
unfolding Passed
bounds-rows-4 c = search rules

pub in_row-requires-in-4 : goal.in_row-requires-in-4
unfolding Passed
in_row-requires-in-4 c = search rules

pub bounds-rows-5 : goal.bounds-rows-5
unfolding Passed
bounds-rows-5 c = search rules

pub in_row-requires-in-5 : goal.in_row-requires-in-5
unfolding Passed
in_row-requires-in-5 c = search rules

pub bounds-rows-6 : goal.bounds-rows-6
unfolding Passed
bounds-rows-6 c = search rules

pub in_row-requires-in-6 : goal.in_row-requires-in-6
unfolding Passed
in_row-requires-in-6 c = search rules

pub bounds-rows-7 : goal.bounds-rows-7
unfolding Passed
bounds-rows-7 c = search rules

pub in_row-requires-in-7 : goal.in_row-requires-in-7
unfolding Passed
in_row-requires-in-7 c = search rules

pub bounds-rows-8 : goal.bounds-rows-8
unfolding Passed
bounds-rows-8 c = search rules

pub in_row-requires-in-8 : goal.in_row-requires-in-8
unfolding Passed
in_row-requires-in-8 c = search rules

pub bounds-rows-9 : goal.bounds-rows-9
unfolding Passed
bounds-rows-9 c = search rules

pub in_row-requires-in-9 : goal.in_row-requires-in-9
unfolding Passed
in_row-requires-in-9 c = search rules

pub bounds-rows-10 : goal.bounds-rows-10
unfolding Passed
bounds-rows-10 c = search rules

pub in_row-requires-in-10 : goal.in_row-requires-in-10
unfolding Passed
in_row-requires-in-10 c = search rules

pub bounds-rows-11 : goal.bounds-rows-11
unfolding Passed
bounds-rows-11 c = search rules

pub in_row-requires-in-11 : goal.in_row-requires-in-11
unfolding Passed
in_row-requires-in-11 c = search rules

pub bounds-rows-12 : goal.bounds-rows-12
unfolding Passed
bounds-rows-12 c = search rules

pub in_row-requires-in-12 : goal.in_row-requires-in-12
unfolding Passed
in_row-requires-in-12 c = search rules

pub bounds-rows-13 : goal.bounds-rows-13
unfolding Passed
bounds-rows-13 c = search rules

pub in_row-requires-in-13 : goal.in_row-requires-in-13
unfolding Passed
in_row-requires-in-13 c = search rules

pub bounds-rows-14 : goal.bounds-rows-14
unfolding Passed
bounds-rows-14 c = search rules

pub in_row-requires-in-14 : goal.in_row-requires-in-14
unfolding Passed
in_row-requires-in-14 c = search rules

pub bounds-rows-15 : goal.bounds-rows-15
unfolding Passed
bounds-rows-15 c = search rules

pub in_row-requires-in_default : goal.in_row-requires-in_default
unfolding Passed
in_row-requires-in_default c = search rules

pub returns-in-0 : goal.returns-in-0
unfolding Passed
returns-in-0 c = at_its_place 0 _ c.chart-rows.ensures (search rules) c.in-0.is c.in_row.ensures

pub returns-in-1 : goal.returns-in-1
unfolding Passed
returns-in-1 c = at_its_place 1 _ c.chart-rows.ensures (search rules) c.in-1.is c.in_row-in-1.ensures

pub returns-in-2 : goal.returns-in-2
unfolding Passed
returns-in-2 c = at_its_place 2 _ c.chart-rows.ensures (search rules) c.in-2.is c.in_row-in-2.ensures

pub returns-in-3 : goal.returns-in-3
unfolding Passed
returns-in-3 c = at_its_place 3 _ c.chart-rows.ensures (search rules) c.in-3.is c.in_row-in-3.ensures

pub returns-in-4 : goal.returns-in-4
unfolding Passed
returns-in-4 c = at_its_place 4 _ c.chart-rows.ensures (search rules) c.in-4.is c.in_row-in-4.ensures

pub returns-in-5 : goal.returns-in-5
unfolding Passed
returns-in-5 c = at_its_place 5 _ c.chart-rows.ensures (search rules) c.in-5.is c.in_row-in-5.ensures

pub returns-in-6 : goal.returns-in-6
unfolding Passed
returns-in-6 c = at_its_place 6 _ c.chart-rows.ensures (search rules) c.in-6.is c.in_row-in-6.ensures

pub returns-in-7 : goal.returns-in-7
unfolding Passed
returns-in-7 c = at_its_place 7 _ c.chart-rows.ensures (search rules) c.in-7.is c.in_row-in-7.ensures

pub returns-in-8 : goal.returns-in-8
unfolding Passed
returns-in-8 c = at_its_place 8 _ c.chart-rows.ensures (search rules) c.in-8.is c.in_row-in-8.ensures

pub returns-in-9 : goal.returns-in-9
unfolding Passed
returns-in-9 c = at_its_place 9 _ c.chart-rows.ensures (search rules) c.in-9.is c.in_row-in-9.ensures

pub returns-in-10 : goal.returns-in-10
unfolding Passed
returns-in-10 c = at_its_place 10 _ c.chart-rows.ensures (search rules) c.in-10.is c.in_row-in-10.ensures

pub returns-in-11 : goal.returns-in-11
unfolding Passed
returns-in-11 c = at_its_place 11 _ c.chart-rows.ensures (search rules) c.in-11.is c.in_row-in-11.ensures

pub returns-in-12 : goal.returns-in-12
unfolding Passed
returns-in-12 c = at_its_place 12 _ c.chart-rows.ensures (search rules) c.in-12.is c.in_row-in-12.ensures

pub returns-in-13 : goal.returns-in-13
unfolding Passed
returns-in-13 c = at_its_place 13 _ c.chart-rows.ensures (search rules) c.in-13.is c.in_row-in-13.ensures

pub returns-in-14 : goal.returns-in-14
unfolding Passed
returns-in-14 c = at_its_place 14 _ c.chart-rows.ensures (search rules) c.in-14.is c.in_row-in-14.ensures

pub returns-in_default : goal.returns-in_default
unfolding Passed
returns-in_default c = at_its_place 15 _ c.chart-rows.ensures (search rules) (omega (arith, passed 15 c.in_default.in_default-own.rest)) c.in_row-in_default.ensures
