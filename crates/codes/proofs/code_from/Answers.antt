-- `code_from` is `code_of`: an arm for each code, and one for the bytes above them. Assumes nothing.
use Rattle.codes.specs.Codes.{codes, code_in}
use Rattle.lists.proofs.Passed.{Passed, passed}
use Rattle.codes.proofs.Numbers.{code_above}
use Rattle.codes.proofs.code_from.Goals as goal

pub returns-in-0 : goal.returns-in-0
unfolding codes code_in Passed
returns-in-0 c = simp c.in-0.is

pub returns-in-1 : goal.returns-in-1
unfolding codes code_in Passed
returns-in-1 c = simp c.in-1.is

pub returns-in-2 : goal.returns-in-2
unfolding codes code_in Passed
returns-in-2 c = simp c.in-2.is

pub returns-in-3 : goal.returns-in-3
unfolding codes code_in Passed
returns-in-3 c = simp c.in-3.is

pub returns-in-4 : goal.returns-in-4
unfolding codes code_in Passed
returns-in-4 c = simp c.in-4.is

pub returns-in-5 : goal.returns-in-5
unfolding codes code_in Passed
returns-in-5 c = simp c.in-5.is

pub returns-in-6 : goal.returns-in-6
unfolding codes code_in Passed
returns-in-6 c = simp c.in-6.is

pub returns-in-7 : goal.returns-in-7
unfolding codes code_in Passed
returns-in-7 c = simp c.in-7.is

pub returns-in-8 : goal.returns-in-8
unfolding codes code_in Passed
returns-in-8 c = simp c.in-8.is

pub returns-in-9 : goal.returns-in-9
unfolding codes code_in Passed
returns-in-9 c = simp c.in-9.is

pub returns-in-10 : goal.returns-in-10
unfolding codes code_in Passed
returns-in-10 c = simp c.in-10.is

pub returns-in-11 : goal.returns-in-11
unfolding codes code_in Passed
returns-in-11 c = simp c.in-11.is

pub returns-in-12 : goal.returns-in-12
unfolding codes code_in Passed
returns-in-12 c = simp c.in-12.is

pub returns-in-13 : goal.returns-in-13
unfolding codes code_in Passed
returns-in-13 c = simp c.in-13.is

pub returns-in-14-to-255 : goal.returns-in-14-to-255
unfolding codes code_in Passed
returns-in-14-to-255 c = rw (code_above c.args.byte (passed 14 c.in-14-to-255.in-14-to-255-own.rest))
