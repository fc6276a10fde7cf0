-- `from` is `lfo_shape_of`: an arm for each shape, and one for the bytes that name none. Assumes nothing.
use borrow.Author.Tests.{ne_eqb}
use Rattle.settings.specs.Settings.{lfo_shape_of}
use Rattle.settings.proofs.LfoShapeFromU8.from.Goals as goal

pub returns-in-0 : goal.returns-in-0
unfolding lfo_shape_of
returns-in-0 c = simp c.in-0.is

pub returns-in-1 : goal.returns-in-1
unfolding lfo_shape_of
returns-in-1 c = simp c.in-1.is

pub returns-in-2 : goal.returns-in-2
unfolding lfo_shape_of
returns-in-2 c = simp c.in-2.is

pub returns-in-3 : goal.returns-in-3
unfolding lfo_shape_of
returns-in-3 c = simp c.in-3.is

pub returns-in-4 : goal.returns-in-4
unfolding lfo_shape_of
returns-in-4 c = simp c.in-4.is

pub returns-in-5 : goal.returns-in-5
unfolding lfo_shape_of
returns-in-5 c = simp c.in-5.is

pub returns-in-6 : goal.returns-in-6
unfolding lfo_shape_of
returns-in-6 c = simp c.in-6.is

pub returns-in-7-to-255 : goal.returns-in-7-to-255
unfolding lfo_shape_of
returns-in-7-to-255 c =
    simp (
      ne_eqb _ _ c.in-7-to-255.in-7-to-255-own.rest.0.0.0.0.0.1,
      ne_eqb _ _ c.in-7-to-255.in-7-to-255-own.rest.0.0.0.0.1,
      ne_eqb _ _ c.in-7-to-255.in-7-to-255-own.rest.0.0.0.1,
      ne_eqb _ _ c.in-7-to-255.in-7-to-255-own.rest.0.0.1,
      ne_eqb _ _ c.in-7-to-255.in-7-to-255-own.rest.0.1,
      ne_eqb _ _ c.in-7-to-255.in-7-to-255-own.rest.1,
    )
