-- `shape_at` is `shape_at_of`. Assumes nothing.
use Rattle.lfo_shapes.specs.Formula.{ramp_up_of, shape_at_of}
use borrow.Author.Rules.{rules}
use Rattle.lfo_shapes.proofs.shape_at.Goals as goal

pub enum_told-1 : goal.enum_told-1
unfolding shape_at_of ramp_up_of
enum_told-1 c = search rules

pub lfo_sine-requires : goal.lfo_sine-requires
unfolding shape_at_of ramp_up_of
lfo_sine-requires c = search rules

pub enum_told-in-Triangle : goal.enum_told-in-Triangle
unfolding shape_at_of ramp_up_of
enum_told-in-Triangle c = search rules

pub triangle-requires : goal.triangle-requires
unfolding shape_at_of ramp_up_of
triangle-requires c = search rules

pub enum_told-in-Square : goal.enum_told-in-Square
unfolding shape_at_of ramp_up_of
enum_told-in-Square c = search rules

pub square-requires : goal.square-requires
unfolding shape_at_of ramp_up_of
square-requires c = search rules

pub enum_told-in-RampUp : goal.enum_told-in-RampUp
unfolding shape_at_of ramp_up_of
enum_told-in-RampUp c = search rules

pub wrap-requires : goal.wrap-requires
unfolding shape_at_of ramp_up_of
wrap-requires c = search rules

pub enum_told-in-RampDown : goal.enum_told-in-RampDown
unfolding shape_at_of ramp_up_of
enum_told-in-RampDown c = search rules

pub ramp_down-requires : goal.ramp_down-requires
unfolding shape_at_of ramp_up_of
ramp_down-requires c = search rules

pub enum_told-in-SampleAndHold : goal.enum_told-in-SampleAndHold
unfolding shape_at_of ramp_up_of
enum_told-in-SampleAndHold c = search rules

pub sampled-requires : goal.sampled-requires
unfolding shape_at_of ramp_up_of
sampled-requires c = search rules

pub enum_told-in-SampleAndGlide : goal.enum_told-in-SampleAndGlide
unfolding shape_at_of ramp_up_of
enum_told-in-SampleAndGlide c = search rules

pub glide-requires : goal.glide-requires
unfolding shape_at_of ramp_up_of
glide-requires c = search rules

pub returns-in-Sine : goal.returns-in-Sine
unfolding shape_at_of ramp_up_of
returns-in-Sine c = simp (c.in-Sine.is, c.lfo_sine.ensures)

pub returns-in-Triangle : goal.returns-in-Triangle
unfolding shape_at_of ramp_up_of
returns-in-Triangle c = simp (c.in-Triangle.is, c.triangle.ensures)

pub returns-in-Square : goal.returns-in-Square
unfolding shape_at_of ramp_up_of
returns-in-Square c = simp (c.in-Square.is, c.square.ensures)

pub returns-in-RampUp : goal.returns-in-RampUp
unfolding shape_at_of ramp_up_of
returns-in-RampUp c = simp (c.in-RampUp.is, c.wrap.ensures)

pub returns-in-RampDown : goal.returns-in-RampDown
unfolding shape_at_of ramp_up_of
returns-in-RampDown c = simp (c.in-RampDown.is, c.ramp_down.ensures)

pub returns-in-SampleAndHold : goal.returns-in-SampleAndHold
unfolding shape_at_of ramp_up_of
returns-in-SampleAndHold c = simp (c.in-SampleAndHold.is, c.sampled.ensures)

pub returns-in-SampleAndGlide : goal.returns-in-SampleAndGlide
unfolding shape_at_of ramp_up_of
returns-in-SampleAndGlide c = simp (c.in-SampleAndGlide.is, c.glide.ensures)
