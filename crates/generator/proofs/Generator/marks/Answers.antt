-- `marks` is `marks_of` of the shape. Assumes nothing.
use mathlib.Core.List.{[]}
use borrow.Author.Rules.{rules}
use Rattle.marks.specs.Marks.{no_marks}
use Rattle.marks.proofs.Stored.{push_more, push_list}
use Rattle.generator.specs.Generator.{marks_of, mark_list}
use Rattle.generator.proofs.Generator.marks.Goals as goal

pub enum_known-shape : goal.enum_known-shape
unfolding marks_of mark_list no_marks
enum_known-shape c = search rules

pub envelope_marks-requires : goal.envelope_marks-requires
unfolding marks_of mark_list no_marks
envelope_marks-requires c = search rules

pub enum_known-shape-in-Fade-1 : goal.enum_known-shape-in-Fade-1
unfolding marks_of mark_list no_marks
enum_known-shape-in-Fade-1 c = search rules

pub fade_marks-requires : goal.fade_marks-requires
unfolding marks_of mark_list no_marks
fade_marks-requires c = search rules

pub enum_known-shape-in-Lfo-1 : goal.enum_known-shape-in-Lfo-1
unfolding marks_of mark_list no_marks
enum_known-shape-in-Lfo-1 c = search rules

pub no_marks-requires : goal.no_marks-requires
unfolding marks_of mark_list no_marks
no_marks-requires c = search rules

pub cycles-requires : goal.cycles-requires
unfolding marks_of mark_list no_marks
cycles-requires c = search rules

pub enum_told-1 : goal.enum_told-1
unfolding marks_of mark_list no_marks
enum_told-1 c = search rules

pub no_marks-requires-in-Filter : goal.no_marks-requires-in-Filter
unfolding marks_of mark_list no_marks
no_marks-requires-in-Filter c = search rules

pub push-requires : goal.push-requires
unfolding marks_of mark_list no_marks
push-requires c = search rules

pub enum_known-shape-in-Oscillator-1 : goal.enum_known-shape-in-Oscillator-1
unfolding marks_of mark_list no_marks
enum_known-shape-in-Oscillator-1 c = search rules

pub oscillator_marks-requires : goal.oscillator_marks-requires
unfolding marks_of mark_list no_marks
oscillator_marks-requires c = search rules

pub enum_told-in-Noise : goal.enum_told-in-Noise
unfolding marks_of mark_list no_marks
enum_told-in-Noise c = search rules

pub no_marks-requires-in-Noise : goal.no_marks-requires-in-Noise
unfolding marks_of mark_list no_marks
no_marks-requires-in-Noise c = search rules

pub returns-in-Envelope : goal.returns-in-Envelope
unfolding marks_of mark_list no_marks
returns-in-Envelope c = simp (c.in-Envelope.is, c.envelope_marks.ensures)

pub returns-in-Fade : goal.returns-in-Fade
unfolding marks_of mark_list no_marks
returns-in-Fade c = simp (c.in-Fade.is, c.fade_marks.ensures)

pub returns-in-Lfo : goal.returns-in-Lfo
unfolding marks_of mark_list no_marks
returns-in-Lfo c = simp c.in-Lfo.is (push_list [] _ c.no_marks.ensures c.cycles.ensures)

pub returns-in-Filter : goal.returns-in-Filter
unfolding marks_of mark_list no_marks
returns-in-Filter c = simp c.in-Filter.is (push_more [] _ c.no_marks-in-Filter.ensures c.push.ensures)

pub returns-in-Oscillator : goal.returns-in-Oscillator
unfolding marks_of mark_list no_marks
returns-in-Oscillator c = simp (c.in-Oscillator.is, c.oscillator_marks.ensures)

pub returns-in-Noise : goal.returns-in-Noise
unfolding marks_of mark_list no_marks
returns-in-Noise c = simp (c.in-Noise.is, c.no_marks-in-Noise.ensures)
