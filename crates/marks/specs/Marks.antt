-- THE MARKS OF EACH FAMILY: docs/SPECIFICATION.md, "Marks, rest, scale, anchor, gates". A family's marks are a list; at most eight of it are stored. Definitions only.
use Rattle.std.specs.Prelude.{cond, List, [], ◌∷◌, ◌++◌, ℕ, zero, suc, ◌+◌, ltb, pos, set, get_or, Float}
use Rattle.std.specs.Float.{nan, binary32}
use Rattle.std.specs.Float.Ieee.{of_int, lt}
use Rattle.lists.specs.Padded.{padded}
use Rattle.exact.specs.Binary32.{◌⊕◌, ◌⊖◌, ◌⊘◌, zero₃₂, one₃₂}
use Rattle.settings.specs.declared.Envelope.{Envelope}
use Rattle.settings.specs.declared.Fade.{Fade}
use Rattle.settings.specs.declared.Oscillator.{Oscillator}
use Rattle.marks.specs.declared.Segment.{Segment}
use Rattle.marks.specs.declared.Segment.TheVariants.{Attack, Decay, Sustain, Release}
use Rattle.marks.specs.declared.MarkKind.{MarkKind}
use Rattle.marks.specs.declared.MarkKind.TheVariants.{Segment as ASegment, Corner, Cycle, Tap, Width, Sweep}
use Rattle.marks.specs.declared.Mark.{Mark}
use Rattle.marks.specs.declared.Marks.{Marks}

-- ---- the numbers of the segments and of the kinds of marks
abbrev pub segment_number : Segment → ℕ
segment_number Attack = 0
segment_number Decay = 1
segment_number Sustain = 2
segment_number Release = 3

abbrev pub kind_number : MarkKind → ℕ
kind_number (ASegment s) = segment_number s
kind_number Corner = 4
kind_number Cycle = 5
kind_number Tap = 6
kind_number Width = 7
kind_number Sweep = 8

-- ---- a record of marks
-- The places of a record.
abbrev pub max_marks : ℕ
max_marks = 8

abbrev pub mark_of : Float → MarkKind → Mark
mark_of x k = record { at = x; kind = k }

-- What every place that is not used holds: a corner at +0. It is no mark; the count says so.
abbrev pub unused : Mark
unused = mark_of zero₃₂ Corner

-- How many of a list there are, if they are at most n; otherwise n.
unfoldable pub count_of : ℕ → List Mark → ℕ
count_of zero ks = 0
count_of (suc n) [] = 0
count_of (suc n) (k ∷ ks) = suc (count_of n ks)

-- The record of a list's marks: those past the eighth are dropped.
unfoldable pub stored : List Mark → Marks
stored ks = record { places = padded unused max_marks ks; count = count_of max_marks ks }

-- The record of no marks.
unfoldable pub no_marks : Marks
no_marks = stored []

-- A record with one mark more; a full record stays as it is.
unfoldable pub pushed : Marks → Mark → Marks
pushed m k = cond (ltb m.count max_marks) (record { places = set m.places m.count k; count = m.count + 1 }) m

-- A record with a whole list more, in its order.
unfoldable pub pushed_all : Marks → List Mark → Marks
pushed_all m [] = m
pushed_all m (k ∷ ks) = pushed_all (pushed m k) ks

-- Mark number i: past the eight places, which no use reaches, an attack at a NaN.
abbrev pub mark_at : Marks → ℕ → Mark
mark_at marks i = get_or marks.places i (mark_of nan (ASegment Attack))

-- ---- the marks of each family
-- The start of each segment.
unfoldable pub envelope_marks : Envelope → List Mark
envelope_marks e = mark_of zero₃₂ (ASegment Attack) ∷ mark_of e.first (ASegment Decay) ∷ mark_of e.second (ASegment Sustain) ∷ mark_of e.third (ASegment Release) ∷ []

-- A fade rises, as an attack, and is then held.
unfoldable pub fade_marks : Fade → List Mark
fade_marks f = mark_of zero₃₂ (ASegment Attack) ∷ mark_of f.end (ASegment Sustain) ∷ []

-- The end of the c-th cycle, as a part of all the turns.
abbrev pub cycle_mark : Float → ℕ → Mark
cycle_mark turns c = mark_of (of_int binary32 (pos c) ⊘ turns) Cycle

-- The ends of the cycles from the c-th on, n of them at most, as far as the first that is above the turns. A turns of NaN is below no cycle.
unfoldable pub cycles_from : Float → ℕ → ℕ → List Mark
cycles_from turns zero c = []
cycles_from turns (suc n) c = cond (lt turns (of_int binary32 (pos c))) [] (cycle_mark turns c ∷ cycles_from turns n (suc c))

-- The cycles are counted from 1 to 255, more than are ever stored.
unfoldable pub cycles_of : Float → List Mark
cycles_of turns = cycles_from turns 255 1

-- Both ends of a pulse's sweep, where it is swept.
unfoldable pub sweep_marks : Float → Float → List Mark
sweep_marks width sweep = cond (lt zero₃₂ sweep) (mark_of (width ⊖ sweep) Sweep ∷ mark_of (width ⊕ sweep) Sweep ∷ []) []

-- A pulse's falling edge, where there is a pulse.
unfoldable pub pulse_marks : Oscillator → List Mark
pulse_marks o = cond o.pulse (mark_of o.width Width ∷ sweep_marks o.width o.sweep) []

-- The pulse's, then the end of the one cycle.
unfoldable pub oscillator_marks : Oscillator → List Mark
oscillator_marks o = pulse_marks o ++ cycles_of one₃₂
