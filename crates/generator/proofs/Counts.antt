-- HOW MANY MARKS THERE ARE: at most eight of any shape; of an LFO one of one turn, six of six, eight of eight. Assumes nothing.
use mathlib.Core.Path.{◌≡◌, ap, ◌∙◌}
use Prim.Native.Nat.{ℕ, ◌≤◌}
use lib.Ieee.{Float}
use Rattle.exact.specs.Binary32.{bits, one₃₂}
use Rattle.settings.specs.declared.Lfo.{Lfo}
use Rattle.marks.specs.Marks.{max_marks, stored, cycles_of}
use Rattle.marks.proofs.Stored.{stored_at_most}
use Rattle.marks.proofs.Counts.{one_cycle, six_cycles, eight_cycles}
use Rattle.generator.specs.declared.Shape.{Shape}
use Rattle.generator.specs.declared.Shape.TheVariants.{Lfo as AnLfo}
use Rattle.generator.specs.Generator.{mark_list, marks_of}

pub marks_at_most : (s : Shape) → (marks_of s).count ≤ max_marks
unfolding marks_of
marks_at_most s = stored_at_most (mark_list s)

-- The marks of an LFO are counted by its turns alone.
count_of_turns : (l : Lfo) (turns : Float) (n : ℕ) → (stored (cycles_of turns)).count ≡ n → l.turns ≡ turns → (marks_of (AnLfo l)).count ≡ n
unfolding marks_of mark_list
count_of_turns l turns n h e = ap (λ (x : Float). (stored (cycles_of x)).count) e ∙ h

pub one_turn : (l : Lfo) → l.turns ≡ one₃₂ → (marks_of (AnLfo l)).count ≡ 1
one_turn l e = count_of_turns l one₃₂ 1 one_cycle e

pub six_turns : (l : Lfo) → l.turns ≡ bits 0x40c0_0000 → (marks_of (AnLfo l)).count ≡ 6
six_turns l e = count_of_turns l (bits 0x40c0_0000) 6 six_cycles e

pub eight_turns : (l : Lfo) → l.turns ≡ bits 0x4100_0000 → (marks_of (AnLfo l)).count ≡ 8
eight_turns l e = count_of_turns l (bits 0x4100_0000) 8 eight_cycles e
