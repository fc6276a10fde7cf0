-- THE CAPTIONS AS THEY WERE, AND THE LIST OF THOSE THAT CHANGED: docs/SPECIFICATION.md, "Captions". Definitions only.
use Rattle.std.specs.Prelude.{cond, ◌&&◌, List, ℕ, eqb}
use Rattle.generator.specs.declared.Shape.{Shape}
use Rattle.marks.specs.declared.Segment.TheVariants.{Attack, Decay, Sustain}
use Rattle.marks.specs.declared.Mark.{Mark}
use Rattle.marks.specs.Marks.{segment_number}
use Rattle.captions.specs.Captions.{caption_of, caption_by}

-- The rule before: C2 won over C1, and sample 0 was the attack.
unfoldable pub former_of : List Mark → ℕ → ℕ → ℕ
former_of ms n i = cond (eqb i 0) (segment_number Attack) (caption_of ms n i)

abbrev pub former_at : Shape → ℕ → ℕ → ℕ
former_at s n i = caption_by former_of s n i

-- What sample i of an envelope of attack byte a and decay byte d has become, of what it was. Sample 0 changed where a is 0: it is the decay if d isn't 0, and the sustain if it is. Every other is as it was.
unfoldable pub changed_caption : ℕ → ℕ → ℕ → ℕ → ℕ
changed_caption a d i former = cond (eqb i 0 && eqb a 0) (cond (eqb d 0) (segment_number Sustain) (segment_number Decay)) former
