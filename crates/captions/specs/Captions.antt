-- THE CAPTIONS OF A SHAPE'S SAMPLES: docs/SPECIFICATION.md, "Captions". Definitions only.
use Rattle.std.specs.Prelude.{cond, Result, Ok, Err, List, [], ◌∷◌, ℕ, length, Float}
use Rattle.std.specs.Float.Ieee.{le}
use Rattle.generator.specs.declared.Shape.{Shape}
use Rattle.generator.specs.declared.Shape.TheVariants.{Envelope as AnEnvelope, Fade as AFade, Lfo as AnLfo, Filter as AFilter, Oscillator as AnOscillator, Noise as ANoise}
use Rattle.marks.specs.declared.Segment.TheVariants.{Attack}
use Rattle.marks.specs.declared.MarkKind.{MarkKind}
use Rattle.marks.specs.declared.MarkKind.TheVariants.{Segment as ASegment, Corner, Cycle, Tap, Width, Sweep}
use Rattle.marks.specs.declared.Mark.{Mark}
use Rattle.marks.specs.Marks.{segment_number, envelope_marks}
use Rattle.strip.specs.Strip.{sample_position, length_fits}
use Rattle.lists.specs.Written.{written}
use Rattle.captions.specs.declared.WrongLength.{WrongLength}

-- The number of the segment that a mark starts; a mark of another kind leaves the number that it is given.
unfoldable pub started_by : MarkKind → ℕ → ℕ
started_by (ASegment s) k = segment_number s
started_by Corner k = k
started_by Cycle k = k
started_by Tap k = k
started_by Width k = k
started_by Sweep k = k

-- Segment k, unless a mark at or before p starts another: of several the last in the list. A NaN is at or before nothing.
unfoldable pub segment_from : ℕ → List Mark → Float → ℕ
segment_from k [] p = k
segment_from k (m ∷ ms) p = segment_from (cond (le m.at p) (started_by m.kind k) k) ms p

-- C1: the last segment whose mark is at or before p; where there is none, the attack.
unfoldable pub last_segment : List Mark → Float → ℕ
last_segment ms p = segment_from (segment_number Attack) ms p

-- The caption of sample i of n, by its position.
unfoldable pub caption_of : List Mark → ℕ → ℕ → ℕ
caption_of ms n i = last_segment ms (sample_position n i)

-- The caption of a sample that has none.
abbrev pub no_caption : ℕ
no_caption = 255

-- Sample i of n of a shape: an envelope's by a rule for its marks; no other shape has captions, a fade's marks notwithstanding.
abbrev pub caption_by : (List Mark → ℕ → ℕ → ℕ) → Shape → ℕ → ℕ → ℕ
caption_by rule (AnEnvelope e) n i = rule (envelope_marks e) n i
caption_by rule (AFade f) n i = no_caption
caption_by rule (AnLfo l) n i = no_caption
caption_by rule (AFilter f) n i = no_caption
caption_by rule (AnOscillator o) n i = no_caption
caption_by rule (ANoise k) n i = no_caption

abbrev pub caption_at : Shape → ℕ → ℕ → ℕ
caption_at s n i = caption_by caption_of s n i

-- What is answered for a slice of n captions: the lengths are those of a strip.
unfoldable pub answer_of : ℕ → Result Unit WrongLength
answer_of n = cond (length_fits n) (Ok tt) (Err (record {}))

-- What the slice holds afterwards: every caption, or what it held where its length is refused.
unfoldable pub captions_of : Shape → List ℕ → List ℕ
captions_of s xs = cond (length_fits (length xs)) (written (caption_at s (length xs)) (length xs) xs) xs
