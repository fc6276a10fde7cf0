-- THE LAST SEGMENT OF AN ENVELOPE AT OR BEFORE A POSITION, by comparing with its ends from the last on, and the caption of a sample. Assumes nothing.
use mathlib.Core.Path.{◌≡◌, refl, ap, ◌∙◌}
use mathlib.Core.Bool.{Bool, true, false, cond}
use mathlib.Core.List.{List}
use Prim.Native.Nat.{ℕ, ◌+◌, ◌-◌}
use native.Mathlib.Omega.{arith}
use lib.Ieee.{Float, le}
use Rattle.exact.specs.Binary32.{zero₃₂}
use Rattle.settings.specs.declared.Envelope.{Envelope}
use Rattle.marks.specs.declared.Mark.{Mark}
use Rattle.marks.specs.Marks.{envelope_marks}
use Rattle.strip.specs.Strip.{part_of, sample_position}
use Rattle.captions.specs.Captions.{started_by, segment_from, last_segment, caption_of}

pub by_ends : (e : Envelope) (p : Float) → last_segment (envelope_marks e) p ≡ cond (le e.third p) 3 (cond (le e.second p) 2 (cond (le e.first p) 1 0))
unfolding last_segment segment_from envelope_marks started_by
by_ends e p = ap (λ (k : ℕ). cond (le e.third p) 3 (cond (le e.second p) 2 (cond (le e.first p) 1 k))) (either (le zero₃₂ p))
  where
    either : (b : Bool) → ◌≡◌ {A = ℕ} (cond b 0 0) 0
    either true = refl
    either false = refl

pub by_position : (ms : List Mark) (i last : ℕ) (p : Float) {r : ℕ} → p ≡ part_of i last → r ≡ last_segment ms p → r ≡ caption_of ms (last + 1) i
unfolding caption_of sample_position
by_position ms i last p a b = let n : last + 1 - 1 ≡ last = omega arith in b ∙ simp (n, a)
