-- WHICH CAPTIONS CHANGED when C1 came to stand alone: sample 0 of an envelope without attack, and no other, for all bytes and lengths. A segment starts at 0 where all bytes before it are 0; the
-- release never does. Assumes nothing.
use mathlib.Core.Path.{◌≡◌, refl}
use mathlib.Core.Bool.{Bool, true, false, cond, ◌&&◌}
use Prim.Native.Nat.{ℕ, zero, suc, ◌≤◌, ◌<◌}
use lib.Dec.{eqb, eqb-suc-zero}
use Rattle.exact.specs.Binary32.{zero₃₂}
use Rattle.envelope_settings.specs.Formula.{envelope_of}
use Rattle.envelope_settings.proofs.Ends.{at_zero}
use Rattle.marks.specs.Marks.{envelope_marks}
use Rattle.generator.specs.declared.Shape.TheVariants.{Envelope as AnEnvelope}
use Rattle.strip.proofs.SamplePositions.{first_at_zero}
use Rattle.captions.specs.Captions.{last_segment, caption_of, caption_at}
use Rattle.captions.specs.Changes.{former_of, former_at, changed_caption}
use Rattle.captions.proofs.Segments.{by_ends}

module _ (a d s r ac dc sc rc : ℕ) (ha : a < 256) (hd : d < 256) (hr : r < 256) where
  -- what starts at 0
  at_start : last_segment (envelope_marks (envelope_of a d s r ac dc sc rc)) zero₃₂ ≡ changed_caption a d 0 0
  unfolding envelope_of changed_caption
  at_start =
      let z = at_zero a d r ha hd hr in
      rw (by_ends (envelope_of a d s r ac dc sc rc) zero₃₂, z.first, z.second, z.third) (cases (eqb a 0) (eqb d 0))
    where
      cases : (x y : Bool) → ◌≡◌ {A = ℕ} (cond false 3 (cond (x && y) 2 (cond x 1 0))) (cond (true && x) (cond y 2 1) 0)
      cases true true = refl
      cases true false = refl
      cases false y = refl

  -- Sample i of n.
  pub caption_changed : (n i : ℕ) → 2 ≤ n → n ≤ 4096 → caption_at (AnEnvelope (envelope_of a d s r ac dc sc rc)) n i ≡ changed_caption a d i (former_at (AnEnvelope (envelope_of a d s r ac dc sc rc)) n i)
  unfolding caption_of former_of
  caption_changed n zero h k = rw (first_at_zero n h k) at_start
  caption_changed n (suc i) h k = unfold changed_caption in simp (eqb-suc-zero i)
