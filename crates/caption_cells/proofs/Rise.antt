-- CAPTIONS NEVER GO BACK: what starts at or before a sample does so before a later one. Assumes nothing.
use mathlib.Core.Bool.{Bool, true, false, cond}
use Prim.Native.Nat.{ℕ, ◌-◌, ◌≤◌, ◌<◌}
use native.Mathlib.Nat.{le_refl}
use native.Mathlib.Omega.{arith}
use lib.Dec.{T}
use lib.Ieee.{Float, le}
use Rattle.exact.proofs.Order.{le_trans}
use Rattle.settings.specs.declared.Envelope.{Envelope}
use Rattle.generator.specs.declared.Shape.{Shape}
use Rattle.generator.specs.declared.Shape.TheVariants.{Envelope as AnEnvelope, Fade as AFade, Lfo as AnLfo, Filter as AFilter, Oscillator as AnOscillator, Noise as ANoise}
use Rattle.marks.specs.Marks.{envelope_marks}
use Rattle.strip.specs.Strip.{part_of, sample_position}
use Rattle.strip.proofs.SamplePositions.{part_rises}
use Rattle.captions.specs.Captions.{last_segment, caption_of, no_caption, caption_at}
use Rattle.captions.proofs.Segments.{by_ends}

rises : (t u : Bool) (k x y : ℕ) → (T t → T u) → x ≤ k → x ≤ y → cond t k x ≤ cond u k y
rises true true k x y f h l = le_refl k
rises true false k x y f h l = absurd (f tt)
rises false true k x y f h l = h
rises false false k x y f h l = l

at_most : (t : Bool) (k x m : ℕ) → k ≤ m → x ≤ m → cond t k x ≤ m
at_most true k x m h l = h
at_most false k x m h l = l

segments_rise : (e : Envelope) (p q : Float) → T (le p q) → last_segment (envelope_marks e) p ≤ last_segment (envelope_marks e) q
segments_rise e p q h =
    let decay = rises (le e.first p) (le e.first q) 1 0 0 (later e.first) (omega arith) (omega arith) in
    let sustain = rises (le e.second p) (le e.second q) 2 _ _ (later e.second) (at_most (le e.first p) 1 0 2 (omega arith) (omega arith)) decay in
    rw (by_ends e p, by_ends e q)
    (rises (le e.third p) (le e.third q) 3 _ _ (later e.third) (at_most (le e.second p) 2 _ 3 (omega arith) (at_most (le e.first p) 1 0 3 (omega arith) (omega arith))) sustain)
  where
    later : (x : Float) → T (le x p) → T (le x q)
    later x k = le_trans x p q k h

pub captions_rise : (s : Shape) (n i j : ℕ) → 2 ≤ n → n ≤ 4096 → i ≤ j → j < n → caption_at s n i ≤ caption_at s n j
unfolding caption_of sample_position
captions_rise (AnEnvelope e) n i j a b h l =
    segments_rise e (part_of i (n - 1)) (part_of j (n - 1)) (part_rises (n - 1) (omega arith) (omega arith) i (omega arith) j h (omega arith))
captions_rise (AFade f) n i j a b h l = le_refl no_caption
captions_rise (AnLfo o) n i j a b h l = le_refl no_caption
captions_rise (AFilter f) n i j a b h l = le_refl no_caption
captions_rise (AnOscillator o) n i j a b h l = le_refl no_caption
captions_rise (ANoise k) n i j a b h l = le_refl no_caption
