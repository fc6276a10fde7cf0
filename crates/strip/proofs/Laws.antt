-- THE LAWS OF A STRIP: its length stays, each sample is the height at its own position, and the sum of the steps fits 32 bits. Assumes nothing.
use mathlib.Core.Path.{◌≡◌}
use mathlib.Core.Bool.{Bool, true, false, cond}
use mathlib.Core.List.{List}
use Prim.Native.Nat.{ℕ, zero, suc, ◌*◌, ◌≤◌, ◌<◌}
use native.Mathlib.Omega.{arith}
use lib.ListN.{length, get_or}
use lib.Ieee.{Float, nan, le}
use Rattle.exact.specs.Binary32.{◌⊗◌, zero₃₂}
use Rattle.curve.specs.declared.Height.{Height}
use Rattle.curve.specs.Curve.{position_of, drawn_of}
use Rattle.envelope.specs.Formula.{envelope_height_of}
use Rattle.fade.specs.Formula.{fade_height_of}
use Rattle.oscillator.specs.Formula.{oscillator_height_of}
use Rattle.noise.specs.Formula.{noise_height_of}
use Rattle.filter.specs.Formula.{filter_height_of}
use Rattle.walk.specs.Formula.{walked_of}
use Rattle.walk.proofs.Onward.{full_steps_small}
use Rattle.lfo.specs.Formula.{lfo_height_of}
use Rattle.generator.specs.declared.Shape.{Shape}
use Rattle.generator.specs.declared.Shape.TheVariants.{Envelope as AnEnvelope, Fade as AFade, Lfo as AnLfo, Filter as AFilter, Oscillator as AnOscillator, Noise as ANoise}
use Rattle.shape_heights.specs.Heights.{height_of}
use Rattle.strip.specs.Strip.{sample_position, sample_of, filled_of, step_sum}
use Rattle.lists.proofs.Written.{written_length, written_at}

-- ---- the steps of one height, whatever the settings and the position
pub height_steps : (s : Shape) (t : Float) → (height_of s t).steps ≤ 65535
unfolding height_of envelope_height_of fade_height_of filter_height_of oscillator_height_of noise_height_of drawn_of lfo_height_of walked_of
height_steps (AnEnvelope e) t = omega arith
height_steps (AFade f) t = omega arith
height_steps (AnLfo l) t = go (le l.slew zero₃₂) _ _ (omega arith) (omega (arith, full_steps_small (position_of t ⊗ l.turns)))
  where
    go : (b : Bool) (u v : Height) → u.steps ≤ 65535 → v.steps ≤ 65535 → (cond b u v).steps ≤ 65535
    go true u v h k = h
    go false u v h k = k
height_steps (AFilter f) t = omega arith
height_steps (AnOscillator o) t = omega arith
height_steps (ANoise n) t = omega arith

pub sample_steps : (s : Shape) (n i : ℕ) → (sample_of s n i).steps ≤ 65535
unfolding sample_of
sample_steps s n i = height_steps s _

-- ---- the sum of the steps: with at most 4,096 samples it fits a u32
pub sum_at_most : (s : Shape) (n k : ℕ) → step_sum s n k ≤ 65535 * k
unfolding step_sum
sum_at_most s n zero = omega arith
sum_at_most s n (suc k) = omega (arith, sum_at_most s n k, sample_steps s n k)

-- ---- the samples of a strip that is filled
pub filled_length : (s : Shape) (n : ℕ) (xs : List Float) → length (filled_of s n n xs) ≡ length xs
filled_length s n xs = written_length (λ (i : ℕ). (sample_of s n i).height) n xs

pub filled_at : (s : Shape) (n : ℕ) (xs : List Float) (i : ℕ) → n ≤ length xs → i < n → get_or (filled_of s n n xs) i nan ≡ (height_of s (sample_position n i)).height
unfolding sample_of
filled_at s n xs i h l = written_at (λ (i : ℕ). (sample_of s n i).height) nan n xs i h l
