-- WHAT IS PROMISED OF A CODE'S HEIGHT, in terms of the block's bytes: docs/SPECIFICATION.md, "The three demands". Definitions only.
use Rattle.std.specs.Prelude.{◌≡◌, Bool, false, not, cond, ◌&&◌, ℕ, ◌+◌, T, eqb, Float}
use Rattle.exact.specs.Fraction.{Fraction, ratio}
use Rattle.curve.specs.declared.Height.{Height}
use Rattle.curve.specs.Curve.{Drawn}
use Rattle.settings.specs.declared.SampledTurns.{SampledTurns}
use Rattle.settings.specs.declared.SampledTurns.TheVariants.{Six, Eight}
use Rattle.settings.specs.Settings.{turns_number, is_on}
use Rattle.walk.specs.Steps.{Steps}
use Rattle.generator.specs.declared.Shape.{Shape}
use Rattle.shape_heights.specs.Heights.{heightℚ, walk_phase}
use Rattle.turns.specs.Turns.{turned_of, sampled}
use Rattle.codes.specs.declared.Code.{Code}
use Rattle.codes.specs.declared.Code.TheVariants.{Envelope, Lfo, LfoUnipolar, Fade, LowPass, HighPass, Oscillator, Noise}
use Rattle.code_bytes.specs.Bytes.{lfo_first, slew_place}
use Rattle.code_shapes.specs.Shapes.{shape_of}

-- Whether a code's height is walked: an LFO's, where its slew byte is not 0.
unfoldable pub slewed_code : Code → (ℕ → ℕ) → Bool
slewed_code (Envelope id) b = false
slewed_code (Lfo id) b = is_on (b (lfo_first id + slew_place))
slewed_code (LfoUnipolar id) b = is_on (b (lfo_first id + slew_place))
slewed_code (Fade id) b = false
slewed_code LowPass b = false
slewed_code HighPass b = false
slewed_code (Oscillator id) b = false
slewed_code Noise b = false

-- The bound of an LFO, by its slew byte: a walk has one of its own.
unfoldable pub lfo_bound : ℕ → Fraction
lfo_bound slew = cond (eqb slew 0) (ratio 1 262144) (ratio 1 4096)

-- The bound of a code.
unfoldable pub bound_of : Code → (ℕ → ℕ) → Fraction
bound_of (Envelope id) b = ratio 1 131072
bound_of (Lfo id) b = lfo_bound (b (lfo_first id + slew_place))
bound_of (LfoUnipolar id) b = lfo_bound (b (lfo_first id + slew_place))
bound_of (Fade id) b = ratio 1 262144
bound_of LowPass b = ratio 1 262144
bound_of HighPass b = ratio 1 262144
bound_of (Oscillator id) b = ratio 1 262144
bound_of Noise b = ratio 1 262144

-- The bound of a code at n turns of the sampled shapes: twice that of six where a sampled shape is walked along eight.
unfoldable pub bound_at : SampledTurns → Code → (ℕ → ℕ) → Fraction
bound_at Six c b = bound_of c b
bound_at Eight c b = cond (slewed_code c b && sampled (shape_of c b)) (ratio 1 2048) (bound_of c b)

-- DEMAND 3 of the height h of a shape: a number from 0 to 1, no further than a bound from the exact height; its steps are the walk's, of so many turns, where it is walked, else 0.
pub record Promised (s : Shape) (walks : Bool) (turns : ℕ) (bound : Fraction) (t : Float) (h : Height) : Type 0 where
  pub drawn : Drawn h.height (heightℚ s t) bound
  pub walked : T walks → Steps turns (walk_phase s t) h.steps
  pub none : T (not walks) → h.steps ≡ 0

-- Of a code's height, and of its height at n turns of the sampled shapes.
abbrev pub CodePromised : Code → (ℕ → ℕ) → Float → Height → Type 0
CodePromised c b = Promised (shape_of c b) (slewed_code c b) 6 (bound_of c b)

abbrev pub TurnsPromised : SampledTurns → Code → (ℕ → ℕ) → Float → Height → Type 0
TurnsPromised n c b = Promised (turned_of n (shape_of c b)) (slewed_code c b) (turns_number n) (bound_at n c b)
