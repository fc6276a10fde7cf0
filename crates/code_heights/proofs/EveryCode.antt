-- WHAT IS PROMISED OF EVERY BLOCK'S HEIGHTS, by its bytes: whatever the code, the bytes and the f32 t, the height is a number from 0 to 1, no further from the exact height than the code's bound,
-- and its steps are the walk's where the slew byte is not 0, and otherwise 0. A slew is 0 just where its byte is. Assumes nothing.
use mathlib.Core.Path.{◌≡◌, refl, subst}
use mathlib.Core.Bool.{Bool, true, false}
use Prim.Native.Nat.{ℕ, zero, suc, ◌+◌, ◌<◌}
use native.Mathlib.Omega.{arith}
use lib.Dec.{T, eqb}
use lib.Ieee.{Float, binary32, of_bits, of_int, fits, div, le}
use lib.Ieee.Bits.{is_false}
use borrow.Author.Tests.{ne_eqb}
use Rattle.exact.specs.Binary32.{zero₃₂}
use Rattle.settings.specs.declared.SampledTurns.{SampledTurns}
use Rattle.settings.specs.declared.SampledTurns.TheVariants.{Six}
use Rattle.settings.specs.Settings.{byte_of, lfo_of, turned_lfo, turns_number}
use Rattle.settings.proofs.Given.{fade_range, low_pass_range, high_pass_range, oscillator_one_range, oscillator_two_range, noise_range}
use Rattle.envelope_settings.proofs.Given.{envelope_range}
use Rattle.lfo.proofs.Steps.{slew_above}
use Rattle.lfo.proofs.LfoDrawn.{walk_range}
use Rattle.shape_heights.specs.Heights.{height_of}
use Rattle.code_heights.proofs.Promised.{shape_bound, slewed}
use Rattle.code_heights.proofs.EveryShape.{ShapeRange, every_shape}
use Rattle.codes.specs.declared.Code.{Code}
use Rattle.codes.specs.declared.Code.TheVariants.{Envelope, Lfo, LfoUnipolar, Fade, LowPass, HighPass, Oscillator, Noise}
use Rattle.codes.specs.declared.OscillatorId.TheVariants.{One, Two}
use Rattle.code_bytes.specs.Bytes.{slew_place, fade_byte, lfo_first, envelope_first}
use Rattle.generator.specs.declared.Shape.{Shape}
use Rattle.turns.specs.Turns.{turned_of}
use Rattle.code_settings.specs.Settings.{envelope_at, lfo_at, oscillator_at}
use Rattle.code_shapes.specs.Shapes.{shape_of}
use Rattle.code_heights.specs.Promises.{slewed_code, lfo_bound, bound_of, Promised, CodePromised}

-- ---- every byte gives settings in their ranges
code_range : (n : SampledTurns) (c : Code) (b : ℕ → ℕ) → ((k : ℕ) → b k < 256) → ShapeRange n (turned_of n (shape_of c b))
unfolding ShapeRange turned_of shape_of envelope_at lfo_at oscillator_at
code_range n (Envelope id) b h =
    let k = envelope_first id in
    envelope_range _ _ _ _ _ _ _ _ (h k) (h (k + 1)) (h (k + 2)) (h (k + 3)) (h (k + 5)) (h (k + 6)) (h (k + 7)) (h (k + 8))
code_range n (Lfo id) b h = walk_range n _ _ _ false (h (lfo_first id + slew_place))
code_range n (LfoUnipolar id) b h = walk_range n _ _ _ true (h (lfo_first id + slew_place))
code_range n (Fade id) b h = fade_range _ (h (fade_byte id))
code_range n LowPass b h = low_pass_range _ _ (h 41)
code_range n HighPass b h = high_pass_range
code_range n (Oscillator One) b h = oscillator_one_range _ _ _ _ (h 25)
code_range n (Oscillator Two) b h = oscillator_two_range _ (h 26)
code_range n Noise b h = noise_range _ (h 33)

-- ---- a slew is 0 just where its byte is
slew_zero : le (byte_of 0) zero₃₂ ≡ true
unfolding byte_of of_bits of_int div le
slew_zero = refl

pub slew_off : (n : ℕ) → n < 256 → le (byte_of n) zero₃₂ ≡ eqb n 0
slew_off zero l = slew_zero
slew_off (suc n) l = rw (ne_eqb (suc n) 0 (λ e. omega arith)) (is_false (le (byte_of (suc n)) zero₃₂) (slew_above (suc n) (omega arith) l))

-- so a code's walk and its bound are its shape's
pub code_slewed : (n : SampledTurns) (c : Code) (b : ℕ → ℕ) → ((k : ℕ) → b k < 256) → slewed (turned_of n (shape_of c b)) ≡ slewed_code c b
unfolding slewed turned_of turned_lfo shape_of lfo_at lfo_of slewed_code
code_slewed n (Envelope id) b h = refl
code_slewed n (Lfo id) b h = simp (slew_off (b (lfo_first id + slew_place)) (h (lfo_first id + slew_place)))
code_slewed n (LfoUnipolar id) b h = simp (slew_off (b (lfo_first id + slew_place)) (h (lfo_first id + slew_place)))
code_slewed n (Fade id) b h = refl
code_slewed n LowPass b h = refl
code_slewed n HighPass b h = refl
code_slewed n (Oscillator id) b h = refl
code_slewed n Noise b h = refl

code_bound : (c : Code) (b : ℕ → ℕ) → ((k : ℕ) → b k < 256) → shape_bound Six (turned_of Six (shape_of c b)) ≡ bound_of c b
unfolding shape_bound turned_of turned_lfo shape_of lfo_at lfo_of lfo_bound bound_of
code_bound (Envelope id) b h = refl
code_bound (Lfo id) b h = simp (slew_off (b (lfo_first id + slew_place)) (h (lfo_first id + slew_place)))
code_bound (LfoUnipolar id) b h = simp (slew_off (b (lfo_first id + slew_place)) (h (lfo_first id + slew_place)))
code_bound (Fade id) b h = refl
code_bound LowPass b h = refl
code_bound HighPass b h = refl
code_bound (Oscillator id) b h = refl
code_bound Noise b h = refl

-- ---- THE THEOREM, at n turns of the sampled shapes: by the bound of its shape
pub by_shape : (n : SampledTurns) (c : Code) (b : ℕ → ℕ) → ((k : ℕ) → b k < 256) → (t : Float) → T (fits binary32 t)
    → Promised (turned_of n (shape_of c b)) (slewed_code c b) (turns_number n) (shape_bound n (turned_of n (shape_of c b))) t (height_of (turned_of n (shape_of c b)) t)
by_shape n c b h t f = subst (λ (w : Bool). Promised s w (turns_number n) (shape_bound n s) t (height_of s t)) (code_slewed n c b h) (every_shape n s (code_range n c b h) t f)
  where
    s : Shape
    s = turned_of n (shape_of c b)

-- at six turns a shape is as it was
pub turned_six : (c : Code) (b : ℕ → ℕ) → turned_of Six (shape_of c b) ≡ shape_of c b
unfolding turned_of turned_lfo shape_of lfo_at lfo_of
turned_six (Envelope id) b = refl
turned_six (Lfo id) b = refl
turned_six (LfoUnipolar id) b = refl
turned_six (Fade id) b = refl
turned_six LowPass b = refl
turned_six HighPass b = refl
turned_six (Oscillator id) b = refl
turned_six Noise b = refl

pub block_height : (c : Code) (b : ℕ → ℕ) → ((k : ℕ) → b k < 256) → (t : Float) → T (fits binary32 t) → CodePromised c b t (height_of (shape_of c b) t)
block_height c b h t f = subst (λ (s : Shape). Promised s (slewed_code c b) 6 (bound_of c b) t (height_of s t)) (turned_six c b) (rw (code_bound c b h) at (by_shape Six c b h t f))
