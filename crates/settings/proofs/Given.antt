-- WHAT BYTES GIVE SATISFIES Ranges.antt: one theorem for each of the settings that are built here, for all bytes. Assumes nothing.
use mathlib.Core.Path.{refl}
use mathlib.Core.Bool.{Bool, true, false, cond, ◌&&◌}
use Prim.Native.Nat.{ℕ, ◌<◌}
use lib.Dec.{T, eqb}
use lib.Ieee.{Float, binary32, of_bits, of_int, fits, lt, add, mul, div}
use lib.Ieee.Fits.{and_l, and_r, add-fits, mul-fits, div-fits}
use Rattle.exact.specs.Binary32.{◌⊕◌, ◌⊘◌, bits, zero₃₂, half₃₂, one₃₂}
use Rattle.lists.proofs.Every.{every, each}
use Rattle.curve.proofs.Positions.{Level}
use Rattle.settings.specs.declared.SampledTurns.{SampledTurns}
use Rattle.settings.specs.Settings.{byte_of, lfo_of, turned_lfo, fade_of, pole_slope_of, low_pass_of, high_pass_of, is_manual, depth_of, width_of, sweep_of, oscillator_one_of, oscillator_two_of, noise_of}
use Rattle.settings.proofs.Ranges.{LfoRange, FadeRange, Slope, six, twelve, twenty_four, FilterRange, OscillatorRange, NoiseRange}
use Rattle.settings.proofs.Bytes.{unit, unit_level, byte_level}

zero_level : Level zero₃₂
unfolding fits of_bits unit
zero_level = unit_level zero₃₂ tt tt

half_level : Level half₃₂
unfolding fits of_bits unit
half_level = unit_level half₃₂ tt tt

one_level : Level one₃₂
unfolding fits of_bits unit
one_level = unit_level one₃₂ tt tt

-- ---- LFO and fade
pub lfo_range : (n : SampledTurns) (shape slew sync : ℕ) (unipolar : Bool) → slew < 256 → LfoRange n (turned_lfo n (lfo_of shape slew sync unipolar))
unfolding lfo_of turned_lfo
lfo_range n shape slew sync unipolar h = record { slew = byte_level slew h; turns = refl }

-- where a fade ends
abbrev end : ℕ → Float
end b = byte_of b ⊘ (byte_of b ⊕ half₃₂)

ends_early : ℕ → Bool
ends_early b = unit (end b) && lt (end b) one₃₂

all_end_early : T (every ends_early 256)
unfolding every ends_early unit byte_of of_bits of_int add div lt
all_end_early = tt

pub fade_range : (b : ℕ) → b < 256 → FadeRange (fade_of b)
unfolding fade_of ends_early
fade_range b h =
    let t = each ends_early 256 b all_end_early h in
    record { end = unit_level (end b) (div-fits binary32 _ _) (and_l (unit (end b)) (lt (end b) one₃₂) t); before = and_r (unit (end b)) (lt (end b) one₃₂) t }

-- ---- filters
pub low_pass_range : (resonance pole : ℕ) → resonance < 256 → FilterRange (low_pass_of resonance pole)
unfolding low_pass_of pole_slope_of
low_pass_range resonance pole h = record { slope = go (eqb pole 1); resonance = byte_level resonance h; span = refl }
  where
    go : (b : Bool) → Slope (cond b (bits 0x4140_0000) (bits 0x41c0_0000))
    go true = twelve refl
    go false = twenty_four refl

pub high_pass_range : FilterRange high_pass_of
unfolding high_pass_of
high_pass_range = record { slope = six refl; resonance = zero_level; span = refl }

-- ---- oscillators
-- how far the edge moves, and the width set by hand
all_depths : T (every (λ b. unit (depth_of b)) 256)
unfolding every unit depth_of byte_of of_bits of_int mul div
all_depths = tt

all_widths : T (every (λ b. unit (half₃₂ ⊕ depth_of b)) 256)
unfolding every unit depth_of byte_of of_bits of_int add mul div
all_widths = tt

depth_level : (b : ℕ) → b < 256 → Level (depth_of b)
unfolding depth_of
depth_level b h = unit_level (depth_of b) (mul-fits binary32 _ _) (each (λ b. unit (depth_of b)) 256 b all_depths h)

width_level : (b : ℕ) → b < 256 → Level (half₃₂ ⊕ depth_of b)
width_level b h = unit_level (half₃₂ ⊕ depth_of b) (add-fits binary32 _ _) (each (λ b. unit (half₃₂ ⊕ depth_of b)) 256 b all_widths h)

either : (b : Bool) {x y : Float} → Level x → Level y → Level (cond b x y)
either true h k = h
either false h k = k

pub oscillator_one_range : (source pulse saw depth : ℕ) → depth < 256 → OscillatorRange (oscillator_one_of source pulse saw depth)
unfolding oscillator_one_of width_of sweep_of
oscillator_one_range source pulse saw depth h =
    record { width = either (is_manual source) (width_level depth h) half_level; sweep = either (is_manual source) zero_level (depth_level depth h); level = one_level }

pub oscillator_two_range : (level : ℕ) → level < 256 → OscillatorRange (oscillator_two_of level)
unfolding oscillator_two_of
oscillator_two_range level h = record { width = half_level; sweep = zero_level; level = byte_level level h }

-- ---- noise
pub noise_range : (level : ℕ) → level < 256 → NoiseRange (noise_of level)
unfolding noise_of
noise_range level h = record { level = byte_level level h }
