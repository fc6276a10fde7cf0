-- THE NOISE'S HEIGHT IS WITHIN 1 / 262,144 OF ITS EXACT HEIGHT, which takes the scatter as the number that its float holds. Assumes nothing.
use lib.Dec.{T, lit<}
use lib.Ieee.{Float, binary32, of_bits, fits}
use lib.Ieee.Fits.{add-fits}
use Rattle.exact.specs.Fraction.{ratio}
use Rattle.exact.specs.Value.{value, Within}
use Rattle.exact.specs.Binary32.{half₃₂}
use Rattle.rounding.proofs.Analyser.{plain, eval_float, eval_exact}
use Rattle.rounding.proofs.Soundness.{plainly}
use Rattle.rounding.proofs.Inputs.{two, two_inputs, bounded}
use Rattle.curve.specs.Curve.{position_of, drawn_of, Drawn}
use Rattle.curve.proofs.Positions.{Level, position_level}
use Rattle.curve.proofs.Clamped.{drawn_near}
use Rattle.settings.specs.declared.Noise.{Noise}
use Rattle.settings.proofs.Ranges.{NoiseRange}
use Rattle.noise.specs.Formula.{noise_at_of, noise_level_of, noise_height_of}
use Rattle.noise.specs.Exact.{noiseℚ, noise_heightℚ}
use Rattle.curve.proofs.LevelInput.{unit, level_input}
use Rattle.noise.proofs.Scatter.{noise_input}
use Rattle.noise.proofs.Scaled.{scaled, scaled_ok}

pub noise_level_near : (n : Noise) → NoiseRange n → (x : Float) → Level x → Within (value (noise_level_of n x)) (noiseℚ (value n.level) (value (noise_at_of x))) (ratio 1 262144)
unfolding noise_level_of noiseℚ scaled two eval_float eval_exact plain value of_bits
noise_level_near n r x h =
    let a = noise_at_of x in
    let l = n.level in
    bounded binary32 (two a l) (two (value a) (value l)) (two unit unit) (two_inputs binary32 a l (value a) (value l) unit unit (noise_input x h) (level_input l r.level))
    scaled (plainly binary32 (two (value a) (value l)) scaled tt) 1 262144 (lit< tt) scaled_ok

level_fits : (n : Noise) (x : Float) → T (fits binary32 (noise_level_of n x))
unfolding noise_level_of
level_fits n x = add-fits binary32 half₃₂ _

-- ---- THE THEOREM
pub noise_drawn : (n : Noise) → NoiseRange n → (t : Float) → T (fits binary32 t) → Drawn (noise_height_of n t).height (noise_heightℚ n t) (ratio 1 262144)
unfolding noise_height_of noise_heightℚ drawn_of
noise_drawn n r t h =
    let x = position_of t in
    drawn_near (noise_level_of n x) (noiseℚ (value n.level) (value (noise_at_of x))) 1 262144 (level_fits n x) (noise_level_near n r x (position_level t h))
