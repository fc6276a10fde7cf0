-- THE STEPS OF A SLEWED LFO are those of its walk, for all settings that bytes give, at every f32. A slew is above 0 where its byte is. Assumes nothing.
use mathlib.Core.Path.{◌≡◌, sym, subst}
use mathlib.Core.Bool.{Bool, not}
use Prim.Native.Nat.{ℕ, zero, suc, ◌<◌}
use native.Mathlib.Nat.{le_of_suc-le-suc, not-suc-le-zero}
use lib.Dec.{T}
use lib.Ieee.{Float, binary32, of_bits, of_int, div, le, fits}
use lib.Ieee.Bits.{is_true, is_false}
use Rattle.exact.specs.Binary32.{◌⊗◌, zero₃₂}
use Rattle.lists.proofs.Every.{every, each}
use Rattle.curve.specs.Curve.{position_of, drawn_of}
use Rattle.settings.specs.declared.Lfo.{Lfo}
use Rattle.settings.specs.declared.SampledTurns.{SampledTurns}
use Rattle.settings.specs.Settings.{turns_number, byte_of}
use Rattle.settings.proofs.Ranges.{LfoRange}
use Rattle.lfo_shapes.proofs.DrawnPhase.{Spanned, position_spanned}
use Rattle.walk.specs.Formula.{walked_of}
use Rattle.walk.specs.Steps.{Steps}
use Rattle.walk.proofs.Steps.{steps_at}
use Rattle.lfo.specs.Formula.{lfo_height_of}

-- ---- THE STEPS OF AN LFO: a slewed one's are those of its phase, and one that is not slewed has none
pub lfo_steps : (n : SampledTurns) (l : Lfo) (t : Float) → LfoRange n l → T (not (le l.slew zero₃₂)) → T (fits binary32 t) → Steps (turns_number n) (position_of t ⊗ l.turns) (lfo_height_of l t).steps
unfolding lfo_height_of walked_of
lfo_steps n l t r h f =
    simp (is_false (le l.slew zero₃₂) h)
    (steps_at n (position_of t ⊗ l.turns) (subst (λ (x : Float). Spanned n (position_of t ⊗ x)) (sym r.turns) (position_spanned n l.shape t f)))

pub no_steps : (l : Lfo) (t : Float) → T (le l.slew zero₃₂) → (lfo_height_of l t).steps ≡ 0
unfolding lfo_height_of drawn_of
no_steps l t h = simp (is_true (le l.slew zero₃₂) h)

-- ---- by the byte: a slew is above 0 where its byte is
slew_test : ℕ → Bool
slew_test b = not (le (byte_of (suc b)) zero₃₂)

pub slew_above : (b : ℕ) → 0 < b → b < 256 → T (not (le (byte_of b) zero₃₂))
unfolding every slew_test byte_of of_bits of_int div le
slew_above zero h l = absurd (not-suc-le-zero h)
slew_above (suc b) h l = each slew_test 255 b tt (le_of_suc-le-suc l)
