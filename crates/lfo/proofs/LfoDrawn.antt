-- THE HEIGHT OF AN LFO, of any shape and any slew: at every position it is a number from 0 to 1, and lies within 1 / 4,096 of the exact height, at eight turns
-- within 1 / 2,048; at slew 0 within 1 / 262,144. Assumes nothing.
use mathlib.Core.Path.{◌≡◌, sym, subst}
use mathlib.Core.Logic.{◌⊎◌, inl, inr}
use mathlib.Core.Bool.{Bool, true, false, not, cond, ◌||◌}
use Prim.Native.Nat.{ℕ, ◌<◌}
use lib.Dec.{T}
use lib.Ieee.{Float, binary32, of_bits, of_int, fits, le, div}
use Rattle.exact.specs.Fraction.{ratio, clamp_unitℚ}
use Rattle.exact.specs.Value.{value}
use Rattle.exact.specs.Binary32.{◌⊗◌, bits, zero₃₂}
use Rattle.exact.proofs.Defined.{value_defined, given_is}
use Rattle.exact.proofs.Order.{or_cases}
use Rattle.lists.proofs.Every.{every, each}
use Rattle.curve.specs.Curve.{position_of, drawn_of, Drawn}
use Rattle.settings.specs.declared.LfoShape.{LfoShape}
use Rattle.settings.specs.declared.Lfo.{Lfo}
use Rattle.settings.specs.declared.SampledTurns.{SampledTurns}
use Rattle.settings.specs.Settings.{turns_of, byte_of, lfo_of, turned_lfo}
use Rattle.settings.proofs.Ranges.{LfoRange}
use Rattle.settings.proofs.Bytes.{byte_level, byte_holds}
use Rattle.settings.proofs.Given.{lfo_range}
use Rattle.lfo_shapes.specs.Formula.{shape_at_of}
use Rattle.lfo_shapes.specs.Exact.{shapeℚ}
use Rattle.lfo_shapes.proofs.ShapeError.{shape_drawn}
use Rattle.lfo_shapes.proofs.DrawnPhase.{Spanned, position_spanned}
use Rattle.walk.specs.Formula.{full_steps, walked_of}
use Rattle.walk.specs.Exact.{limitℚ, cut_afterℚ}
use Rattle.walk.proofs.MostError.{Slew}
use Rattle.walk.proofs.WalkError.{walked_part}
use Rattle.walk.proofs.WalkDrawn.{walked_drawn}
use Rattle.lfo.specs.Formula.{lfo_height_of}
use Rattle.lfo.specs.Exact.{lfo_heightℚ}

-- ---- WHAT THE WALK USES OF AN LFO: a slew is 0, or from 1/255 to 1
pub record WalkRange (n : SampledTurns) (l : Lfo) : Type 0 where
  pub range : LfoRange n l
  pub slewed : T (not (le l.slew zero₃₂)) → Slew l.slew

-- every byte gives such a one
slew_test : ℕ → Bool
slew_test b = le (byte_of b) zero₃₂ || le (bits 0x3b80_8081) (byte_of b)

all_slews : T (every slew_test 256)
unfolding every slew_test byte_of of_bits of_int div le
all_slews = tt

byte_slew : (b : ℕ) → b < 256 → T (not (le (byte_of b) zero₃₂)) → Slew (byte_of b)
unfolding slew_test
byte_slew b h n =
    record { holds = byte_holds b; from = go (le (bits 0x3b80_8081) (byte_of b)) (le (byte_of b) zero₃₂) (or_cases (le (byte_of b) zero₃₂) (le (bits 0x3b80_8081) (byte_of b)) (each slew_test 256 b all_slews h)) n; to = (byte_level b h).to }
  where
    go : (x z : Bool) → T z ⊎ T x → T (not z) → T x
    go x false (inl a) n = absurd a
    go x true (inl a) n = absurd n
    go x z (inr r) n = r

pub walk_range : (n : SampledTurns) (shape slew sync : ℕ) (unipolar : Bool) → slew < 256 → WalkRange n (turned_lfo n (lfo_of shape slew sync unipolar))
unfolding lfo_of turned_lfo
walk_range n shape slew sync unipolar h = record { range = lfo_range n shape slew sync unipolar h; slewed = byte_slew slew h }

-- ---- AT SLEW 0, the shape's own level
unslewed : (n : SampledTurns) (s : LfoShape) (t turns : Float) → T (fits binary32 t) → turns ≡ turns_of n s
    → Drawn (drawn_of (shape_at_of s (position_of t ⊗ turns))).height (clamp_unitℚ (shapeℚ s (value (position_of t ⊗ turns)))) (ratio 1 262144)
unslewed n s t turns f e =
    subst (λ (x : Float). Drawn (drawn_of (shape_at_of s (position_of t ⊗ x))).height (clamp_unitℚ (shapeℚ s (value (position_of t ⊗ x)))) (ratio 1 262144)) (sym e) (shape_drawn n s t f)

-- THE HEIGHT
pub lfo_drawn : (n : SampledTurns) (l : Lfo) (t : Float) → WalkRange n l → T (fits binary32 t) → Drawn (lfo_height_of l t).height (lfo_heightℚ l t) (cond (le l.slew zero₃₂) (ratio 1 262144) (ratio 1 (walked_part n)))
unfolding lfo_height_of lfo_heightℚ
lfo_drawn n l t r f = rw (given_is (value phase).den ((value_defined phase).1 spanned.number)) (go (le l.slew zero₃₂) r.slewed)
  where
    phase : Float
    phase = position_of t ⊗ l.turns

    spanned : Spanned n phase
    spanned = subst (λ (x : Float). Spanned n (position_of t ⊗ x)) (sym r.range.turns) (position_spanned n l.shape t f)

    go : (b : Bool) → (T (not b) → Slew l.slew)
        → Drawn (cond b (drawn_of (shape_at_of l.shape phase)) (walked_of l phase)).height
        (cond b (clamp_unitℚ (shapeℚ l.shape (value phase))) (clamp_unitℚ (cut_afterℚ l.shape (limitℚ (value l.slew)) phase (full_steps phase)))) (cond b (ratio 1 262144) (ratio 1 (walked_part n)))
    go true k = unslewed n l.shape t l.turns f r.range.turns
    go false k = walked_drawn n l phase (k tt) spanned
