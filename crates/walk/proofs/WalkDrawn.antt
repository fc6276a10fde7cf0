-- THE HEIGHT OF A WALK at a phase of its turns is a number from 0 to 1, and lies within 1 / 4,096 of the exact height, at eight turns within 1 / 2,048. Assumes nothing.
use Prim.Native.Nat.{ℕ, suc, ◌≤◌, ◌<◌}
use native.Mathlib.Omega.{arith}
use lib.Ieee.{Float}
use Rattle.exact.specs.Fraction.{ratio, clamp_unitℚ, ◌≤ℚ◌}
use Rattle.exact.specs.Value.{value}
use Rattle.exact.proofs.Order.{lt_at_most}
use Rattle.curve.specs.Curve.{drawn_of, Drawn}
use Rattle.curve.proofs.Clamped.{drawn_near}
use Rattle.settings.specs.declared.Lfo.{Lfo}
use Rattle.settings.specs.declared.SampledTurns.{SampledTurns}
use Rattle.settings.specs.Settings.{turns_number}
use Rattle.lfo_shapes.proofs.DrawnPhase.{Spanned}
use Rattle.walk.specs.Formula.{place_of, limit_of, cut_after, full_steps, walked_of}
use Rattle.walk.specs.Exact.{limitℚ, cut_afterℚ}
use Rattle.walk.specs.Steps.{Steps}
use Rattle.walk.proofs.MostError.{Slew}
use Rattle.walk.proofs.Places.{place_finite}
use Rattle.walk.proofs.Steps.{steps_at}
use Rattle.walk.proofs.WalkError.{at_most_eight, walked_part, cut_near, walk_near}

-- ---- the full steps end at or below the phase
passed : (t : SampledTurns) (phase : Float) (n : ℕ) → Spanned t phase → Steps (turns_number t) phase (suc n) → value (place_of n) ≤ℚ value phase
passed t phase n p s = (lt_at_most (place_of n) phase (place_finite n (lower n (at_most_eight t n s.most))) p.number (s.first n (upper n s.least) (next n))).le
  where
    lower : (n : ℕ) → n < 864 → n ≤ 864
    lower n h = omega arith

    upper : (n : ℕ) → 96 ≤ suc n → 1 ≤ n
    upper n h = omega arith

    next : (n : ℕ) → n < suc n
    next n = omega arith

-- ---- THE DISTANCE of the height
pub walked_drawn : (t : SampledTurns) (l : Lfo) (phase : Float) → Slew l.slew → Spanned t phase
    → Drawn (walked_of l phase).height (clamp_unitℚ (cut_afterℚ l.shape (limitℚ (value l.slew)) phase (full_steps phase))) (ratio 1 (walked_part t))
unfolding walked_of
walked_drawn t l phase h p =
    let n = full_steps phase in
    let k = steps_at t phase p in
    let u = passed t phase n p k in
    let x = cut_after l.shape (limit_of l.slew) phase n in
    let X = cut_afterℚ l.shape (limitℚ (value l.slew)) phase n in
    unfold drawn_of in drawn_near x X 1 (walked_part t) (cut_near l.shape l.slew phase n h p (at_most_eight t n k.most) u).holds (walk_near t l.shape l.slew phase n h p k.most u)
