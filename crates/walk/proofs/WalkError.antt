-- THE BOUND OF THE WALK: after n steps, the last of which may be cut at the phase, the level in binary32 lies within 1,184 + 162 n units of 2 ^ -29 of the exact one. That is less
-- than 1 / 4,096 for the 672 steps of six turns, and than 1 / 2,048 for the 864 of eight. Assumes nothing.
use mathlib.Core.Path.{◌≡◌, sym, subst}
use Prim.Native.Nat.{ℕ, zero, suc, ◌+◌, ◌*◌, ◌^◌, ◌≤◌, ◌<◌}
use native.Mathlib.Omega.{arith}
use lib.Signed.{le_z_yes}
use lib.Dec.{T, lit<, lit≤}
use lib.Ieee.{Float, binary32, fits, neg, of_bits}
use Rattle.exact.specs.Fraction.{Fraction, ratio, ◌-ℚ◌, ◌*ℚ◌, ◌≤ℚ◌}
use Rattle.exact.specs.Value.{value, Within}
use Rattle.exact.specs.Binary32.{◌⊖◌, ◌⊗◌, one₃₂}
use Rattle.exact.proofs.Order.{≤ℚ-trans, parts-≤ℚ, within_loosen}
use Rattle.rounding.proofs.Inputs.{result}
use Rattle.math.specs.Formulas.{min_of}
use Rattle.floor.proofs.Phase.{Phase}
use Rattle.settings.specs.declared.LfoShape.{LfoShape}
use Rattle.settings.specs.declared.LfoShape.TheVariants.{Sine, Triangle, Square, RampUp, RampDown, SampleAndHold, SampleAndGlide}
use Rattle.settings.specs.declared.SampledTurns.{SampledTurns}
use Rattle.settings.specs.declared.SampledTurns.TheVariants.{Six, Eight}
use Rattle.settings.specs.Settings.{turns_number}
use Rattle.lfo_shapes.specs.Formula.{shape_at_of}
use Rattle.lfo_shapes.specs.Exact.{shapeℚ}
use Rattle.lfo_shapes.proofs.Bounded.{shape_bound}
use Rattle.lfo_shapes.proofs.ShapeError.{Reached, shape_bounded, shape_range, shape_fits}
use Rattle.lfo_shapes.proofs.DrawnPhase.{Spanned}
use Rattle.walk.specs.Formula.{place_of, limit_of, moved_of, level_after, cut_after}
use Rattle.walk.specs.Exact.{limitℚ, movedℚ, level_afterℚ, cut_afterℚ}
use Rattle.walk.proofs.Places.{place_start}
use Rattle.walk.proofs.Advances.{Stepped, eight₃₂, stepped, cut, first_phase}
use Rattle.walk.proofs.MostError.{Slew, limited}
use Rattle.walk.proofs.StepError.{Walked, largest, target_error, step_cost, step_near}

-- ---- at n turns: the most steps, and the part of the height that is the bound
pub at_most_eight : (t : SampledTurns) (n : ℕ) → n < 96 + 96 * turns_number t → n < 864
at_most_eight Six n l = omega arith
at_most_eight Eight n l = l

abbrev pub walked_part : SampledTurns → ℕ
walked_part Six = 4096
walked_part Eight = 2048

-- ---- THE SHAPE'S OWN LEVEL at a phase of at most 8
low_enough : (x : Float) → value x ≤ℚ value eight₃₂ → value x ≤ℚ ratio 16777216 1
unfolding value of_bits
low_enough x h = ≤ℚ-trans (value x) (value eight₃₂) (ratio 16777216 1) (lit< tt) h (le_z_yes tt)

reached : (s : LfoShape) (x : Float) → value x ≤ℚ ratio 16777216 1 → Reached s x
reached Sine x h = tt
reached Triangle x h = tt
reached Square x h = tt
reached RampUp x h = tt
reached RampDown x h = tt
reached SampleAndHold x h = tt
reached SampleAndGlide x h = h

shape_walked : (s : LfoShape) (x : Float) → T (fits binary32 x) → Phase x → value x ≤ℚ ratio 16777216 1 → Walked (shape_at_of s x) (shapeℚ s (value x)) target_error
unfolding shape_bound
shape_walked s x f p h =
    let r = reached s x h in
    record {
      holds = shape_fits s x;
      near = result binary32 (shape_at_of s x) (shapeℚ s (value x)) shape_bound target_error (2 ^ 29) (lit< tt) (shape_bounded s x f p r) (lit≤ tt);
      inside = (shape_range s x f p r).1;
    }

-- ---- A STEP toward it
moved_near : (s : LfoShape) (slew p q l : Float) (L : Fraction) (e : ℕ) → Slew slew → Stepped p q → Walked l L e → target_error ≤ e → e ≤ largest
    → Walked (moved_of s (limit_of slew) p q l) (movedℚ s (limitℚ (value slew)) (value p) (value q) L) (e + step_cost)
unfolding moved_of movedℚ
moved_near s slew p q l L e h k w a b =
    let z = low_enough q k.highest in
    let t = shape_walked s q k.stop k.phase z in
    step_near (shape_at_of s q) l (limit_of slew ⊗ (q ⊖ p)) (shapeℚ s (value q)) L (limitℚ (value slew) *ℚ (value q -ℚ value p)) e t.holds t.near (shape_range s q k.stop k.phase (reached s q z)).0 t.inside w (limited slew p q h k) a b

-- ---- THE WALK, by induction over its steps
abbrev pub error_after : ℕ → ℕ
error_after n = target_error + n * step_cost

within_largest : (n : ℕ) → n ≤ 864 → error_after n ≤ largest
within_largest n h = omega arith

first_walked : (s : LfoShape) → Walked (shape_at_of s (neg one₃₂)) (shapeℚ s (value (neg one₃₂))) target_error
unfolding value of_bits neg fits
first_walked s = shape_walked s (neg one₃₂) tt first_phase (le_z_yes tt)

level_near : (s : LfoShape) (slew : Float) → Slew slew → (n : ℕ) → n ≤ 864 → Walked (level_after s (limit_of slew) n) (level_afterℚ s (limitℚ (value slew)) n) (error_after n)
unfolding level_after level_afterℚ
level_near s slew h zero l = subst (λ (x : Float). Walked (shape_at_of s (neg one₃₂)) (shapeℚ s (value x)) (error_after 0)) (sym place_start) (first_walked s)
level_near s slew h (suc n) l =
    subst (λ (e : ℕ). Walked (moved_of s (limit_of slew) (place_of n) (place_of (suc n)) (level_after s (limit_of slew) n)) (movedℚ s (limitℚ (value slew)) (value (place_of n)) (value (place_of (suc n))) (level_afterℚ s (limitℚ (value slew)) n)) e)
    (again n)
    (moved_near s slew (place_of n) (place_of (suc n)) (level_after s (limit_of slew) n) (level_afterℚ s (limitℚ (value slew)) n) (error_after n) h (stepped n l) (level_near s slew h n (below n l)) (from n) (within_largest n (below n l)))
  where
    below : (n : ℕ) → suc n ≤ 864 → n ≤ 864
    below n l = omega arith

    from : (n : ℕ) → target_error ≤ error_after n
    from n = omega arith

    again : (n : ℕ) → error_after n + step_cost ≡ error_after (suc n)
    again n = omega arith

-- ---- CUT AT A PHASE that the last step reaches
pub cut_near : {t : SampledTurns} (s : LfoShape) (slew phase : Float) (n : ℕ) → Slew slew → Spanned t phase → n < 864 → value (place_of n) ≤ℚ value phase
    → Walked (cut_after s (limit_of slew) phase n) (cut_afterℚ s (limitℚ (value slew)) phase n) (error_after n + step_cost)
unfolding cut_after cut_afterℚ
cut_near s slew phase n h p l u =
    moved_near s slew (place_of n) (min_of (place_of (suc n)) phase) (level_after s (limit_of slew) n) (level_afterℚ s (limitℚ (value slew)) n) (error_after n) h (cut phase (stepped n l) p u) (level_near s slew h n (below n l)) (from n) (within_largest n (below n l))
  where
    below : (n : ℕ) → n < 864 → n ≤ 864
    below n l = omega arith

    from : (n : ℕ) → target_error ≤ error_after n
    from n = omega arith

-- THE DISTANCE, by the turns
pub walk_near : (t : SampledTurns) (s : LfoShape) (slew phase : Float) (n : ℕ) → Slew slew → Spanned t phase → n < 96 + 96 * turns_number t → value (place_of n) ≤ℚ value phase
    → Within (value (cut_after s (limit_of slew) phase n)) (cut_afterℚ s (limitℚ (value slew)) phase n) (ratio 1 (walked_part t))
walk_near t s slew phase n h p l u =
    let e = error_after n + step_cost in
    within_loosen (cut_near s slew phase n h p (at_most_eight t n l) u).near (part_above t) (parts-≤ℚ (ratio e (2 ^ 29)) (ratio 1 (walked_part t)) (core t n l))
  where
    part_above : (t : SampledTurns) → 0 < walked_part t
    part_above Six = lit< tt
    part_above Eight = lit< tt

    core : (t : SampledTurns) (n : ℕ) → n < 96 + 96 * turns_number t → (error_after n + step_cost) * walked_part t + 0 * 2 ^ 29 ≤ 1 * 2 ^ 29 + 0 * walked_part t
    core Six n l = omega arith
    core Eight n l = omega arith
