-- THE SHAPES BUT THE SINE ARE BOUNDED, for every phase of a curve: the exact level lies from 0 to 1, and the level in binary32 is equal to it, or at most 2 ^ -22 from it where it
-- rounds: the ramp down and the glide. Assumes nothing.
use mathlib.Core.Path.{◌≡◌, sym, ap, subst, subst₂, ◌∙◌}
use mathlib.Core.Bool.{Bool, true, false, not, cond}
use Prim.Native.Nat.{ℕ, ◌+◌, ◌-◌, ◌*◌, ◌^◌, ◌≤◌}
use native.Mathlib.Nat.{mul-pos}
use native.Mathlib.Omega.{arith}
use lib.IntN.{ℤ, pos, negsuc, ◌-ℤ◌}
use lib.Signed.{le_z_yes}
use lib.Dec.{T, lit<, lit≤}
use lib.ListN.{get_or}
use lib.Ieee.{Float, binary32, of_bits, fits, lt, le, to_unsigned}
use lib.Ieee.Fits.{sub-fits, mul-fits, cond-fits}
use lib.Ieee.Bits.{of_bits-fits}
use Rattle.exact.specs.Fraction.{Fraction, Defined, ratio, whole, negℚ, floorℚ, ltℚ, ◌+ℚ◌, ◌-ℚ◌, ◌*ℚ◌, ◌≤ℚ◌}
use Rattle.exact.specs.Value.{value, Equal}
use Rattle.exact.specs.Binary32.{◌⊕◌, ◌⊖◌, ◌⊗◌, bits, zero₃₂, half₃₂, one₃₂}
use Rattle.exact.proofs.Defined.{value_defined, choice_is, at_floor_is}
use Rattle.exact.proofs.Parts.{num⁺, num⁻, sum_parts}
use Rattle.exact.proofs.Order.{≤ℚ-parts, parts-≤ℚ, ≤ℚ-trans, equal_refl, equal_sym, equal_at_most}
use Rattle.exact.proofs.Inequality.{minus_at_most, at_least_minus, lt_le, nlt_le, scale_le}
use Rattle.rounding.proofs.Bounds.{lower_at, upper_at}
use Rattle.rounding.proofs.Analyser.{Bound, Expr, var, constant, plus, minus, times, truncated, Approximates, Facts, plain, eval_float, eval_exact, analyse, Lower, Upper}
use Rattle.rounding.proofs.Soundness.{plainly}
use Rattle.rounding.proofs.Inputs.{one, three, one_input, three_inputs, exact_input, covers, relax, concludes, concluded}
use Rattle.rounding.proofs.Fract.{floor_negative}
use Rattle.curve.proofs.Positions.{level_finite}
use Rattle.math.specs.Formulas.{clamp_of}
use Rattle.floor.specs.Formula.{floor_of, fract_of}
use Rattle.floor.specs.Exact.{fractℚ}
use Rattle.floor.proofs.Turned.{Turned}
use Rattle.floor.proofs.Phase.{Phase, phase_finite, fract_turned}
use Rattle.lfo_shapes.specs.Formula.{two₃₂, seven₃₂, wrap_of, samples, sample_of, index_of, sampled_of, triangle_of, square_of, ramp_up_of, ramp_down_of, glide_of}
use Rattle.lfo_shapes.specs.Exact.{wrapℚ, remainder, sampleℚ, triangleℚ, squareℚ, ramp_upℚ, ramp_downℚ, holdℚ, glideℚ}
use Rattle.lfo_shapes.proofs.Earlier.{Previous, regular, tie, previous}
use Rattle.lfo_shapes.proofs.Wrapped.{wrap_turned}
use Rattle.lfo_shapes.proofs.Shapes.{triangle_exact, square_exact, hold_is, hold_exact, sample_level}
use Rattle.lfo_shapes.proofs.Mix.{unit, blend_bound, inside, mix, blend, blend_ok}
use Rattle.lfo_shapes.proofs.Blend.{Unit₀₁, level_unit, blend_unit}

-- ---- bounds, in quanta, 2 ^ 149 of which are 1
-- of every shape: 27 * 2 ^ -24 beyond 0 and 1, and 37 * 2 ^ -24 off
unfoldable pub shape_bound : Bound
shape_bound = record { lo = negsuc (27 * 2 ^ 125 - 1); hi = pos (2 ^ 149 + 27 * 2 ^ 125); err = 37 * 2 ^ 125 }

unit_covers : T (covers unit shape_bound)
unfolding covers unit shape_bound
unit_covers = tt

pub blend_covers : T (covers blend_bound shape_bound)
unfolding covers blend_bound shape_bound
blend_covers = tt

-- a float of the format that is equal to a number from 0 to 1
exactly : (x : Float) (A : Fraction) → T (fits binary32 x) → Equal (value x) A → Unit₀₁ A → Approximates binary32 x A unit
unfolding unit
exactly x A f e h = exact_input binary32 x A (pos 0) (pos (2 ^ 149)) f e (lower_at (2 ^ 149) A 0 1 0 (lit< tt) (lit≤ tt) h.from) (upper_at (2 ^ 149) A 1 1 (2 ^ 149) (lit< tt) (lit≤ tt) h.to)

turned_unit : {x : Float} {A : Fraction} → Turned x A (ratio 1 1) → Unit₀₁ A
turned_unit h = record { from = h.above; to = h.below }

pub equal_shape : (x : Float) (A : Fraction) → T (fits binary32 x) → Equal (value x) A → Unit₀₁ A → Approximates binary32 x A shape_bound
equal_shape x A f e h = relax binary32 x A unit shape_bound (exactly x A f e h) unit_covers

-- ---- each is a float of the format
pub triangle_fits : (p : Float) → T (fits binary32 (triangle_of p))
unfolding triangle_of
triangle_fits p = cond-fits binary32 (lt (wrap_of p) half₃₂) (wrap_of p ⊗ two₃₂) (two₃₂ ⊖ wrap_of p ⊗ two₃₂) (mul-fits binary32 (wrap_of p) two₃₂) (sub-fits binary32 two₃₂ (wrap_of p ⊗ two₃₂))

pub square_fits : (p : Float) → T (fits binary32 (square_of p))
unfolding square_of
square_fits p = cond-fits binary32 (lt (wrap_of p) half₃₂) one₃₂ zero₃₂ (of_bits-fits binary32 0x3f80_0000) (of_bits-fits binary32 0)

pub sampled_fits : (p : Float) → T (fits binary32 (sampled_of p))
unfolding sampled_of sample_of
sampled_fits p = (sample_level (to_unsigned 64 (clamp_of zero₃₂ seven₃₂ (index_of (floor_of p))))).holds

-- ---- TRIANGLE, from 0 to 1
triangle_unit : (W : Fraction) (b : Bool) → Defined W → (T b → W ≤ℚ ratio 1 2) → (T (not b) → ratio 1 2 ≤ℚ W) → Unit₀₁ W → Unit₀₁ (cond b (ratio 2 1 *ℚ W) (ratio 2 1 -ℚ ratio 2 1 *ℚ W))
triangle_unit W true d u v h =
    record {
      from = ≤ℚ-trans (ratio 0 1) (ratio 2 1 *ℚ ratio 0 1) (ratio 2 1 *ℚ W) (lit< tt) (le_z_yes tt) (scale_le 2 1 (ratio 0 1) W h.from);
      to = ≤ℚ-trans (ratio 2 1 *ℚ W) (ratio 2 1 *ℚ ratio 1 2) (ratio 1 1) (lit< tt) (scale_le 2 1 W (ratio 1 2) (u tt)) (le_z_yes tt);
    }
triangle_unit W false d u v h =
    let X = ratio 2 1 *ℚ W in
    let D = mul-pos (lit< tt) d in
    record {
      from = at_least_minus (ratio 2 1) X (ratio 0 1) D (zero_plus X (≤ℚ-trans X (ratio 2 1 *ℚ ratio 1 1) (ratio 2 1) (lit< tt) (scale_le 2 1 W (ratio 1 1) h.to) (le_z_yes tt)));
      to = minus_at_most (ratio 2 1) X (ratio 1 1) D (one_plus X (≤ℚ-trans (ratio 1 1) (ratio 2 1 *ℚ ratio 1 2) X (lit< tt) (le_z_yes tt) (scale_le 2 1 (ratio 1 2) W (v tt))));
    }
  where
    zero_plus : (X : Fraction) → X ≤ℚ ratio 2 1 → ratio 0 1 +ℚ X ≤ℚ ratio 2 1
    zero_plus X h = parts-≤ℚ (ratio 0 1 +ℚ X) (ratio 2 1) (go (num⁺ X) (num⁻ X) X.den (num⁺ (ratio 0 1 +ℚ X)) (num⁻ (ratio 0 1 +ℚ X)) (sum_parts (ratio 0 1) X) (≤ℚ-parts X (ratio 2 1) h))
      where
        go : (P N D S R : ℕ) → S + (0 * D + N * 1) ≡ R + (0 * D + P * 1) → P * 1 + 0 * D ≤ 2 * D + N * 1 → S * 1 + 0 * (1 * D) ≤ 2 * (1 * D) + R * 1
        go P N D S R e h = omega arith

    one_plus : (X : Fraction) → ratio 1 1 ≤ℚ X → ratio 2 1 ≤ℚ ratio 1 1 +ℚ X
    one_plus X h = parts-≤ℚ (ratio 2 1) (ratio 1 1 +ℚ X) (go (num⁺ X) (num⁻ X) X.den (num⁺ (ratio 1 1 +ℚ X)) (num⁻ (ratio 1 1 +ℚ X)) (sum_parts (ratio 1 1) X) (≤ℚ-parts (ratio 1 1) X h))
      where
        go : (P N D S R : ℕ) → S + (0 * D + N * 1) ≡ R + (1 * D + P * 1) → 1 * D + N * 1 ≤ P * 1 + 0 * D → 2 * (1 * D) + R * 1 ≤ S * 1 + 0 * (1 * D)
        go P N D S R e h = omega arith

pub triangle_bounded : (p : Float) → T (fits binary32 p) → Phase p → Approximates binary32 (triangle_of p) (triangleℚ (value p)) shape_bound
triangle_bounded p f h =
    let w = wrap_turned p f h in
    let W = wrapℚ (value p) in
    equal_shape (triangle_of p) (triangleℚ (value p)) (triangle_fits p) (triangle_exact p f h)
    (rw (choice_is W (ratio 1 2) w.is.right (lit< tt)) (triangle_unit W (ltℚ W (ratio 1 2)) w.is.right (lt_le W (ratio 1 2)) (nlt_le W (ratio 1 2)) (turned_unit w)))

-- ---- SQUARE, RAMP UP AND HOLD
pub square_bounded : (p : Float) → T (fits binary32 p) → Phase p → Approximates binary32 (square_of p) (squareℚ (value p)) shape_bound
square_bounded p f h =
    let W = wrapℚ (value p) in
    equal_shape (square_of p) (squareℚ (value p)) (square_fits p) (square_exact p f h) (rw (choice_is W (ratio 1 2) (wrap_turned p f h).is.right (lit< tt)) (go (ltℚ W (ratio 1 2))))
  where
    go : (b : Bool) → Unit₀₁ (cond b (ratio 1 1) (ratio 0 1))
    go true = record { from = le_z_yes tt; to = le_z_yes tt }
    go false = record { from = le_z_yes tt; to = le_z_yes tt }

pub ramp_up_bounded : (p : Float) → T (fits binary32 p) → Phase p → Approximates binary32 (ramp_up_of p) (ramp_upℚ (value p)) shape_bound
unfolding ramp_up_of
ramp_up_bounded p f h = let w = wrap_turned p f h in equal_shape (wrap_of p) (wrapℚ (value p)) w.holds w.is (turned_unit w)

sample_unit : (n : ℕ) → Unit₀₁ (value (get_or samples n half₃₂))
sample_unit n = level_unit (get_or samples n half₃₂) (sample_level n)

pub hold_bounded : (p : Float) → T (fits binary32 p) → Phase p → Approximates binary32 (sampled_of p) (holdℚ (value p)) shape_bound
unfolding sampleℚ
hold_bounded p f h =
    equal_shape (sampled_of p) (holdℚ (value p)) (subst (λ (x : Float). T (fits binary32 x)) (sym (hold_is p f h)) (sample_level (remainder (floorℚ (value p)))).holds) (hold_exact p f h)
    (rw (at_floor_is sampleℚ (value p) ((value_defined p).1 (phase_finite p h))) (sample_unit (remainder (floorℚ (value p)))))

-- ---- RAMP DOWN
fall : Expr
fall = minus (constant one₃₂) (var 0)

fall_ok : T (concludes binary32 (one unit) fall blend_bound)
unfolding concludes analyse covers fall unit blend_bound one of_bits
fall_ok = tt

pub ramp_down_bounded : (p : Float) → T (fits binary32 p) → Phase p → Approximates binary32 (ramp_down_of p) (ramp_downℚ (value p)) blend_bound
unfolding ramp_down_of fall eval_float eval_exact one value of_bits plain
ramp_down_bounded p f h =
    let w = wrap_turned p f h in
    let W = wrapℚ (value p) in
    concluded binary32 (one (wrap_of p)) (one W) (one unit) (one_input binary32 (wrap_of p) W unit (exactly (wrap_of p) W w.holds w.is (turned_unit w))) fall (plainly binary32 (one W) fall tt) blend_bound fall_ok

-- ---- GLIDE
low : (R : Fraction) → Unit₀₁ R → Lower (2 ^ 149) R (pos 0)
low R g = lower_at (2 ^ 149) R 0 1 0 (lit< tt) (lit≤ tt) g.from

high : (R : Fraction) → Unit₀₁ R → Upper (2 ^ 149) R (pos (2 ^ 149))
high R g = upper_at (2 ^ 149) R 1 1 (2 ^ 149) (lit< tt) (lit≤ tt) g.to

-- from the sample i to the sample j
blended : (i j : ℕ) (u : Float) (U : Fraction) → Turned u U (ratio 1 1)
    → Approximates binary32 (get_or samples i half₃₂ ⊕ (get_or samples j half₃₂ ⊖ get_or samples i half₃₂) ⊗ u) (value (get_or samples i half₃₂) +ℚ (value (get_or samples j half₃₂) -ℚ value (get_or samples i half₃₂)) *ℚ U) blend_bound
unfolding blend inside mix eval_float eval_exact three Facts plain
blended i j u U h =
    let a = get_or samples i half₃₂ in
    let b = get_or samples j half₃₂ in
    let A = value a in
    let B = value b in
    let R = A +ℚ (B -ℚ A) *ℚ U in
    let g = blend_unit A B U (sample_unit i) (sample_unit j) (turned_unit h) in
    concluded binary32 (three a b u) (three A B U) (three unit unit unit)
    (three_inputs binary32 a b u A B U unit unit unit (own i) (own j) (exactly u U h.holds h.is (turned_unit h)))
    blend (plainly binary32 (three A B U) mix tt, low R g, high R g) blend_bound blend_ok
  where
    own : (n : ℕ) → Approximates binary32 (get_or samples n half₃₂) (value (get_or samples n half₃₂)) unit
    own n =
        let x = get_or samples n half₃₂ in
        exactly x (value x) (sample_level n).holds (equal_refl ((value_defined x).1 (level_finite x (sample_level n)))) (sample_unit n)

-- at the walk's position -2 ^ -24, at the end of its cycle, the glide stands at the last sample: the exact one is 2 ^ -24 of its way before it
six : Float
six = bits 0x3e9e_b852

seven : Float
seven = bits 0x3f5c_28f6

late : Bound
late = record { lo = pos (16777215 * 2 ^ 125); hi = pos (2 ^ 149); err = 0 }

short : Expr
unfolding six seven
short = truncated (plus (constant seven) (times (minus (constant seven) (constant seven)) (var 0))) (plus (constant six) (times (minus (constant seven) (constant six)) (var 0)))

tied : Expr
unfolding inside short
tied = inside short

tied_ok : T (concludes binary32 (one late) tied blend_bound)
unfolding concludes analyse covers tied inside short late blend_bound one six seven of_bits
tied_ok = tt

tie_fract : (p : Float) → Equal (value p) (negℚ (ratio 1 16777216)) → ratio 16777215 16777216 ≤ℚ fractℚ (value p)
tie_fract p e =
    subst (λ (z : ℤ). ratio 16777215 16777216 ≤ℚ value p -ℚ whole z) (sym (floor_negative (value p) 1 16777216 (lit< tt) (lit≤ tt) e))
    (at_least_minus (value p) (whole (negsuc 0)) (ratio 16777215 16777216) (lit< tt)
    (≤ℚ-trans (ratio 16777215 16777216 +ℚ whole (negsuc 0)) (negℚ (ratio 1 16777216)) (value p) (lit< tt) (le_z_yes tt) (equal_at_most (equal_sym e)).le))

at_tie : (u : Float) (U : Fraction) → Turned u U (ratio 1 1) → ratio 16777215 16777216 ≤ℚ U
    → Approximates binary32 (get_or samples 7 half₃₂ ⊕ (get_or samples 7 half₃₂ ⊖ get_or samples 7 half₃₂) ⊗ u) (value (get_or samples 6 half₃₂) +ℚ (value (get_or samples 7 half₃₂) -ℚ value (get_or samples 6 half₃₂)) *ℚ U) blend_bound
unfolding tied inside short late six seven samples eval_float eval_exact one Facts plain
at_tie u U h l =
    let A = value (get_or samples 6 half₃₂) in
    let B = value (get_or samples 7 half₃₂) in
    let R = A +ℚ (B -ℚ A) *ℚ U in
    let g = blend_unit A B U (sample_unit 6) (sample_unit 7) (turned_unit h) in
    let i = exact_input binary32 u U (pos (16777215 * 2 ^ 125)) (pos (2 ^ 149)) h.holds h.is (lower_at (2 ^ 149) U 16777215 16777216 (16777215 * 2 ^ 125) (lit< tt) (lit≤ tt) l) (upper_at (2 ^ 149) U 1 1 (2 ^ 149) (lit< tt) (lit≤ tt) h.below) in
    concluded binary32 (one u) (one U) (one late) (one_input binary32 u U late i) tied (plainly binary32 (one U) short tt, low R g, high R g) blend_bound tied_ok

-- THE GLIDE, for a phase of at most 2 ^ 24
pub glide_bounded : (p : Float) → T (fits binary32 p) → Phase p → value p ≤ℚ ratio 16777216 1 → Approximates binary32 (glide_of p) (glideℚ (value p)) blend_bound
unfolding glide_of sampleℚ
glide_bounded p f h l =
    let d = (value_defined p).1 (phase_finite p h) in
    rw (at_floor_is sampleℚ (value p) d, at_floor_is (λ (z : ℤ). sampleℚ (z -ℤ pos 1)) (value p) d) (go (previous p f h l))
  where
    u : Turned (fract_of p) (fractℚ (value p)) (ratio 1 1)
    u = fract_turned p f h

    Near : Float → Float → Type 0
    Near a b = let z = floorℚ (value p) in Approximates binary32 (a ⊕ (b ⊖ a) ⊗ fract_of p) (sampleℚ (z -ℤ pos 1) +ℚ (sampleℚ z -ℚ sampleℚ (z -ℤ pos 1)) *ℚ fractℚ (value p)) blend_bound

    go : Previous p → Near (sampled_of (p ⊖ one₃₂)) (sampled_of p)
    go (regular e) =
        let z = floorℚ (value p) in
        subst₂ Near (sym e) (sym (hold_is p f h)) (blended (remainder (z -ℤ pos 1)) (remainder z) (fract_of p) (fractℚ (value p)) u)
    go (tie e d) =
        let z : floorℚ (value p) ≡ negsuc 0 = floor_negative (value p) 1 16777216 (lit< tt) (lit≤ tt) d in
        subst₂ Near (sym e) (sym (hold_is p f h ∙ ap (λ (y : ℤ). get_or samples (remainder y) half₃₂) z))
        (subst (λ (y : ℤ). Approximates binary32 (get_or samples 7 half₃₂ ⊕ (get_or samples 7 half₃₂ ⊖ get_or samples 7 half₃₂) ⊗ fract_of p) (sampleℚ (y -ℤ pos 1) +ℚ (sampleℚ y -ℚ sampleℚ (y -ℤ pos 1)) *ℚ fractℚ (value p)) blend_bound) (sym z)
        (at_tie (fract_of p) (fractℚ (value p)) u (tie_fract p d)))
