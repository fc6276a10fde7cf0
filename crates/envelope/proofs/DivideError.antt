-- WHERE t LIES BETWEEN TWO ENDS, in binary32, IS WITHIN 4 * 2 ^ -24 OF WHERE IT LIES EXACTLY, however near the ends are. A difference of two floats is off by at most
-- 2 ^ -24 of its own size, so that the quotient of two is off by little more than 2 ^ -23 of its size, and it is at most 1; its own rounding adds 2 ^ -24. The clamp
-- to 0..1 adds nothing. The rounded width has the sign of the exact one, so that both sides see the same stretches without width. Assumes nothing.
use mathlib.Core.Path.{◌≡◌, refl}
use mathlib.Core.Bool.{Bool, true, false, not, cond}
use Prim.Native.Nat.{◌+◌, ◌-◌, ◌*◌, ◌^◌}
use lib.IntN.{pos}
use lib.Dec.{T, lit<, lit≤}
use lib.Ieee.{Float, binary32, of_bits, fits, le, lt, sub, div}
use lib.Ieee.Fits.{sub-fits, div-fits, cond-fits}
use lib.Ieee.Scale.{finite, overflow}
use Rattle.exact.specs.Fraction.{Fraction, Defined, ratio, whole, absℚ, clamp_unitℚ, ltℚ, ◌+ℚ◌, ◌-ℚ◌, ◌*ℚ◌, ◌/ℚ◌, ◌≤ℚ◌}
use Rattle.exact.specs.Value.{value, Within, RelativelyWithin}
use Rattle.exact.specs.Binary32.{◌⊖◌, ◌⊘◌, bits, zero₃₂, one₃₂}
use Rattle.exact.proofs.Defined.{value_defined, given_is, choice_is}
use Rattle.exact.proofs.Order.{parts-≤ℚ, ≤ℚ-trans, sum_raise_left, equal_refl, equal_sym, equal_within, within_triangle, within_loosen, within_equal_left, le_value, between_finite}
use Rattle.exact.proofs.Inequality.{nlt_le}
use Rattle.exact.proofs.Lipschitz.{unit_within, unit_value, unit_at_most_one, zero_at_most_unit}
use Rattle.rounding.proofs.Relative.{relative_quotient, relative_absolute}
use Rattle.rounding.proofs.UnitRoundoff.{sub_relative}
use Rattle.rounding.proofs.Bounds.{lower_at, upper_at}
use Rattle.rounding.proofs.Analyser.{Bound, Expr, var, minus, quotient, Approximates, constant_of, analyse, certified, plain, eval_float, eval_exact, Facts}
use Rattle.rounding.proofs.Soundness.{plainly}
use Rattle.rounding.proofs.Inputs.{range, input, own_near, two, two_inputs, bounded}
use Rattle.math.specs.Formulas.{clamp_of}
use Rattle.curve.specs.Curve.{clamp_unit_of}
use Rattle.envelope.specs.Formula.{divide_of}
use Rattle.envelope.specs.Exact.{divideℚ}
use Rattle.rounding.proofs.Signs.{Positive, positive_abs, abs_at_most, difference_positive, difference_nonnegative, difference_nonpositive, difference_monotone, relative_nonpositive, relative_nonnegative, relative_positive, quotient_nonnegative, quotient_at_most_one}
use Rattle.rounding.proofs.FloatBounds.{within_near, positive_quantum, finite_upper, positive_test}

-- ---- A NARROW STRETCH, computed: the float after 1 lies a third of the way from 1 to the third float after it
divide_narrow : T (ltℚ (absℚ (value (divide_of (bits 0x3f80_0001) one₃₂ (bits 0x3f80_0003)) -ℚ ratio 1 3)) (ratio 4 (2 ^ 24)))
unfolding divide_of clamp_of value of_bits le lt sub div
divide_narrow = tt

-- ---- AN END, and a position: a float of binary32 from 0 to 2
pub record End (x : Float) : Type 0 where
  pub holds : T (fits binary32 x)
  pub from : T (le zero₃₂ x)
  pub to : T (le x (bits 0x4000_0000))

pub end_finite : (x : Float) → End x → T (finite x)
unfolding of_bits
end_finite x h = between_finite zero₃₂ x (bits 0x4000_0000) tt tt h.from h.to

end_bound : Bound
unfolding range
end_bound = range binary32 zero₃₂ (bits 0x4000_0000)

end_input : (x : Float) → End x → Approximates binary32 x (value x) end_bound
unfolding end_bound constant_of of_bits
end_input x h = input binary32 x zero₃₂ (bits 0x4000_0000) h.holds tt tt h.from h.to

-- ---- THE DIFFERENCE of two ends
difference : Expr
difference = minus (var 0) (var 1)

difference_ok : T (certified binary32 (two end_bound end_bound) difference 1 1)
unfolding certified analyse difference end_bound range two of_bits
difference_ok = tt

difference_finite : (x y : Float) → End x → End y → T (finite (x ⊖ y))
unfolding difference two eval_float eval_exact plain
difference_finite x y h k =
    (value_defined (x ⊖ y)).0
    (bounded binary32 (two x y) (two (value x) (value y)) (two end_bound end_bound) (two_inputs binary32 x y (value x) (value y) end_bound end_bound (end_input x h) (end_input y k)) difference
    (plainly binary32 (two (value x) (value y)) difference tt) 1 1 (lit< tt) difference_ok).left

difference_relative : (x y : Float) → End x → End y → RelativelyWithin (value (x ⊖ y)) (value x -ℚ value y) (ratio 1 (2 ^ 24))
difference_relative x y h k = sub_relative binary32 x y h.holds k.holds (difference_finite x y h k)

-- it is above 0 just where the first end is above the second
sign_agrees : (x y : Float) → End x → End y → le (x ⊖ y) zero₃₂ ≡ not (ltℚ (value y) (value x))
unfolding value of_bits
sign_agrees x y h k =
    let w = x ⊖ y in
    let r = difference_relative x y h k in
    go (ltℚ (value y) (value x))
    (λ t. positive_test w r.left (relative_positive (value w) (value x -ℚ value y) 1 (2 ^ 24) (lit< tt) r (difference_positive (value x) (value y) t)))
    (λ t. (le_value w zero₃₂ ((value_defined w).0 r.left) tt).1 (relative_nonpositive (value w) (value x -ℚ value y) 1 (2 ^ 24) (lit< tt) (lit≤ tt) r (difference_nonpositive (value x) (value y) (nlt_le (value y) (value x) t))))
  where
    passed : (b : Bool) → T b → b ≡ true
    passed true h = refl
    passed false h = absurd h

    go : (b : Bool) → (T b → le (x ⊖ y) zero₃₂ ≡ false) → (T (not b) → T (le (x ⊖ y) zero₃₂)) → le (x ⊖ y) zero₃₂ ≡ not b
    go true p n = p tt
    go false p n = passed (le (x ⊖ y) zero₃₂) (n tt)

-- ---- A STRETCH: t lies from one end to the other
pub record Stretch (t from to : Float) : Type 0 where
  pub at : End t
  pub start : End from
  pub stop : End to
  pub after : value from ≤ℚ value t
  pub before : value t ≤ℚ value to

-- what is rounded last: the quotient of the two rounded differences, from 0 to 2, by a number of at least one quantum
last : Expr
last = quotient (pos 0) (pos (2 ^ 150)) (var 0) (var 1)

dividend : Bound
dividend = record { lo = pos 0; hi = pos (overflow binary32); err = 0 }

divisor : Bound
divisor = record { lo = pos 1; hi = pos (overflow binary32); err = 0 }

last_ok : T (certified binary32 (two dividend divisor) last 1 (2 ^ 24))
unfolding certified analyse last dividend divisor two
last_ok = tt

-- a position along a stretch, from 0 to 1, and off by at most 4 * 2 ^ -24
unfoldable pub divide_bound : Bound
divide_bound = record { lo = pos 0; hi = pos (2 ^ 149); err = 2 ^ 127 }

unit_input : (x : Float) (A : Fraction) → T (fits binary32 x) → Within (value x) A (ratio (2 ^ 127) (2 ^ 149)) → ratio 0 1 ≤ℚ A → A ≤ℚ ratio 1 1 → Approximates binary32 x A divide_bound
unfolding divide_bound
unit_input x A f h l u =
    record {
      defined = h.right;
      near = within_near binary32 x A (2 ^ 127) f h;
      lower = lower_at (2 ^ 149) A 0 1 0 (lit< tt) (lit≤ tt) l;
      upper = upper_at (2 ^ 149) A 1 1 (2 ^ 149) (lit< tt) (lit≤ tt) u;
    }

no_width : Approximates binary32 zero₃₂ (whole (pos 0)) divide_bound
unfolding value of_bits fits
no_width = unit_input zero₃₂ (whole (pos 0)) tt (equal_within (equal_refl (lit< tt)) (lit< tt)) (parts-≤ℚ (ratio 0 1) (ratio 0 1) (lit≤ tt)) (parts-≤ℚ (ratio 0 1) (ratio 1 1) (lit≤ tt))

-- ---- a stretch that has a width
below_two : (q Q : Fraction) → Within q Q (ratio 3 (2 ^ 24)) → Q ≤ℚ ratio 1 1 → q ≤ℚ ratio 2 1
below_two q Q h k =
    ≤ℚ-trans q (ratio 1 1 +ℚ ratio 3 (2 ^ 24)) (ratio 2 1) (lit< tt) (sum_raise_left q Q (ratio 1 1) (ratio 3 (2 ^ 24)) h.right h.below k) (parts-≤ℚ (ratio 1 1 +ℚ ratio 3 (2 ^ 24)) (ratio 2 1) (lit≤ tt))

last_rounded : (x y : Float) → T (fits binary32 x) → T (fits binary32 y) → Defined (value x) → Defined (value y) → ratio 0 1 ≤ℚ value x → Positive (value y) → value x /ℚ value y ≤ℚ ratio 2 1
    → Within (value (x ⊘ y)) (value x /ℚ value y) (ratio 1 (2 ^ 24))
unfolding last dividend divisor two eval_float eval_exact Facts
last_rounded x y fx fy dx dy n p h =
    let ix = (value_defined x).0 dx in
    let iy = (value_defined y).0 dy in
    bounded binary32 (two x y) (two (value x) (value y)) (two dividend divisor)
    (two_inputs binary32 x y (value x) (value y) dividend divisor
    (record { defined = dx; near = own_near binary32 x fx ix; lower = lower_at (2 ^ 149) (value x) 0 1 0 (lit< tt) (lit≤ tt) n; upper = finite_upper binary32 x fx ix })
    (record { defined = dy; near = own_near binary32 y fy iy; lower = positive_quantum binary32 y fy dy p; upper = finite_upper binary32 y fy iy }))
    last
    ((tt, tt), lower_at (2 ^ 149) (value x /ℚ value y) 0 1 0 (lit< tt) (lit≤ tt) (quotient_nonnegative (value x) (value y) dy p n), upper_at (2 ^ 149) (value x /ℚ value y) 2 1 (2 ^ 150) (lit< tt) (lit≤ tt) h)
    1 (2 ^ 24) (lit< tt) last_ok

pub unit_fits : (x : Float) → T (fits binary32 x) → T (fits binary32 (clamp_unit_of x))
unfolding clamp_of fits of_bits
unit_fits x h = cond-fits binary32 (lt x zero₃₂) zero₃₂ (cond (lt one₃₂ x) one₃₂ x) tt (cond-fits binary32 (lt one₃₂ x) one₃₂ x tt h)

clamped : (x : Float) (X : Fraction) → Within (value x) X (ratio (2 ^ 127) (2 ^ 149)) → Within (value (clamp_unit_of x)) (clamp_unitℚ X) (ratio (2 ^ 127) (2 ^ 149))
unfolding clamp_of of_bits
clamped x X h = within_equal_left (equal_sym (unit_value x ((value_defined x).0 h.left))) (unit_within h)

some_width : (t from to : Float) → Stretch t from to → T (ltℚ (value from) (value to))
    → Approximates binary32 (clamp_unit_of ((t ⊖ from) ⊘ (to ⊖ from))) (clamp_unitℚ ((value t -ℚ value from) /ℚ (value to -ℚ value from))) divide_bound
some_width t from to s l =
    let x = t ⊖ from in
    let y = to ⊖ from in
    let a = value x in
    let b = value y in
    let A = value t -ℚ value from in
    let B = value to -ℚ value from in
    let ra = difference_relative t from s.at s.start in
    let rb = difference_relative to from s.stop s.start in
    let pB = difference_positive (value to) (value from) l in
    let pb = relative_positive b B 1 (2 ^ 24) (lit< tt) rb pB in
    let nA = difference_nonnegative (value t) (value from) s.after in
    let na = relative_nonnegative a A 1 (2 ^ 24) (lit< tt) (lit≤ tt) ra nA in
    let lo = quotient_nonnegative A B rb.right pB nA in
    let hi = quotient_at_most_one A B rb.right pB (difference_monotone (value t) (value to) (value from) s.before) in
    let exact : Within (a /ℚ b) (A /ℚ B) (ratio 3 (2 ^ 24)) =
    within_loosen (relative_absolute (ratio 1 1) (2 ^ 24 + 2 ^ 24) (2 ^ 24 * (2 ^ 24 - 1)) (relative_quotient 1 (2 ^ 24) 1 (2 ^ 24) ra rb (lit< tt) (positive_abs B pB)) (lit< tt) (abs_at_most (A /ℚ B) (ratio 1 1) lo hi))
    (lit< tt) (parts-≤ℚ (ratio (2 ^ 24 + 2 ^ 24) (2 ^ 24 * (2 ^ 24 - 1)) *ℚ ratio 1 1) (ratio 3 (2 ^ 24)) (lit≤ tt)) in
    let rounded = last_rounded x y (sub-fits binary32 t from) (sub-fits binary32 to from) ra.left rb.left na pb (below_two (a /ℚ b) (A /ℚ B) exact hi) in
    let near = within_loosen (within_triangle rounded exact) (lit< tt) (parts-≤ℚ (ratio 1 (2 ^ 24) +ℚ ratio 3 (2 ^ 24)) (ratio (2 ^ 127) (2 ^ 149)) (lit≤ tt)) in
    unit_input (clamp_unit_of (x ⊘ y)) (clamp_unitℚ (A /ℚ B)) (unit_fits (x ⊘ y) (div-fits binary32 x y)) (clamped (x ⊘ y) (A /ℚ B) near) (zero_at_most_unit (A /ℚ B) exact.right).le (unit_at_most_one (A /ℚ B) exact.right).le

-- ---- EVERY STRETCH
pub divide_near : (t from to : Float) → Stretch t from to → Approximates binary32 (divide_of t from to) (divideℚ (value t) (value from) (value to)) divide_bound
unfolding divide_of divideℚ
divide_near t from to s =
    rw (choice_is (value from) (value to) (has_value from s.start) (has_value to s.stop), given_is (value t).den (has_value t s.at))
    (rw (sign_agrees to from s.stop s.start) (go (ltℚ (value from) (value to)) (some_width t from to s)))
  where
    has_value : (x : Float) → End x → Defined (value x)
    has_value x h = (value_defined x).1 (end_finite x h)

    x : Float
    x = (t ⊖ from) ⊘ (to ⊖ from)

    X : Fraction
    X = (value t -ℚ value from) /ℚ (value to -ℚ value from)

    go : (b : Bool) → (T b → Approximates binary32 (clamp_unit_of x) (clamp_unitℚ X) divide_bound) → Approximates binary32 (cond (not b) zero₃₂ (clamp_unit_of x)) (cond b (clamp_unitℚ X) (whole (pos 0))) divide_bound
    go true k = k tt
    go false k = no_width

pub divide_fits : (t from to : Float) → T (fits binary32 (divide_of t from to))
unfolding divide_of fits of_bits
divide_fits t from to =
    let x = (t ⊖ from) ⊘ (to ⊖ from) in
    cond-fits binary32 (le (to ⊖ from) zero₃₂) zero₃₂ (clamp_unit_of x) tt (unit_fits x (div-fits binary32 (t ⊖ from) (to ⊖ from)))
