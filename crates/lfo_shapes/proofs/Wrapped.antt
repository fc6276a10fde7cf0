-- WRAP IS EXACT: where a phase falls within its cycle is in binary32 what it is exactly, from 0 to 1, for every phase of a curve. Assumes nothing.
use mathlib.Core.Path.{◌≡◌, refl, sym, ap, subst, ◌∙◌}
use mathlib.Core.Bool.{Bool, true, false, not, cond, ◌&&◌}
use Prim.Native.Nat.{◌<◌}
use native.Mathlib.Nat.{not-le_of_lt}
use lib.Dec.{T, lit<}
use lib.Signed.{le_z_yes}
use lib.Ieee.{Float, binary32, of_bits, of_int, sub, lt, le, fits}
use lib.Ieee.Fits.{cond-fits}
use lib.Ieee.Scale.{finite}
use Rattle.exact.specs.Fraction.{Fraction, ratio, ltℚ, ◌≤ℚ◌}
use Rattle.exact.specs.Value.{value, Equal}
use Rattle.exact.specs.Binary32.{zero₃₂, half₃₂, one₃₂}
use Rattle.exact.proofs.Defined.{value_defined, choice_is}
use Rattle.exact.proofs.Order.{cross, ≤ℚ-parts, ltℚ_parts, equal_refl, le_value}
use Rattle.exact.proofs.Inequality.{nlt_le, lt_equal}
use Rattle.floor.specs.Formula.{floor_of, fract_of}
use Rattle.floor.specs.Exact.{fractℚ}
use Rattle.floor.proofs.Turned.{Turned, compared}
use Rattle.floor.proofs.Phase.{Phase, phase_finite, fract_fits, fract_turned}
use Rattle.lfo_shapes.specs.Formula.{wrap_of}
use Rattle.lfo_shapes.specs.Exact.{wrapℚ}

pub zero_equal : Equal (value zero₃₂) (ratio 0 1)
unfolding value of_bits
zero_equal = equal_refl (lit< tt)

pub half_equal : Equal (value half₃₂) (ratio 1 2)
unfolding value of_bits
half_equal = equal_refl (lit< tt)

pub one_equal : Equal (value one₃₂) (ratio 1 1)
unfolding value of_bits
one_equal = equal_refl (lit< tt)

pub one_fits : T (fits binary32 one₃₂)
unfolding fits of_bits
one_fits = tt

-- ---- the float comparison is the exact one
le_not : (x y : Float) → T (finite x) → T (finite y) → le x y ≡ not (ltℚ (value y) (value x))
le_not x y X Y = go (le x y) (ltℚ (value y) (value x)) (le_value x y X Y).0 (le_value x y X Y).1 (ltℚ_parts (value y) (value x)) (nlt_le (value y) (value x))
  where
    go : (a b : Bool) → (T a → value x ≤ℚ value y) → (value x ≤ℚ value y → T a) → (T b → cross (value y) (value x) < cross (value x) (value y)) → (T (not b) → value x ≤ℚ value y) → a ≡ not b
    go true false h k i j = refl
    go false true h k i j = refl
    go true true h k i j = absurd (not-le_of_lt (i tt) (≤ℚ-parts (value x) (value y) (h tt)))
    go false false h k i j = absurd (k (j tt))

not_above : (x y : Float) {A B : Fraction} → Equal (value x) A → Equal (value y) B → le x y ≡ not (ltℚ B A)
not_above x y e d = le_not x y ((value_defined x).0 e.left) ((value_defined y).0 d.left) ∙ ap not (lt_equal d e)

-- ---- phase 0 is the start of a cycle, and phase 1 the end of one
wrap_start : wrap_of zero₃₂ ≡ zero₃₂
unfolding wrap_of fract_of floor_of value lt le of_bits of_int sub
wrap_start = refl

wrap_end : wrap_of one₃₂ ≡ one₃₂
unfolding wrap_of fract_of floor_of value lt le of_bits of_int sub
wrap_end = refl

pub wrap_fits : (p : Float) → T (fits binary32 (wrap_of p))
unfolding wrap_of
wrap_fits p = cond-fits binary32 (lt zero₃₂ p && le (fract_of p) zero₃₂) one₃₂ (fract_of p) one_fits (fract_fits p)

-- ---- THE THEOREM
pub wrap_turned : (p : Float) → T (fits binary32 p) → Phase p → Turned (wrap_of p) (wrapℚ (value p)) (ratio 1 1)
unfolding wrap_of
wrap_turned p f h =
    let t = fract_turned p f h in
    let e = equal_refl ((value_defined p).1 (phase_finite p h)) in
    let P = value p in
    let R = fractℚ P in
    rw (choice_is (ratio 0 1) R (lit< tt) t.is.right R (ratio 1 1), choice_is (ratio 0 1) P (lit< tt) e.left (cond (ltℚ (ratio 0 1) R) R (ratio 1 1)) R)
    (subst (λ (b : Bool). Turned (cond b one₃₂ (fract_of p)) (cond (ltℚ (ratio 0 1) P) (cond (ltℚ (ratio 0 1) R) R (ratio 1 1)) R) (ratio 1 1))
    (sym (ap (λ (a : Bool). a && le (fract_of p) zero₃₂) (compared zero₃₂ p zero_equal e) ∙ ap (λ (b : Bool). ltℚ (ratio 0 1) (value p) && b) (not_above (fract_of p) zero₃₂ t.is zero_equal)))
    (go (ltℚ (ratio 0 1) P) (ltℚ (ratio 0 1) R) t))
  where
    go : (a b : Bool) → Turned (fract_of p) (fractℚ (value p)) (ratio 1 1)
        → Turned (cond (a && not b) one₃₂ (fract_of p)) (cond a (cond b (fractℚ (value p)) (ratio 1 1)) (fractℚ (value p))) (ratio 1 1)
    go true false t = record { holds = one_fits; is = one_equal; above = le_z_yes tt; below = le_z_yes tt }
    go true true t = t
    go false b t = t
