-- `floor` is `floor_of`: each case by its law. Assumes nothing.
use mathlib.Core.Path.{◌≡◌, refl, sym, ap, ◌∙◌, subst}
use mathlib.Core.Bool.{Bool, true, false, not}
use native.Mathlib.Nat.{mod-le}
use native.Mathlib.Omega.{arith}
use lib.Dec.{T, lit≤}
use lib.Ieee.{Float, binary32, to_bits, is_nan, nan_bits, fits, ne}
use lib.Ieee.Bits.{of_bits-to_bits, nan_bits_is}
use borrow.Author.Tests.{eq-eqb, ne_eqb}
use Rattle.exact.specs.Binary32.{bits}
use Rattle.math.proofs.Nan.{is_nan_tested, not_nan}
use Rattle.floor.proofs.Patterns.{weight_pos, weight_number}
use Rattle.floor.proofs.ByExponent.{nan_at, small_at, cut_at, large_at}
use Rattle.floor.proofs.floor.Goals as goal

-- the pattern of `x` stands for it
held : (x : Float) → fits binary32 x ≡ true → bits (to_bits binary32 x) ≡ x
held x h = of_bits-to_bits binary32 x (subst T (sym h) tt)

-- and, where `x` is no NaN, is none's
number : (x : Float) → fits binary32 x ≡ true → ne x x ≡ false → T (not (nan_bits binary32 (to_bits binary32 x)))
number x h e =
    let n = is_nan_tested false x e in
    subst (λ (t : Bool). T (not t)) (sym (nan_bits_is binary32 (to_bits binary32 x) ∙ ap is_nan (held x h) ∙ n)) tt

pub returns-then-x : goal.returns-then-x
returns-then-x c = nan_at _ c.if-x.true

pub float_to_bits-bits : goal.float_to_bits-bits
float_to_bits-bits c = not_nan _ (is_nan_tested false _ c.if-x.false)

pub returns-then-x-2 : goal.returns-then-x-2
returns-then-x-2 c = small_at _ _ (held _ c.well_formed.0.1) (omega (arith, c.if-field-lt-ONE.true)) true c.if-x-2.true

pub returns-then-field-lt-ONE : goal.returns-then-field-lt-ONE
returns-then-field-lt-ONE c = small_at _ _ (held _ c.well_formed.0.1) (omega (arith, c.if-field-lt-ONE.true)) false c.if-x-2.false

pub returns-then-field-ge-WHOLE : goal.returns-then-field-ge-WHOLE
returns-then-field-ge-WHOLE c = large_at _ _ (held _ c.well_formed.0.1) (omega (arith, c.if-field-ge-WHOLE.true))

pub nonzero_rem-low : goal.nonzero_rem-low
nonzero_rem-low c = weight_pos _ _ (lit≤ tt) (omega (arith, c.if-field-ge-WHOLE.false))

pub overflow_sub-cleared : goal.overflow_sub-cleared
overflow_sub-cleared c = mod-le _ _

pub float_from_bits-cleared : goal.float_from_bits-cleared
float_from_bits-cleared c = weight_number _ _ _ (lit≤ tt) (weight_pos _ _ (lit≤ tt) (omega (arith, c.if-field-ge-WHOLE.false))) (omega (arith, c.if-field-lt-ONE.false)) (number _ c.well_formed.0.1 c.if-x.false)

pub returns-then-low-ne0 : goal.returns-then-low-ne0
returns-then-low-ne0 c =
    cut_at _ _ (held _ c.well_formed.0.1) (omega (arith, c.if-field-lt-ONE.false)) (omega (arith, c.if-field-ge-WHOLE.false)) true false
    c.if-x-3.true (ne_eqb _ 0 c.if-low-ne0.true)

pub returns-else-low-ne0 : goal.returns-else-low-ne0
returns-else-low-ne0 c =
    cut_at _ _ (held _ c.well_formed.0.1) (omega (arith, c.if-field-lt-ONE.false)) (omega (arith, c.if-field-ge-WHOLE.false)) true true
    c.if-x-3.true (eq-eqb _ 0 c.if-low-ne0.false)

pub returns-else-x-3 : goal.returns-else-x-3
returns-else-x-3 c =
    cut_at _ _ (held _ c.well_formed.0.1) (omega (arith, c.if-field-lt-ONE.false)) (omega (arith, c.if-field-ge-WHOLE.false)) false _
    c.if-x-3.false refl
