-- THE LIMIT OF A STEP, which is 2 / slew times the distance gone: each of the three roundings costs 2 ^ -24 of its own size. So it lies within 97 * 2 ^ -29 of the exact one
-- where that is at most 1 + 2 ^ -9, and is above 1 + 2 ^ -10 where the exact one is more than that; and neither is negative. Assumes nothing.
use Prim.Native.Nat.{ℕ, ◌+◌, ◌*◌, ◌^◌, ◌≤◌, ◌<◌}
use native.Mathlib.Nat.{mul-pos, mul-le-mul_right}
use native.Mathlib.Omega.{arith}
use lib.IntN.{pos, negsuc, nat_abs}
use lib.Signed.{le_z_yes}
use lib.Dec.{T, lit<, lit≤}
use lib.Ieee.{Float, binary32, of_bits, fits, le, neg}
use lib.Ieee.Fits.{sub-fits, mul-fits, div-fits}
use lib.Ieee.Scale.{finite}
use Rattle.exact.specs.Fraction.{Fraction, Defined, ratio, absℚ, ◌+ℚ◌, ◌-ℚ◌, ◌*ℚ◌, ◌≤ℚ◌}
use Rattle.exact.specs.Value.{value, Within, RelativelyWithin}
use Rattle.exact.specs.Binary32.{◌⊖◌, ◌⊗◌, bits, one₃₂}
use Rattle.exact.proofs.Order.{≤ℚ-parts, parts-≤ℚ, ≤ℚ-refl, ≤ℚ-trans, sum_raise_left, AtMost, within_triangle, within_loosen, le_value}
use Rattle.exact.proofs.Inequality.{scale_le, le_abs, minus_at_most}
use Rattle.exact.proofs.Defined.{value_defined}
use Rattle.rounding.proofs.Relative.{relative_loosen, relative_product, relative_absolute}
use Rattle.rounding.proofs.UnitRoundoff.{sub_relative, mul_relative, div_relative, roundoff}
use Rattle.rounding.proofs.Signs.{abs_at_most, difference_nonnegative, relative_nonnegative}
use Rattle.rounding.proofs.Analyser.{Bound, Expr, var, minus, times, Approximates, constant_of, analyse, certified, plain, eval_float, eval_exact}
use Rattle.rounding.proofs.Soundness.{plainly}
use Rattle.rounding.proofs.Inputs.{range, input, covers, one, one_input, two, two_inputs, bounded, concludes, concluded}
use Rattle.rounding.proofs.OwnRange.{widened, own_range, approximates_finite}
use Rattle.floor.proofs.Phase.{phase_finite}
use Rattle.walk.specs.Formula.{limit_of}
use Rattle.walk.specs.Exact.{limitℚ}
use Rattle.walk.proofs.LimitError.{two₃₂, slew_bound, limit, limit_bound, limit_ok}
use Rattle.walk.proofs.Advances.{Stepped, eight₃₂}
use Rattle.walk.proofs.ProductSign.{product_nonnegative, product_at_most, mul_nonnegative}

-- ---- THE LIMIT OF A CYCLE, for a slew from 1/255 to 1
pub record Slew (x : Float) : Type 0 where
  pub holds : T (fits binary32 x)
  pub from : T (le (bits 0x3b80_8081) x)
  pub to : T (le x one₃₂)

slew_input_lem : (x : Float) → Slew x → Approximates binary32 x (value x) slew_bound
unfolding slew_bound constant_of of_bits
slew_input_lem x h = input binary32 x (bits 0x3b80_8081) one₃₂ h.holds tt tt h.from h.to

limit_bounded : (x : Float) → Slew x → Approximates binary32 (limit_of x) (limitℚ (value x)) limit_bound
unfolding limit one eval_float eval_exact plain value of_bits limit_of limitℚ
limit_bounded x h =
    concluded binary32 (one x) (one (value x)) (one slew_bound) (one_input binary32 x (value x) slew_bound (slew_input_lem x h)) limit (plainly binary32 (one (value x)) limit tt) limit_bound limit_ok

-- where a quotient is at least 1, what underflows is within its roundoff
no_underflow : (a : Fraction) (A B : ℕ) → ratio 1 1 ≤ℚ absℚ a → ratio 1 A *ℚ absℚ a +ℚ ratio 1 B ≤ℚ ratio (A + B) (A * B) *ℚ absℚ a
no_underflow a A B h =
    parts-≤ℚ (ratio 1 A *ℚ absℚ a +ℚ ratio 1 B) (ratio (A + B) (A * B) *ℚ absℚ a) (core (nat_abs a.num) a.den (≤ℚ-parts (ratio 1 1) (absℚ a) h))
  where
    core : (z d : ℕ) → 1 * d + 0 * 1 ≤ z * 1 + 0 * d → (1 * z * B + 1 * (A * d)) * (A * B * d) + 0 * (A * d * B) ≤ (A + B) * z * (A * d * B) + 0 * (A * B * d)
    core z d h = omega (arith, mul-le-mul_right (A * (A * (d * B))) h)

limit_least : (x : Float) → Slew x → ratio 1 1 ≤ℚ limitℚ (value x)
unfolding limit_bound
limit_least x h = ≤ℚ-trans (ratio 1 1) (ratio (2 ^ 149) (2 ^ 149)) (limitℚ (value x)) (lit< tt) (le_z_yes tt) (parts-≤ℚ (ratio (2 ^ 149) (2 ^ 149)) (limitℚ (value x)) (limit_bounded x h).lower)

limit_most : (x : Float) → Slew x → limitℚ (value x) ≤ℚ ratio 512 1
unfolding limit_bound
limit_most x h = ≤ℚ-trans (limitℚ (value x)) (ratio (512 * 2 ^ 149) (2 ^ 149)) (ratio 512 1) (lit< tt) (parts-≤ℚ (limitℚ (value x)) (ratio (512 * 2 ^ 149) (2 ^ 149)) (limit_bounded x h).upper) (le_z_yes tt)

limit_relative : (x : Float) → Slew x → RelativelyWithin (value (limit_of x)) (limitℚ (value x)) (ratio 1025 (2 ^ 34))
limit_relative x h =
    let L = limitℚ (value x) in
    let A = 2 ^ 24 in
    let B = 2 * 2 ^ 149 in
    let b = limit_bounded x h in
    let d = quotient_within x (approximates_finite binary32 x (value x) slew_bound (slew_input_lem x h)) (approximates_finite binary32 (limit_of x) L limit_bound b) in
    let l = ≤ℚ-trans (ratio 1 1) L (absℚ L) b.defined (limit_least x h) (le_abs L) in
    relative_loosen (A + B) (A * B) 1025 (2 ^ 34) (lit< tt) (lit≤ tt) (within_loosen d (mul-pos {m = A * B} (lit< tt) b.defined) (no_underflow L A B l))
  where
    quotient_within : (x : Float) → T (finite x) → T (finite (limit_of x)) → Within (value (limit_of x)) (limitℚ (value x)) (roundoff binary32 (limitℚ (value x)))
    quotient_within x t u = unfold limit_of in unfold limitℚ in unfold value in unfold of_bits in div_relative binary32 two₃₂ x t u

-- ---- THE DISTANCE GONE
place_bound : Bound
unfolding range
place_bound = range binary32 (neg one₃₂) eight₃₂

place_input : (x : Float) → T (fits binary32 x) → T (finite x) → value (neg one₃₂) ≤ℚ value x → value x ≤ℚ value eight₃₂ → Approximates binary32 x (value x) place_bound
unfolding place_bound constant_of of_bits neg
place_input x f t l h = input binary32 x (neg one₃₂) eight₃₂ f tt tt ((le_value (neg one₃₂) x tt t).1 l) ((le_value x eight₃₂ t tt).1 h)

gone : Expr
gone = minus (var 0) (var 1)

gone_bound : Bound
gone_bound = record { lo = negsuc (16 * 2 ^ 149); hi = pos (16 * 2 ^ 149); err = 2 ^ 149 }

gone_ok : T (concludes binary32 (two place_bound place_bound) gone gone_bound)
unfolding concludes covers analyse gone place_bound gone_bound range two of_bits neg
gone_ok = tt

gone_bounded : (p q : Float) → Stepped p q → Approximates binary32 (q ⊖ p) (value q -ℚ value p) gone_bound
unfolding gone two eval_float eval_exact plain
gone_bounded p q s =
    let Q = phase_finite q s.phase in
    let dp = (value_defined p).1 s.number in
    let dq = (value_defined q).1 Q in
    concluded binary32 (two q p) (two (value q) (value p)) (two place_bound place_bound)
    (two_inputs binary32 q p (value q) (value p) place_bound place_bound
    (place_input q s.stop Q (≤ℚ-trans (value (neg one₃₂)) (value p) (value q) dp s.lowest s.order) s.highest)
    (place_input p s.start s.number s.lowest (≤ℚ-trans (value p) (value q) (value eight₃₂) dq s.order s.highest)))
    gone (plainly binary32 (two (value q) (value p)) gone tt) gone_bound gone_ok

gone_relative : (p q : Float) → Stepped p q → RelativelyWithin (value (q ⊖ p)) (value q -ℚ value p) (ratio 1 (2 ^ 24))
gone_relative p q s = sub_relative binary32 q p s.stop s.start (approximates_finite binary32 (q ⊖ p) (value q -ℚ value p) gone_bound (gone_bounded p q s))

-- ---- THEIR PRODUCT
product : Expr
product = times (var 0) (var 1)

product_ok : T (certified binary32 (two (widened limit_bound) (widened gone_bound)) product 1 1)
unfolding certified analyse product limit_bound gone_bound two
product_ok = tt

most_finite : (x p q : Float) → Slew x → Stepped p q → T (finite (limit_of x ⊗ (q ⊖ p)))
unfolding product two eval_float eval_exact plain
most_finite x p q h s =
    let l = limit_of x in
    let g = q ⊖ p in
    (value_defined (l ⊗ g)).0
    (bounded binary32 (two l g) (two (value l) (value g)) (two (widened limit_bound) (widened gone_bound))
    (two_inputs binary32 l g (value l) (value g) (widened limit_bound) (widened gone_bound)
    (own_range binary32 l (limitℚ (value x)) limit_bound (unfold limit_of in div-fits binary32 _ _) (limit_bounded x h))
    (own_range binary32 g (value q -ℚ value p) gone_bound (sub-fits binary32 q p) (gone_bounded p q s)))
    product (plainly binary32 (two (value l) (value g)) product tt) 1 1 (lit< tt) product_ok).left

-- the roundoffs of the limit and of the distance, together
abbrev r : ℕ
r = 1025 * 2 ^ 24 + 2 ^ 34 * 1 + 1025 * 1

abbrev s₀ : ℕ
s₀ = 2 ^ 34 * 2 ^ 24

-- what is lost of a product of at most c
abbrev lost : Fraction → Fraction
lost c = ratio 1 (2 ^ 24) *ℚ (c +ℚ ratio r s₀ *ℚ c) +ℚ ratio 1 (2 * 2 ^ 149) +ℚ ratio r s₀ *ℚ c

exact_nonnegative : (x p q : Float) → Slew x → Stepped p q → ratio 0 1 ≤ℚ limitℚ (value x) *ℚ (value q -ℚ value p)
exact_nonnegative x p q h s =
    product_nonnegative (limitℚ (value x)) (value q -ℚ value p) (≤ℚ-trans (ratio 0 1) (ratio 1 1) (limitℚ (value x)) (lit< tt) (le_z_yes tt) (limit_least x h)) (difference_nonnegative (value q) (value p) s.order)

most_near : (x p q : Float) (n d : ℕ) (c : Fraction) → 0 < d → Slew x → Stepped p q → limitℚ (value x) *ℚ (value q -ℚ value p) ≤ℚ ratio n d → Defined c → lost (ratio n d) ≤ℚ c
    → Within (value (limit_of x ⊗ (q ⊖ p))) (limitℚ (value x) *ℚ (value q -ℚ value p)) c
most_near x p q n d c D h s u C v =
    let l = value (limit_of x) in
    let g = value (q ⊖ p) in
    let L = limitℚ (value x) in
    let G = value q -ℚ value p in
    let b = ratio n d in
    let e = ratio r s₀ *ℚ b in
    let E : Defined e = mul-pos {m = s₀} (lit< tt) D in
    let B : Defined (b +ℚ e) = mul-pos D E in
    let P = relative_product 1025 (2 ^ 34) 1 (2 ^ 24) (limit_relative x h) (gone_relative p q s) in
    let Z = exact_nonnegative x p q h s in
    let z = relative_nonnegative (l *ℚ g) (L *ℚ G) r s₀ (lit< tt) (lit≤ tt) P Z in
    let w = relative_absolute b r s₀ P D (abs_at_most (L *ℚ G) b Z u) in
    let y = abs_at_most (l *ℚ g) (b +ℚ e) z (sum_raise_left (l *ℚ g) (L *ℚ G) b e w.right w.below u) in
    let m = mul_relative binary32 (limit_of x) (q ⊖ p) (most_finite x p q h s) in
    let t = ratio 1 (2 * 2 ^ 149) in
    let k = ratio 1 (2 ^ 24) in
    let o = sum_raise_left (k *ℚ absℚ (l *ℚ g) +ℚ t) (k *ℚ absℚ (l *ℚ g)) (k *ℚ (b +ℚ e)) t (mul-pos {m = 2 ^ 24} (lit< tt) w.left) (≤ℚ-refl (k *ℚ absℚ (l *ℚ g) +ℚ t)) (scale_le 1 (2 ^ 24) (absℚ (l *ℚ g)) (b +ℚ e) y) in
    within_loosen (within_triangle (within_loosen {q = k *ℚ (b +ℚ e) +ℚ t} m (mul-pos (mul-pos {m = 2 ^ 24} (lit< tt) B) (lit< tt)) o) w) C v

-- ---- WHAT A STEP'S LIMIT IS
pub record Limited (m : Float) (M : Fraction) : Type 0 where
  pub holds : T (fits binary32 m)
  pub rounded : AtMost (ratio 0 1) (value m)
  pub exact : AtMost (ratio 0 1) M
  pub near : M ≤ℚ ratio 513 512 → Within (value m) M (ratio 97 (2 ^ 29))
  pub beyond : ratio 513 512 ≤ℚ M → AtMost (ratio 1025 1024) (value m)

pub limited : (x p q : Float) → Slew x → Stepped p q → Limited (limit_of x ⊗ (q ⊖ p)) (limitℚ (value x) *ℚ (value q -ℚ value p))
limited x p q h s =
    let m = limit_of x ⊗ (q ⊖ p) in
    let L = limitℚ (value x) in
    let G = value q -ℚ value p in
    let M = L *ℚ G in
    let Z = exact_nonnegative x p q h s in
    let t = most_finite x p q h s in
    let D = (value_defined m).1 t in
    let rg = gone_relative p q s in
    let rl = limit_relative x h in
    let nG = difference_nonnegative (value q) (value p) s.order in
    let nL = ≤ℚ-trans (ratio 0 1) (ratio 1 1) L (lit< tt) (le_z_yes tt) (limit_least x h) in
    let g = relative_nonnegative (value (q ⊖ p)) G 1 (2 ^ 24) (lit< tt) (lit≤ tt) rg nG in
    let l = relative_nonnegative (value (limit_of x)) L 1025 (2 ^ 34) (lit< tt) (lit≤ tt) rl nL in
    let u = ≤ℚ-trans M (ratio (512 * 1) (1 * 85)) (ratio 7 1) (lit< tt) (product_at_most L G 512 1 1 85 nL nG (limit_most x h) s.near) (le_z_yes tt) in
    let E = mul-pos rl.right rg.right in
    record {
      holds = mul-fits binary32 (limit_of x) (q ⊖ p);
      rounded = record { left = lit< tt; right = D; le = mul_nonnegative binary32 (limit_of x) (q ⊖ p) t l g };
      exact = record { left = lit< tt; right = E; le = Z };
      near = λ c. most_near x p q 513 512 (ratio 97 (2 ^ 29)) (lit< tt) h s c (lit< tt) (le_z_yes tt);
      beyond = λ c.
          let w = most_near x p q 7 1 (ratio 1 4096) (lit< tt) h s u (lit< tt) (le_z_yes tt) in
          let k = minus_at_most (ratio 513 512) (ratio 1 4096) (value m) (lit< tt) (≤ℚ-trans (ratio 513 512) M (value m +ℚ ratio 1 4096) E c w.above) in
          record { left = lit< tt; right = D; le = ≤ℚ-trans (ratio 1025 1024) (ratio 513 512 -ℚ ratio 1 4096) (value m) (lit< tt) (le_z_yes tt) k };
    }
