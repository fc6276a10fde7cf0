-- CLAMP, MIN, MAX AND SIZE BRING TWO NUMBERS NO FURTHER APART, and the clamp, minimum, maximum and size of finite floats are those of their
-- values. A minimum of two numbers is told by what it does: it is at most both, and one of them is at most it. A maximum is the same in the
-- opposite order, so each fact is shown once over an order R and used for both. Where a ≤ A + q and b ≤ B + q, the minimum of A and B is one of
-- the two, say A, and the minimum of a and b is at most a, hence at most A + q. A size is the maximum of a number and its negation, and the
-- clamp the minimum of 1 and a maximum with 0. Assumes nothing.
use mathlib.Core.Path.{◌≡◌, refl}
use mathlib.Core.Logic.{◌⊎◌, inl, inr}
use mathlib.Core.Bool.{Bool, true, false, not, cond}
use Prim.Native.Nat.{ℕ, ◌+◌, ◌*◌, ◌≤◌, ◌<◌}
use native.Mathlib.Nat.{mul-le-mul_right, mul-pos, le_of_lt}
use native.Mathlib.Omega.{arith}
use lib.IntN.{ℤ, pos, neg_ℤ, nat_abs, ◌*ℤ◌}
use lib.Signed.{lt_z, le_z_yes}
use lib.Dec.{T}
use lib.Ieee.{Float, fin, lt, of_bits}
use lib.Ieee as F
use lib.Ieee.Fits.{down_pos}
use lib.Ieee.Scale.{finite}
use Rattle.exact.specs.Fraction.{Fraction, Defined, ratio, ◌+ℚ◌, negℚ, ◌≤ℚ◌, smaller, larger, minℚ, maxℚ, absℚ, clamp_unitℚ}
use Rattle.exact.specs.Value.{value, Equal, Within}
use Rattle.exact.specs.Binary32.{zero₃₂, one₃₂}
use Rattle.exact.proofs.Parts.{part⁺, part⁻, num⁺, num⁻, neg⁺, neg⁻, scale⁺, scale⁻, signed⁺, signed⁻, abs_parts, OneSided, up, down, one_sided, lt_z_parts, nlt_z_parts}
use Rattle.exact.proofs.Defined.{value_defined}
use Rattle.exact.proofs.Order.{parts-≤ℚ, ≤ℚ-trans, sum_raise_left, AtMost, at_most_refl, at_most_trans, parts_equal, equal_refl, equal_sym, equal_at_most, at_most_equal, within_sym, within_negate, equal_within, lt_at_most, nlt_at_most}

-- ---- an order R of numbers and its slack: S q a b is the half of `Within a b q` that bounds a in that order
abbrev pub AtLeast : Fraction → Fraction → Type 0
AtLeast a b = AtMost b a

abbrev pub BelowBy : Fraction → Fraction → Fraction → Type 0
BelowBy q a b = a ≤ℚ b +ℚ q

abbrev pub AboveBy : Fraction → Fraction → Fraction → Type 0
AboveBy q a b = b ≤ℚ a +ℚ q

pub record IsOrder (R : Fraction → Fraction → Type 0) (S : Fraction → Fraction → Fraction → Type 0) : Type 0 where
  pub trans : {a b c : Fraction} → R a b → R b c → R a c
  pub equal : {a b : Fraction} → Equal a b → R a b
  pub same : {a b : Fraction} → R a b → R b a → Equal a b
  pub half : {a b q : Fraction} → Within a b q → S q a b
  pub halves : {a b a' b' q : Fraction} → Defined q → R a a' → R b b' → S q a b → S q b a → Within a b q
  pub squeeze : (a b c d q : Fraction) → R a b → S q b c → R c d → S q a d

pub upward : IsOrder AtMost BelowBy
upward =
    record {
      trans = at_most_trans;
      equal = equal_at_most;
      same = at_most_equal;
      half = λ h. h.below;
      halves = λ d u v h k. record { left = u.left; right = v.left; bound = d; below = h; above = k };
      squeeze = λ a b c d q h k l. ≤ℚ-trans a b (d +ℚ q) h.right h.le (sum_raise_left b c d q l.left k l.le);
    }

pub downward : IsOrder AtLeast AboveBy
downward =
    record {
      trans = λ h k. at_most_trans k h;
      equal = λ e. equal_at_most (equal_sym e);
      same = λ h k. at_most_equal k h;
      half = λ h. h.above;
      halves = λ d u v h k. record { left = u.right; right = v.right; bound = d; below = k; above = h };
      squeeze = λ a b c d q h k l. upward.squeeze d c b a q l k h;
    }

-- ---- THE BEST OF TWO NUMBERS in an order: a minimum, and in the opposite order a maximum
pub record Best (R : Fraction → Fraction → Type 0) (m a b : Fraction) : Type 0 where
  pub left : R m a
  pub right : R m b
  pub reached : R a m ⊎ R b m

abbrev pub IsMin : Fraction → Fraction → Fraction → Type 0
IsMin m a b = Best AtMost m a b

abbrev pub IsMax : Fraction → Fraction → Fraction → Type 0
IsMax m a b = Best AtLeast m a b

module _ {R : Fraction → Fraction → Type 0} {S : Fraction → Fraction → Fraction → Type 0} (o : IsOrder R S) where
  -- what comes before both comes before the best, which is thereby one number
  pub before_best : {m a b c : Fraction} → Best R m a b → R c a → R c b → R c m
  before_best i h k = elim i.reached [ inl r ↦ o.trans h r | inr r ↦ o.trans k r ]

  pub best_unique : {m n a b : Fraction} → Best R m a b → Best R n a b → Equal m n
  best_unique i j = o.same (before_best j i.left i.right) (before_best i j.left j.right)

  -- what a test of the order chooses
  pub chosen_best : {X : Type 0} (f : X → Fraction) (t : Bool) {x y : X} {a b : Fraction} → Equal (f x) a → Equal (f y) b
      → (T t → R (f y) (f x)) → (T (not t) → R (f x) (f y)) → Best R (f (cond t y x)) a b
  chosen_best f true d e h k = record { left = o.trans (h tt) (o.equal d); right = o.equal e; reached = inr (o.equal (equal_sym e)) }
  chosen_best f false d e h k = record { left = o.equal d; right = o.trans (k tt) (o.equal e); reached = inl (o.equal (equal_sym d)) }

  -- two best numbers are no further apart than the numbers they are chosen from
  pub best_half : {m a b M A B : Fraction} (q : Fraction) → Best R m a b → Best R M A B → S q a A → S q b B → S q m M
  best_half {m} {a} {b} {M} {A} {B} q i j h k = elim j.reached [ inl r ↦ o.squeeze m a A M q i.left h r | inr r ↦ o.squeeze m b B M q i.right k r ]

  pub best_within : {m a b M A B q : Fraction} → Best R m a b → Best R M A B → Within a A q → Within b B q → Within m M q
  best_within {q = q} i j h k =
      o.halves h.bound i.left j.left (best_half q i j (o.half h) (o.half k)) (best_half q j i (o.half (within_sym h)) (o.half (within_sym k)))

-- ---- minℚ and maxℚ are minimum and maximum
-- over one denominator the order is the numerators'
abbrev pub whole_over : ℕ → ℤ → Fraction
whole_over d z = record { num = z; den = d }

pub whole_over_at_most : (d : ℕ) (x y : ℤ) → 0 < d → part⁺ x + part⁻ y ≤ part⁺ y + part⁻ x → AtMost (whole_over d x) (whole_over d y)
whole_over_at_most d x y D h = record { left = D; right = D; le = parts-≤ℚ (whole_over d x) (whole_over d y) (omega (arith, mul-le-mul_right d h)) }

pub smaller_is_min : (d : ℕ) (x y : ℤ) {a b : Fraction} → 0 < d → Equal (whole_over d x) a → Equal (whole_over d y) b → IsMin (whole_over d (smaller x y)) a b
smaller_is_min d x y D e f =
    chosen_best upward (whole_over d) (lt_z y x) e f (λ t. whole_over_at_most d y x D (le_of_lt (lt_z_parts y x t))) (λ t. whole_over_at_most d x y D (nlt_z_parts y x t))

pub larger_is_max : (d : ℕ) (x y : ℤ) {a b : Fraction} → 0 < d → Equal (whole_over d x) a → Equal (whole_over d y) b → IsMax (whole_over d (larger x y)) a b
larger_is_max d x y D e f =
    chosen_best downward (whole_over d) (lt_z x y) e f (λ t. whole_over_at_most d x y D (le_of_lt (lt_z_parts x y t))) (λ t. whole_over_at_most d y x D (nlt_z_parts x y t))

-- two fractions, over the product of their denominators
pub across : (a b : Fraction) → Defined a → Defined b → Equal (whole_over (a.den * b.den) (a.num *ℤ pos b.den)) a × Equal (whole_over (a.den * b.den) (b.num *ℤ pos a.den)) b
across a b A B = (parts_equal (mul-pos A B) A (simp (scale⁺, scale⁻) (omega arith)), parts_equal (mul-pos A B) B (simp (scale⁺, scale⁻) (omega arith)))

pub min_is_min : (a b : Fraction) → Defined a → Defined b → IsMin (minℚ a b) a b
min_is_min a b A B = let e = across a b A B in smaller_is_min (a.den * b.den) (a.num *ℤ pos b.den) (b.num *ℤ pos a.den) (mul-pos A B) e.0 e.1

pub max_is_max : (a b : Fraction) → Defined a → Defined b → IsMax (maxℚ a b) a b
max_is_max a b A B = let e = across a b A B in larger_is_max (a.den * b.den) (a.num *ℤ pos b.den) (b.num *ℤ pos a.den) (mul-pos A B) e.0 e.1

pub min_within : {a A b B q : Fraction} → Within a A q → Within b B q → Within (minℚ a b) (minℚ A B) q
min_within {a} {A} {b} {B} h k = best_within upward (min_is_min a b h.left k.left) (min_is_min A B h.right k.right) h k

pub max_within : {a A b B q : Fraction} → Within a A q → Within b B q → Within (maxℚ a b) (maxℚ A B) q
max_within {a} {A} {b} {B} h k = best_within downward (max_is_max a b h.left k.left) (max_is_max A B h.right k.right) h k

-- ---- the size
pub abs_is_max : (a : Fraction) → Defined a → IsMax (absℚ a) a (negℚ a)
abs_is_max a A =
    let z = a.num in
    let d = a.den in
    record {
      left = whole_over_at_most d z (pos (nat_abs z)) A (omega (arith, abs_parts z));
      right = whole_over_at_most d (neg_ℤ z) (pos (nat_abs z)) A (omega (arith, abs_parts z, neg⁺ z, neg⁻ z));
      reached = go (one_sided z);
    }
  where
    go : OneSided (num⁺ a) (num⁻ a) → AtMost (absℚ a) a ⊎ AtMost (absℚ a) (negℚ a)
    go (up e) = inl (whole_over_at_most a.den (pos (nat_abs a.num)) a.num A (omega (arith, abs_parts a.num)))
    go (down e) = inr (whole_over_at_most a.den (pos (nat_abs a.num)) (neg_ℤ a.num) A (omega (arith, abs_parts a.num, neg⁺ a.num, neg⁻ a.num)))

pub abs_within : {a A q : Fraction} → Within a A q → Within (absℚ a) (absℚ A) q
abs_within {a} {A} h = best_within downward (abs_is_max a h.left) (abs_is_max A h.right) h (within_negate h)

-- ---- the clamp to 0..1
pub one_pos : 0 < 1
one_pos = omega arith

abbrev pub raised : Fraction → Fraction
raised a = whole_over a.den (larger a.num (pos 0))

pub raised_is_max : (a : Fraction) → Defined a → IsMax (raised a) a (ratio 0 1)
raised_is_max a A = larger_is_max a.den a.num (pos 0) A (equal_refl A) (parts_equal A (omega arith) (omega arith))

pub unit_is_min : (a : Fraction) → Defined a → IsMin (clamp_unitℚ a) (raised a) (ratio 1 1)
unit_is_min a A = smaller_is_min a.den (raised a).num (pos a.den) A (equal_refl A) (parts_equal A (omega arith) (omega arith))

pub unit_within : {a A : Fraction} {r s : ℕ} → Within a A (ratio r s) → Within (clamp_unitℚ a) (clamp_unitℚ A) (ratio r s)
unit_within {a} {A} h =
    best_within upward (unit_is_min a h.left) (unit_is_min A h.right)
    (best_within downward (raised_is_max a h.left) (raised_is_max A h.right) h (equal_within (equal_refl one_pos) h.bound)) (equal_within (equal_refl one_pos) h.bound)

-- where it lies, and what it leaves alone
pub unit_at_most : {a c : Fraction} → AtMost a c → AtMost (ratio 0 1) c → AtMost (clamp_unitℚ a) c
unit_at_most {a} h k = at_most_trans (unit_is_min a h.left).left (before_best downward (raised_is_max a h.left) h k)

pub at_most_unit : {a c : Fraction} → AtMost c a → AtMost c (ratio 1 1) → AtMost c (clamp_unitℚ a)
at_most_unit {a} h k = before_best upward (unit_is_min a h.right) (at_most_trans h (raised_is_max a h.right).left) k

pub unit_at_most_one : (a : Fraction) → Defined a → AtMost (clamp_unitℚ a) (ratio 1 1)
unit_at_most_one a A = (unit_is_min a A).right

pub zero_at_most_unit : (a : Fraction) → Defined a → AtMost (ratio 0 1) (clamp_unitℚ a)
zero_at_most_unit a A = before_best upward (unit_is_min a A) (raised_is_max a A).right (record { left = one_pos; right = one_pos; le = le_z_yes tt })

pub unit_inside : (a : Fraction) → Defined a → ratio 0 1 ≤ℚ a → a ≤ℚ ratio 1 1 → Equal (clamp_unitℚ a) a
unit_inside a A h k =
    at_most_equal (unit_at_most (at_most_refl A) (record { left = one_pos; right = A; le = h }))
    (at_most_unit (at_most_refl A) (record { left = A; right = one_pos; le = k }))

-- ---- FLOATS: the minimum, the maximum, the size and the clamp of finite floats are those of their values
pub chosen_value : {R : Fraction → Fraction → Type 0} {S : Fraction → Fraction → Fraction → Type 0} {m : Fraction} (x y : Float) (t : Bool)
    → IsOrder R S → T (finite x) → T (finite y) → Best R m (value x) (value y)
    → (T t → R (value y) (value x)) → (T (not t) → R (value x) (value y)) → Equal (value (cond t y x)) m
chosen_value x y t o X Y i h k = best_unique o (chosen_best o value t (equal_refl ((value_defined x).1 X)) (equal_refl ((value_defined y).1 Y)) h k) i

pub min_value : (x y : Float) → T (finite x) → T (finite y) → Equal (value (cond (lt y x) y x)) (minℚ (value x) (value y))
min_value x y X Y =
    chosen_value x y (lt y x) upward X Y (min_is_min (value x) (value y) ((value_defined x).1 X) ((value_defined y).1 Y)) (lt_at_most y x Y X) (nlt_at_most y x Y X)

pub max_value : (x y : Float) → T (finite x) → T (finite y) → Equal (value (cond (lt x y) y x)) (maxℚ (value x) (value y))
max_value x y X Y =
    chosen_value x y (lt x y) downward X Y (max_is_max (value x) (value y) ((value_defined x).1 X) ((value_defined y).1 Y)) (lt_at_most x y X Y) (nlt_at_most x y X Y)

pub abs_value : (s : Bool) (m : ℕ) (e : ℤ) → Equal (value (fin false m e)) (absℚ (value (fin s m e)))
unfolding value
abs_value s m e = parts_equal (down_pos e) (down_pos e) (simp (abs_parts, signed⁺, signed⁻) (go s (m * F.up e) (F.down e)))
  where
    go : (s : Bool) (a d : ℕ) → a * d + 0 * d ≡ (cond s 0 a + cond s a 0) * d + 0 * d
    go false a d = omega arith
    go true a d = omega arith

-- 0 and 1, and their bit patterns
abbrev pub zeroᶠ : Float
zeroᶠ = fin false 0 (pos 0)

abbrev pub oneᶠ : Float
oneᶠ = fin false 1 (pos 0)

pub zero_bits : zero₃₂ ≡ zeroᶠ
unfolding of_bits
zero_bits = refl

pub one_bits : one₃₂ ≡ oneᶠ
unfolding of_bits
one_bits = refl

pub unit_value : (x : Float) → T (finite x) → Equal (value (cond (lt x zeroᶠ) zeroᶠ (cond (lt oneᶠ x) oneᶠ x))) (clamp_unitℚ (value x))
unfolding value
unit_value x X = go (lt x zeroᶠ) (lt oneᶠ x) (lt_at_most x zeroᶠ X tt) (nlt_at_most x zeroᶠ X tt) (lt_at_most oneᶠ x tt X) (nlt_at_most oneᶠ x tt X)
  where
    a : Fraction
    a = value x

    A : Defined a
    A = (value_defined x).1 X

    go : (s t : Bool) → (T s → AtMost a (ratio 0 1)) → (T (not s) → AtMost (ratio 0 1) a) → (T t → AtMost (ratio 1 1) a) → (T (not t) → AtMost a (ratio 1 1))
        → Equal (value (cond s zeroᶠ (cond t oneᶠ x))) (clamp_unitℚ a)
    go true t h k l n = at_most_equal (zero_at_most_unit a A) (unit_at_most (h tt) (at_most_refl one_pos))
    go false true h k l n = at_most_equal (at_most_unit (l tt) (at_most_refl one_pos)) (unit_at_most_one a A)
    go false false h k l n = equal_sym (unit_inside a A (k tt).le (n tt).le)
