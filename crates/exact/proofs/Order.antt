-- THE ORDER OF FRACTIONS AND OF FLOATS, and the laws of `Equal` and `Within`. A fraction is a difference of naturals over a natural
-- (Parts.antt), so that a ≤ b, multiplied across, is `cross a b ≤ cross b a` between naturals, and a ≤ b + q is `BelowSum a b q`; each law is one
-- of products of naturals, with a denominator above 0 cancelled where it says that a fraction is defined. The comparison of two finite floats
-- decides the same inequality as the comparison of their values, so the two agree. Assumes nothing.
use mathlib.Core.Path.{◌≡◌, refl, sym, ap, ◌∙◌}
use mathlib.Core.Logic.{◌↔◌, ◌⊎◌, inl, inr}
use mathlib.Core.Bool.{Bool, true, false, not, cond, ◌&&◌, ◌||◌}
use Prim.Native.Nat.{ℕ, suc, ◌+◌, ◌*◌, ◌≤◌, ◌<◌}
use native.Mathlib.Nat.{mul-le-mul_right, le_of_mul-le-mul_right, le_of_eq, le_of_lt, le_antisymm, eq-or-lt_of_le, not-le_of_lt, mul-pos}
use native.Mathlib.Omega.{arith}
use lib.IntN.{ℤ, pos, negsuc, ◌*ℤ◌}
use lib.Signed.{≤ℤ_refl}
use lib.Dec.{T, eqb, ltb→lt, nltb→le, eqb→eq}
use lib.Ieee.{Float, nan, inf, fin, up, down, lt, le, eq, below, level}
use lib.Ieee.Fits.{and_i, and_l, and_r, eq→eqb}
use lib.Ieee.Scale.{finite}
use Rattle.exact.specs.Fraction.{Fraction, Defined, ratio, ◌+ℚ◌, negℚ, ◌≤ℚ◌, ltℚ}
use Rattle.exact.specs.Value.{value, Equal, Within}
use Rattle.exact.proofs.Close.{ring, Close, Split, less, more, split}
use Rattle.exact.proofs.Parts.{part⁺, part⁻, num⁺, num⁻, neg⁺, neg⁻, scale⁺, scale⁻, signed⁺, signed⁻, ≤ℤ-parts, parts-≤ℤ, lt_z_parts, nlt_z_parts, sum_parts}
use Rattle.exact.proofs.Defined.{value_defined}

-- ---- the order as one of naturals: a ≤ b is `cross a b ≤ cross b a`
abbrev pub cross : Fraction → Fraction → ℕ
cross a b = num⁺ a * b.den + num⁻ b * a.den

pub ≤ℚ-parts : (a b : Fraction) → a ≤ℚ b → cross a b ≤ cross b a
≤ℚ-parts a b h = simp (scale⁺, scale⁻) at (≤ℤ-parts h)

pub parts-≤ℚ : (a b : Fraction) → cross a b ≤ cross b a → a ≤ℚ b
parts-≤ℚ a b h = parts-≤ℤ (a.num *ℤ pos b.den) (b.num *ℤ pos a.den) (simp (scale⁺, scale⁻) h)

pub ltℚ_parts : (a b : Fraction) → T (ltℚ a b) → cross a b < cross b a
ltℚ_parts a b t = simp (scale⁺, scale⁻) at (lt_z_parts (a.num *ℤ pos b.den) (b.num *ℤ pos a.den) t)

pub nltℚ_parts : (a b : Fraction) → T (not (ltℚ a b)) → cross b a ≤ cross a b
nltℚ_parts a b t = simp (scale⁺, scale⁻) at (nlt_z_parts (a.num *ℤ pos b.den) (b.num *ℤ pos a.den) t)

pub ≤ℚ-refl : (a : Fraction) → a ≤ℚ a
≤ℚ-refl a = ≤ℤ_refl (a.num *ℤ pos a.den)

pub ≤ℚ-trans : (a b c : Fraction) → Defined b → a ≤ℚ b → b ≤ℚ c → a ≤ℚ c
≤ℚ-trans a b c B h k =
    parts-≤ℚ a c (le_of_mul-le-mul_right (omega (arith, mul-le-mul_right c.den (≤ℚ-parts a b h), mul-le-mul_right a.den (≤ℚ-parts b c k))) B)

pub ≤ℚ-total : (a b : Fraction) → (a ≤ℚ b) ⊎ (b ≤ℚ a)
≤ℚ-total a b = go (split (cross a b) (cross b a))
  where
    go : Split (cross a b) (cross b a) → (a ≤ℚ b) ⊎ (b ≤ℚ a)
    go (less k e) = inl (parts-≤ℚ a b (omega arith))
    go (more k e) = inr (parts-≤ℚ b a (omega arith))

-- ---- a ≤ b + q, in naturals
abbrev pub BelowSum : Fraction → Fraction → Fraction → Type 0
BelowSum a b q = num⁺ a * (b.den * q.den) + (num⁻ b * q.den + num⁻ q * b.den) * a.den ≤ (num⁺ b * q.den + num⁺ q * b.den) * a.den + num⁻ a * (b.den * q.den)

pub ≤-sum-parts : (a b q : Fraction) → a ≤ℚ b +ℚ q → BelowSum a b q
≤-sum-parts a b q h = omega (arith, ≤ℚ-parts a (b +ℚ q) h, ap (λ (x : ℕ). x * a.den) (sum_parts b q))

pub parts-≤-sum : (a b q : Fraction) → BelowSum a b q → a ≤ℚ b +ℚ q
parts-≤-sum a b q h = parts-≤ℚ a (b +ℚ q) (omega (arith, ap (λ (x : ℕ). x * a.den) (sum_parts b q)))

pub below_sum_swap : (a b q : Fraction) → BelowSum a b q → BelowSum a q b
below_sum_swap a b q h = omega arith

-- a larger summand
pub below_sum_raise : (a b c q : Fraction) → Defined b → BelowSum a b q → b ≤ℚ c → BelowSum a c q
below_sum_raise a b c q B h k =
    le_of_mul-le-mul_right
    (simp ring (omega (arith, simp ring at (mul-le-mul_right c.den h), simp ring at (mul-le-mul_right (q.den * a.den) (≤ℚ-parts b c k))))) B

-- a ≤ b + p and b ≤ c + q give a ≤ c + (p + q), u being the sum
pub below_sum_chain : (a b c p q u : Fraction) → Defined b → u.den ≡ p.den * q.den
    → num⁺ u + (num⁻ p * q.den + num⁻ q * p.den) ≡ num⁻ u + (num⁺ p * q.den + num⁺ q * p.den) → BelowSum a b p → BelowSum b c q → BelowSum a c u
below_sum_chain a b c p q u B d e h k =
    rw d (le_of_mul-le-mul_right (simp ring (omega (
      arith,
      simp ring at (mul-le-mul_right (c.den * q.den) h),
      simp ring at (mul-le-mul_right (p.den * a.den) k),
      simp ring at (ap (λ (x : ℕ). x * (b.den * c.den * a.den)) e),
    ))) B)

pub sum_raise_left : (a b c q : Fraction) → Defined b → a ≤ℚ b +ℚ q → b ≤ℚ c → a ≤ℚ c +ℚ q
sum_raise_left a b c q B h k = parts-≤-sum a c q (below_sum_raise a b c q B (≤-sum-parts a b q h) k)

pub sum_raise_right : (a b p q : Fraction) → Defined p → a ≤ℚ b +ℚ p → p ≤ℚ q → a ≤ℚ b +ℚ q
sum_raise_right a b p q P h k = parts-≤-sum a b q (below_sum_swap a q b (below_sum_raise a p q b P (below_sum_swap a b p (≤-sum-parts a b p h)) k))

-- ---- EQUAL, and at most
-- a and b are numbers, and a is at most b
pub record AtMost (a b : Fraction) : Type 0 where
  pub left : Defined a
  pub right : Defined b
  pub le : a ≤ℚ b

pub at_most_refl : {a : Fraction} → Defined a → AtMost a a
at_most_refl {a} A = record { left = A; right = A; le = ≤ℚ-refl a }

pub at_most_trans : {a b c : Fraction} → AtMost a b → AtMost b c → AtMost a c
at_most_trans {a} {b} {c} h k = record { left = h.left; right = k.right; le = ≤ℚ-trans a b c h.right h.le k.le }

-- a whole number is told by its two parts
pub sides_apart : (a b : ℕ) → a + suc b ≡ 0 + 0 → ⊥
sides_apart a b e = omega arith

pub parts-≡ℤ : (a b : ℤ) → part⁺ a + part⁻ b ≡ part⁺ b + part⁻ a → a ≡ b
parts-≡ℤ (pos a) (pos b) e = ap pos (omega arith)
parts-≡ℤ (pos a) (negsuc b) e = absurd (sides_apart a b e)
parts-≡ℤ (negsuc a) (pos b) e = absurd (sides_apart b a (sym e))
parts-≡ℤ (negsuc a) (negsuc b) e = ap negsuc (omega arith)

pub equal⁺ : {a b : Fraction} → Equal a b → num⁺ a * b.den ≡ num⁺ b * a.den
equal⁺ {a} {b} h = sym (scale⁺ a.num b.den) ∙ ap part⁺ h.same ∙ scale⁺ b.num a.den

pub equal⁻ : {a b : Fraction} → Equal a b → num⁻ a * b.den ≡ num⁻ b * a.den
equal⁻ {a} {b} h = sym (scale⁻ a.num b.den) ∙ ap part⁻ h.same ∙ scale⁻ b.num a.den

pub equal_parts : {a b : Fraction} → Equal a b → cross a b ≡ cross b a
equal_parts {a} {b} e = omega (arith, simp scale⁺ at (ap part⁺ e.same), simp scale⁻ at (ap part⁻ e.same))

pub parts_equal : {a b : Fraction} → Defined a → Defined b → cross a b ≡ cross b a → Equal a b
parts_equal {a} {b} A B e = record { left = A; right = B; same = parts-≡ℤ (a.num *ℤ pos b.den) (b.num *ℤ pos a.den) (simp (scale⁺, scale⁻) e) }

pub equal_refl : {a : Fraction} → Defined a → Equal a a
equal_refl A = record { left = A; right = A; same = refl }

pub equal_sym : {a b : Fraction} → Equal a b → Equal b a
equal_sym e = record { left = e.right; right = e.left; same = sym e.same }

pub equal_at_most : {a b : Fraction} → Equal a b → AtMost a b
equal_at_most {a} {b} e = record { left = e.left; right = e.right; le = parts-≤ℚ a b (le_of_eq (equal_parts e)) }

pub at_most_equal : {a b : Fraction} → AtMost a b → AtMost b a → Equal a b
at_most_equal {a} {b} h k = parts_equal h.left h.right (le_antisymm (≤ℚ-parts a b h.le) (≤ℚ-parts b a k.le))

pub equal_trans : {a b c : Fraction} → Equal a b → Equal b c → Equal a c
equal_trans e d =
    at_most_equal (at_most_trans (equal_at_most e) (equal_at_most d))
    (at_most_trans (equal_at_most (equal_sym d)) (equal_at_most (equal_sym e)))

-- ---- WITHIN
-- |a - b| ≤ r / s, between naturals
pub within_close : {a b : Fraction} {r s : ℕ} → Within a b (ratio r s)
    → Close ((num⁺ a * b.den + num⁻ b * a.den) * s) ((num⁻ a * b.den + num⁺ b * a.den) * s) (r * (a.den * b.den))
within_close {a} {b} {r} {s} h = omega (arith, ≤-sum-parts a b (ratio r s) h.below, ≤-sum-parts b a (ratio r s) h.above)

pub close_within : {a b : Fraction} {r s : ℕ} → Defined a → Defined b → 0 < s
    → Close ((num⁺ a * b.den + num⁻ b * a.den) * s) ((num⁻ a * b.den + num⁺ b * a.den) * s) (r * (a.den * b.den)) → Within a b (ratio r s)
close_within {a} {b} {r} {s} A B S h =
    record { left = A; right = B; bound = S; below = parts-≤-sum a b (ratio r s) (omega (arith, h.le)); above = parts-≤-sum b a (ratio r s) (omega (arith, h.ge)) }

pub within_sym : {a b q : Fraction} → Within a b q → Within b a q
within_sym h = record { left = h.right; right = h.left; bound = h.bound; below = h.above; above = h.below }

pub within_negate : {a b q : Fraction} → Within a b q → Within (negℚ a) (negℚ b) q
within_negate {a} {b} {q} h = record { left = h.left; right = h.right; bound = h.bound; below = negated b a h.above; above = negated a b h.below }
  where
    negated : (a b : Fraction) → a ≤ℚ b +ℚ q → negℚ b ≤ℚ negℚ a +ℚ q
    negated a b k = parts-≤-sum (negℚ b) (negℚ a) q (simp (neg⁺, neg⁻) (omega (arith, ≤-sum-parts a b q k)))

pub within_loosen : {a b p q : Fraction} → Within a b p → Defined q → p ≤ℚ q → Within a b q
within_loosen {a} {b} {p} {q} h Q k =
    let P = h.bound in
    record { left = h.left; right = h.right; bound = Q; below = sum_raise_right a b p q P h.below k; above = sum_raise_right b a p q P h.above k }

pub within_triangle : {a b c p q : Fraction} → Within a b p → Within b c q → Within a c (p +ℚ q)
within_triangle {a} {b} {c} {p} {q} h k =
    let u = p +ℚ q in
    record {
      left = h.left;
      right = k.right;
      bound = mul-pos h.bound k.bound;
      below = parts-≤-sum a c u (below_sum_chain a b c p q u h.right refl (sum_parts p q) (≤-sum-parts a b p h.below) (≤-sum-parts b c q k.below));
      above = parts-≤-sum c a u (below_sum_chain c b a q p u h.right (omega arith) (omega (arith, sum_parts p q)) (≤-sum-parts c b q k.above) (≤-sum-parts b a p h.above));
    }

pub equal_within : {a b : Fraction} {r s : ℕ} → Equal a b → 0 < s → Within a b (ratio r s)
equal_within {a} {b} {r} {s} e S = close_within e.left e.right S (omega (arith, ap (λ (x : ℕ). x * s) (equal_parts e)))

pub within_equal_left : {a a' b q : Fraction} → Equal a a' → Within a b q → Within a' b q
within_equal_left {a} {a'} {b} {q} e h =
    record {
      left = e.right;
      right = h.right;
      bound = h.bound;
      below = ≤ℚ-trans a' a (b +ℚ q) e.left (equal_at_most (equal_sym e)).le h.below;
      above = sum_raise_left b a a' q e.left h.above (equal_at_most e).le;
    }

pub within_equal_right : {a b b' q : Fraction} → Equal b b' → Within a b q → Within a b' q
within_equal_right e h = within_sym (within_equal_left e (within_sym h))

-- ---- FLOATS: a comparison of finite floats is the one of their values
-- the test b decides p < q
pub record Decides (b : Bool) (p q : ℕ) : Type 0 where
  pub passed : T b → p < q
  pub failed : T (not b) → q ≤ p

pub tests_agree : {x y : Bool} {p q : ℕ} → Decides x p q → Decides y p q → x ≡ y
tests_agree {x = true} {y = true} h k = refl
tests_agree {x = true} {y = false} h k = absurd (not-le_of_lt (h.passed tt) (k.failed tt))
tests_agree {x = false} {y = true} h k = absurd (not-le_of_lt (k.passed tt) (h.failed tt))
tests_agree {x = false} {y = false} h k = refl

pub test_passes : {b : Bool} {p q : ℕ} → Decides b p q → p < q → T b
test_passes {b = true} h l = tt
test_passes {b = false} h l = absurd (not-le_of_lt l (h.failed tt))

pub below_decides : (s : Bool) (a d : ℕ) (t : Bool) (b c : ℕ) → Decides (below s (a * d) t (b * c)) (cond s 0 a * d + cond t b 0 * c) (cond t 0 b * c + cond s a 0 * d)
below_decides false a d false b c = record { passed = λ h. omega (arith, ltb→lt (a * d) (b * c) h); failed = λ h. omega (arith, nltb→le (a * d) (b * c) h) }
below_decides false a d true b c = record { passed = λ h. absurd h; failed = λ h. omega arith }
below_decides true a d false b c = record { passed = λ h. omega (arith, ltb→lt 0 (a * d + b * c) h); failed = λ h. omega (arith, nltb→le 0 (a * d + b * c) h) }
below_decides true a d true b c = record { passed = λ h. omega (arith, ltb→lt (b * c) (a * d) h); failed = λ h. omega (arith, nltb→le (b * c) (a * d) h) }

-- numbers of like signs are equal where their sizes are, and of unlike signs where both are 0
pub like_level : (x y : ℕ) → T (eqb x y && true) ↔ (x ≡ y)
like_level x y = (λ h. eqb→eq x y (and_l (eqb x y) true h), λ e. and_i (eqb x y) true (eq→eqb e) tt)

pub unlike_level : (x y : ℕ) → T (eqb x y && eqb x 0) ↔ (x + y ≡ 0)
unlike_level x y =
    let a = eqb x y in
    let b = eqb x 0 in
    (λ h. omega (arith, eqb→eq x y (and_l a b h), eqb→eq x 0 (and_r a b h)), λ e. and_i a b (eq→eqb {a = x} {b = y} (omega arith)) (eq→eqb {a = x} {b = 0} (omega arith)))

pub level_decides : (s : Bool) (a d : ℕ) (t : Bool) (b c : ℕ) → T (level s (a * d) t (b * c)) ↔ (cond s 0 a * d + cond t b 0 * c ≡ cond t 0 b * c + cond s a 0 * d)
level_decides false a d false b c = let k = like_level (a * d) (b * c) in (λ h. omega (arith, k.0 h), λ e. k.1 (omega arith))
level_decides false a d true b c = let k = unlike_level (a * d) (b * c) in (λ h. omega (arith, k.0 h), λ e. k.1 (omega arith))
level_decides true a d false b c = let k = unlike_level (a * d) (b * c) in (λ h. omega (arith, k.0 h), λ e. k.1 (omega arith))
level_decides true a d true b c = let k = like_level (a * d) (b * c) in (λ h. omega (arith, k.0 h), λ e. k.1 (omega arith))

pub record Compared (x y : Float) : Type 0 where
  pub below : Decides (lt x y) (cross (value x) (value y)) (cross (value y) (value x))
  pub level : T (eq x y) ↔ (cross (value x) (value y) ≡ cross (value y) (value x))

pub compared : (x y : Float) → T (finite x) → T (finite y) → Compared x y
unfolding value lt eq
compared nan y X Y = absurd X
compared (inf s) y X Y = absurd X
compared (fin s m e) nan X Y = absurd Y
compared (fin s m e) (inf t) X Y = absurd Y
compared (fin s m e) (fin t n d) X Y =
    record {
      below = simp (signed⁺, signed⁻) (below_decides s (m * up e) (down d) t (n * up d) (down e));
      level = simp (signed⁺, signed⁻) (level_decides s (m * up e) (down d) t (n * up d) (down e));
    }

pub lt_value : (x y : Float) → T (finite x) → T (finite y) → lt x y ≡ ltℚ (value x) (value y)
lt_value x y X Y =
    let a = value x in
    let b = value y in
    tests_agree (compared x y X Y).below (record { passed = ltℚ_parts a b; failed = nltℚ_parts a b })

pub eq_value : (x y : Float) → T (finite x) → T (finite y) → T (eq x y) ↔ Equal (value x) (value y)
eq_value x y X Y =
    let c = (compared x y X Y).level in
    (λ h. parts_equal ((value_defined x).1 X) ((value_defined y).1 Y) (c.0 h), λ e. c.1 (equal_parts e))

pub lt_at_most : (x y : Float) → T (finite x) → T (finite y) → T (lt x y) → AtMost (value x) (value y)
lt_at_most x y X Y t =
    record { left = (value_defined x).1 X; right = (value_defined y).1 Y; le = parts-≤ℚ (value x) (value y) (le_of_lt ((compared x y X Y).below.passed t)) }

pub nlt_at_most : (x y : Float) → T (finite x) → T (finite y) → T (not (lt x y)) → AtMost (value y) (value x)
nlt_at_most x y X Y t =
    record { left = (value_defined y).1 Y; right = (value_defined x).1 X; le = parts-≤ℚ (value y) (value x) ((compared x y X Y).below.failed t) }

pub or_cases : (a b : Bool) → T (a || b) → T a ⊎ T b
or_cases true b h = inl tt
or_cases false b h = inr h

pub or_i : (a b : Bool) → T a ⊎ T b → T (a || b)
or_i true b h = tt
or_i false b (inl h) = absurd h
or_i false b (inr h) = h

pub le_value : (x y : Float) → T (finite x) → T (finite y) → T (le x y) ↔ (value x ≤ℚ value y)
unfolding le
le_value x y X Y =
    let c = compared x y X Y in (
      λ h. parts-≤ℚ (value x) (value y) (elim (or_cases (lt x y) (eq x y) h) [ inl l ↦ le_of_lt (c.below.passed l) | inr e ↦ le_of_eq (c.level.0 e) ]),
      λ h. or_i (lt x y) (eq x y) (elim (eq-or-lt_of_le (≤ℚ-parts (value x) (value y) h)) [ inl e ↦ inr (c.level.1 e) | inr l ↦ inl (test_passes c.below l) ]),
    )

pub between_finite : (lo x hi : Float) → T (finite lo) → T (finite hi) → T (le lo x) → T (le x hi) → T (finite x)
unfolding le lt eq
between_finite nan nan hi a b h k = absurd a
between_finite (inf s) nan hi a b h k = absurd a
between_finite (fin s m e) nan hi a b h k = absurd h
between_finite lo (inf s) nan a b h k = absurd b
between_finite lo (inf s) (inf t) a b h k = absurd b
between_finite lo (inf false) (fin t n d) a b h k = absurd k
between_finite nan (inf true) (fin t n d) a b h k = absurd a
between_finite (inf r) (inf true) (fin t n d) a b h k = absurd a
between_finite (fin r m e) (inf true) (fin t n d) a b h k = absurd h
between_finite lo (fin s m e) hi a b h k = tt

-- ---- `le` of floats is transitive, by what stands between: a NaN is at most nothing, only -infinity is at most -infinity, and +infinity at most only +infinity
past_nan : (x : Float) → T (le x nan) → ⊥
unfolding le lt eq
past_nan nan h = h
past_nan (inf s) h = h
past_nan (fin s m e) h = h

past_bottom : (x z : Float) → T (le x (inf true)) → T (le (inf true) z) → T (le x z)
unfolding le lt eq
past_bottom nan z h k = absurd h
past_bottom (inf true) z h k = k
past_bottom (inf false) z h k = absurd h
past_bottom (fin s m e) z h k = absurd h

past_top : (x z : Float) → T (le x (inf false)) → T (le (inf false) z) → T (le x z)
unfolding le lt eq
past_top x nan h k = absurd k
past_top x (inf true) h k = absurd k
past_top x (inf false) h k = h
past_top x (fin s m e) h k = absurd k

past_number : (x y z : Float) → T (finite y) → T (le x y) → T (le y z) → T (le x z)
unfolding le lt eq
past_number x nan z f h k = absurd f
past_number x (inf s) z f h k = absurd f
past_number nan (fin t n d) z f h k = absurd h
past_number (inf false) (fin t n d) z f h k = absurd h
past_number (inf true) (fin t n d) nan f h k = absurd k
past_number (inf true) (fin t n d) (inf true) f h k = absurd k
past_number (inf true) (fin t n d) (inf false) f h k = tt
past_number (inf true) (fin t n d) (fin r o c) f h k = tt
past_number (fin s m e) (fin t n d) nan f h k = absurd k
past_number (fin s m e) (fin t n d) (inf true) f h k = absurd k
past_number (fin s m e) (fin t n d) (inf false) f h k = tt
past_number (fin s m e) (fin t n d) (fin r o c) f h k =
    let x = fin s m e in
    let y = fin t n d in
    let z = fin r o c in
    (le_value x z tt tt).1 (≤ℚ-trans (value x) (value y) (value z) ((value_defined y).1 tt) ((le_value x y tt tt).0 h) ((le_value y z tt tt).0 k))

pub le_trans : (x y z : Float) → T (le x y) → T (le y z) → T (le x z)
le_trans x nan z h k = absurd (past_nan x h)
le_trans x (inf true) z h k = past_bottom x z h k
le_trans x (inf false) z h k = past_top x z h k
le_trans x (fin s m e) z h k = past_number x (fin s m e) z tt h k
