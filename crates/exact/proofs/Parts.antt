-- THE POSITIVE AND THE NEGATIVE PART of a whole number z: z is part⁺ z - part⁻ z, and one of the two is 0. Each operation on whole
-- numbers and on fractions, and their order, is an equation or an inequality between naturals here. Assumes nothing.
use mathlib.Core.Path.{◌≡◌, refl, ◌∙◌}
use mathlib.Core.Bool.{Bool, true, false, not, cond}
use Prim.Native.Nat.{ℕ, zero, suc, ◌+◌, ◌-◌, ◌*◌, ◌≤◌, ◌<◌}
use native.Mathlib.Omega.{arith}
use lib.IntN.{ℤ, pos, negsuc, neg_ℤ, nat_abs, sub_ℕ, ◌+ℤ◌, ◌*ℤ◌}
use lib.Signed.{le_z, lt_z, ◌≤ℤ◌, le_z_yes}
use lib.Dec.{T, ltb, leb→le, ltb→lt, nltb→le, le→leb}
use Rattle.exact.specs.Fraction.{Fraction, ◌+ℚ◌, negℚ, ◌-ℚ◌}

abbrev pub part⁺ : ℤ → ℕ
part⁺ (pos n) = n
part⁺ (negsuc n) = 0

abbrev pub part⁻ : ℤ → ℕ
part⁻ (pos n) = 0
part⁻ (negsuc n) = suc n

-- of a fraction's numerator
abbrev pub num⁺ : Fraction → ℕ
num⁺ a = part⁺ a.num

abbrev pub num⁻ : Fraction → ℕ
num⁻ a = part⁻ a.num

-- ---- negation
pub neg⁺ : (a : ℤ) → part⁺ (neg_ℤ a) ≡ part⁻ a
neg⁺ (pos zero) = refl
neg⁺ (pos (suc n)) = refl
neg⁺ (negsuc n) = refl

pub neg⁻ : (a : ℤ) → part⁻ (neg_ℤ a) ≡ part⁺ a
neg⁻ (pos zero) = refl
neg⁻ (pos (suc n)) = refl
neg⁻ (negsuc n) = refl

-- ---- sums
sub_parts : (a b : ℕ) → part⁺ (sub_ℕ a b) + b ≡ part⁻ (sub_ℕ a b) + a
sub_parts a b = go (ltb a b) (ltb→lt a b) (nltb→le a b)
  where
    go : (x : Bool) → (T x → a < b) → (T (not x) → b ≤ a) → part⁺ (cond x (negsuc (b - suc a)) (pos (a - b))) + b ≡ part⁻ (cond x (negsuc (b - suc a)) (pos (a - b))) + a
    go true h k = let l = h tt in omega arith
    go false h k = let l = k tt in omega arith

pub add_parts : (a b : ℤ) → part⁺ (a +ℤ b) + (part⁻ a + part⁻ b) ≡ part⁻ (a +ℤ b) + (part⁺ a + part⁺ b)
add_parts (pos a) (pos b) = omega arith
add_parts (pos a) (negsuc b) = omega (arith, sub_parts a (suc b))
add_parts (negsuc a) (pos b) = omega (arith, sub_parts b (suc a))
add_parts (negsuc a) (negsuc b) = omega arith

-- ---- products
pub mul⁺ : (a b : ℤ) → part⁺ (a *ℤ b) ≡ part⁺ a * part⁺ b + part⁻ a * part⁻ b
mul⁺ (pos a) (pos b) = omega arith
mul⁺ (pos a) (negsuc b) = neg⁺ (pos (a * suc b)) ∙ omega arith
mul⁺ (negsuc a) (pos b) = neg⁺ (pos (suc a * b)) ∙ omega arith
mul⁺ (negsuc a) (negsuc b) = omega arith

pub mul⁻ : (a b : ℤ) → part⁻ (a *ℤ b) ≡ part⁺ a * part⁻ b + part⁻ a * part⁺ b
mul⁻ (pos a) (pos b) = omega arith
mul⁻ (pos a) (negsuc b) = neg⁻ (pos (a * suc b)) ∙ omega arith
mul⁻ (negsuc a) (pos b) = neg⁻ (pos (suc a * b)) ∙ omega arith
mul⁻ (negsuc a) (negsuc b) = omega arith

-- by a natural number
pub scale⁺ : (a : ℤ) (c : ℕ) → part⁺ (a *ℤ pos c) ≡ part⁺ a * c
scale⁺ a c = mul⁺ a (pos c) ∙ flat (part⁺ a) (part⁻ a) c
  where
    flat : (p n c : ℕ) → p * c + n * 0 ≡ p * c
    flat p n c = omega arith

pub scale⁻ : (a : ℤ) (c : ℕ) → part⁻ (a *ℤ pos c) ≡ part⁻ a * c
scale⁻ a c = mul⁻ a (pos c) ∙ flat (part⁺ a) (part⁻ a) c
  where
    flat : (p n c : ℕ) → p * 0 + n * c ≡ n * c
    flat p n c = omega arith

pub times⁺ : (c : ℕ) (z : ℤ) → part⁺ (pos c *ℤ z) ≡ c * part⁺ z
times⁺ c z = mul⁺ (pos c) z ∙ flat (part⁺ z) (part⁻ z)
  where
    flat : (p n : ℕ) → c * p + 0 * n ≡ c * p
    flat p n = omega arith

pub times⁻ : (c : ℕ) (z : ℤ) → part⁻ (pos c *ℤ z) ≡ c * part⁻ z
times⁻ c z = mul⁻ (pos c) z ∙ flat (part⁺ z) (part⁻ z)
  where
    flat : (p n : ℕ) → c * n + 0 * p ≡ c * n
    flat p n = omega arith

-- ---- a sign and a size
pub signed⁺ : (s : Bool) (m : ℕ) → part⁺ (cond s (neg_ℤ (pos m)) (pos m)) ≡ cond s 0 m
signed⁺ false m = refl
signed⁺ true m = neg⁺ (pos m)

pub signed⁻ : (s : Bool) (m : ℕ) → part⁻ (cond s (neg_ℤ (pos m)) (pos m)) ≡ cond s m 0
signed⁻ false m = refl
signed⁻ true m = neg⁻ (pos m)

pub abs_parts : (z : ℤ) → nat_abs z ≡ part⁺ z + part⁻ z
abs_parts (pos n) = omega arith
abs_parts (negsuc n) = omega arith

-- one of the two parts is 0
pub data OneSided (p n : ℕ) : Type 0 where
  up : n ≡ 0 → OneSided p n
  down : p ≡ 0 → OneSided p n

pub one_sided : (z : ℤ) → OneSided (part⁺ z) (part⁻ z)
one_sided (pos n) = up refl
one_sided (negsuc n) = down refl

-- ---- order
pub le_z_parts : (a b : ℤ) → T (le_z a b) → part⁺ a + part⁻ b ≤ part⁺ b + part⁻ a
le_z_parts (pos a) (pos b) t = let h = leb→le a b t in omega arith
le_z_parts (pos a) (negsuc b) t = absurd t
le_z_parts (negsuc a) (pos b) t = omega arith
le_z_parts (negsuc a) (negsuc b) t = let h = leb→le b a t in omega arith

pub parts_le_z : (a b : ℤ) → part⁺ a + part⁻ b ≤ part⁺ b + part⁻ a → T (le_z a b)
parts_le_z (pos a) (pos b) h = le→leb a b (omega arith)
parts_le_z (pos a) (negsuc b) h = absurd (none a b h)
  where
    none : (a b : ℕ) → a + suc b ≤ 0 + 0 → ⊥
    none a b h = omega arith
parts_le_z (negsuc a) (pos b) h = tt
parts_le_z (negsuc a) (negsuc b) h = le→leb b a (omega arith)

pub lt_z_parts : (a b : ℤ) → T (lt_z a b) → part⁺ a + part⁻ b < part⁺ b + part⁻ a
lt_z_parts (pos a) (pos b) t = let h = ltb→lt a b t in omega arith
lt_z_parts (pos a) (negsuc b) t = absurd t
lt_z_parts (negsuc a) (pos b) t = omega arith
lt_z_parts (negsuc a) (negsuc b) t = let h = ltb→lt b a t in omega arith

pub nlt_z_parts : (a b : ℤ) → T (not (lt_z a b)) → part⁺ b + part⁻ a ≤ part⁺ a + part⁻ b
nlt_z_parts (pos a) (pos b) t = let h = nltb→le a b t in omega arith
nlt_z_parts (pos a) (negsuc b) t = omega arith
nlt_z_parts (negsuc a) (pos b) t = absurd t
nlt_z_parts (negsuc a) (negsuc b) t = let h = nltb→le b a t in omega arith

pub ≤ℤ-parts : {a b : ℤ} → a ≤ℤ b → part⁺ a + part⁻ b ≤ part⁺ b + part⁻ a
≤ℤ-parts {a} {b} h = le_z_parts a b h.le

pub parts-≤ℤ : (a b : ℤ) → part⁺ a + part⁻ b ≤ part⁺ b + part⁻ a → a ≤ℤ b
parts-≤ℤ a b h = le_z_yes (parts_le_z a b h)

-- ---- the sum and the difference of two fractions, as one equation each
pub sum_parts : (a b : Fraction) → num⁺ (a +ℚ b) + (num⁻ a * b.den + num⁻ b * a.den) ≡ num⁻ (a +ℚ b) + (num⁺ a * b.den + num⁺ b * a.den)
sum_parts a b =
    omega (
      arith,
      add_parts (a.num *ℤ pos b.den) (b.num *ℤ pos a.den),
      scale⁺ a.num b.den,
      scale⁻ a.num b.den,
      scale⁺ b.num a.den,
      scale⁻ b.num a.den,
    )

pub difference_parts : (a b : Fraction) → num⁺ (a -ℚ b) + (num⁻ a * b.den + num⁺ b * a.den) ≡ num⁻ (a -ℚ b) + (num⁺ a * b.den + num⁻ b * a.den)
difference_parts a b = rw (← neg⁺ b.num, ← neg⁻ b.num) (sum_parts a (negℚ b))
