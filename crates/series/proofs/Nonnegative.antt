-- NONNEGATIVE FRACTIONS as quotients of naturals: an ordered semiring, in which an inequality is a chain of steps, and what an inequality there says of fractions.
-- Assumes nothing.
use mathlib.Core.Path.{refl}
use Prim.Native.Nat.{ℕ, ◌+◌, ◌*◌, ◌≤◌, ◌<◌}
use native.Mathlib.Nat.{mul-pos, zero-lt-suc, mul-le-mul, mul-le-mul_right, le_of_mul-le-mul_right, le_of_eq}
use native.Mathlib.Omega.{arith}
use Rattle.exact.specs.Fraction.{Fraction, Defined, ratio, ◌≤ℚ◌}
use Rattle.exact.specs.Value.{Within, RelativelyWithin}
use Rattle.exact.proofs.Parts.{num⁺}
use Rattle.exact.proofs.Order.{parts-≤ℚ}

pub record Quotient : Type 0 where
  pub top : ℕ
  pub base : ℕ
  pub defined : 0 < base

abbrev pub fraction : Quotient → Fraction
fraction a = ratio a.top a.base

infixl 6 ◌⊞◌
abbrev pub ◌⊞◌ : Quotient → Quotient → Quotient
a ⊞ b = record { top = a.top * b.base + b.top * a.base; base = a.base * b.base; defined = mul-pos a.defined b.defined }

infixl 7 ◌⊠◌
abbrev pub ◌⊠◌ : Quotient → Quotient → Quotient
a ⊠ b = record { top = a.top * b.top; base = a.base * b.base; defined = mul-pos a.defined b.defined }

abbrev pub quotient : (n d : ℕ) → 0 < d → Quotient
quotient n d D = record { top = n; base = d; defined = D }

-- of a fraction that is not negative
abbrev pub nonnegative : (a : Fraction) → Defined a → Quotient
nonnegative a d = quotient (num⁺ a) a.den d

abbrev pub natural : ℕ → Quotient
natural n = quotient n 1 (zero-lt-suc 0)

infix 4 ◌≼◌
pub record ◌≼◌ (a b : Quotient) : Type 0 where
  pub le : a.top * b.base ≤ b.top * a.base

-- ---- the order
pub ≼_refl : (a : Quotient) → a ≼ a
≼_refl a = record { le = le_of_eq refl }

pub ≼_trans : {a b c : Quotient} → a ≼ b → b ≼ c → a ≼ c
≼_trans {a} {b} {c} h k = record { le = le_of_mul-le-mul_right (core a.top a.base b.top b.base c.top c.base h.le k.le) b.defined }
  where
    core : (p d q e r f : ℕ) → p * e ≤ q * d → q * f ≤ r * e → p * f * e ≤ r * d * e
    core p d q e r f h k = omega (arith, mul-le-mul_right f h, mul-le-mul_right d k)

pub ⊞-mono : {a b c d : Quotient} → a ≼ b → c ≼ d → a ⊞ c ≼ b ⊞ d
⊞-mono {a} {b} {c} {d} h k = record { le = core a.top a.base b.top b.base c.top c.base d.top d.base h.le k.le }
  where
    core : (p d q e r f s g : ℕ) → p * e ≤ q * d → r * g ≤ s * f → (p * f + r * d) * (e * g) ≤ (q * g + s * e) * (d * f)
    core p d q e r f s g h k = omega (arith, mul-le-mul_right (f * g) h, mul-le-mul_right (d * e) k)

pub ⊠-mono : {a b c d : Quotient} → a ≼ b → c ≼ d → a ⊠ c ≼ b ⊠ d
⊠-mono {a} {b} {c} {d} h k = record { le = core a.top a.base b.top b.base c.top c.base d.top d.base (mul-le-mul h.le k.le) }
  where
    core : (p d q e r f s g : ℕ) → p * e * (r * g) ≤ q * d * (s * f) → p * r * (e * g) ≤ q * s * (d * f)
    core p d q e r f s g h = omega (arith, h)

-- a sum is at least its first part
pub ≼-more : (a b : Quotient) → a ≼ a ⊞ b
≼-more a b = record { le = core a.top a.base b.top b.base }
  where
    core : (p d q e : ℕ) → p * (d * e) ≤ (p * e + q * d) * d
    core p d q e = omega arith

-- ---- the laws of a semiring, as inequalities both ways
pub ⊞-comm : (a b : Quotient) → a ⊞ b ≼ b ⊞ a
⊞-comm a b = record { le = core a.top a.base b.top b.base }
  where
    core : (p d q e : ℕ) → (p * e + q * d) * (e * d) ≤ (q * d + p * e) * (d * e)
    core p d q e = omega arith

pub ⊞-assoc : (a b c : Quotient) → a ⊞ b ⊞ c ≼ a ⊞ (b ⊞ c)
⊞-assoc a b c = record { le = core a.top a.base b.top b.base c.top c.base }
  where
    core : (p d q e r f : ℕ) → ((p * e + q * d) * f + r * (d * e)) * (d * (e * f)) ≤ (p * (e * f) + (q * f + r * e) * d) * (d * e * f)
    core p d q e r f = omega arith

pub ⊞-assoc' : (a b c : Quotient) → a ⊞ (b ⊞ c) ≼ a ⊞ b ⊞ c
⊞-assoc' a b c = record { le = core a.top a.base b.top b.base c.top c.base }
  where
    core : (p d q e r f : ℕ) → (p * (e * f) + (q * f + r * e) * d) * (d * e * f) ≤ ((p * e + q * d) * f + r * (d * e)) * (d * (e * f))
    core p d q e r f = omega arith

pub ⊠-comm : (a b : Quotient) → a ⊠ b ≼ b ⊠ a
⊠-comm a b = record { le = core a.top a.base b.top b.base }
  where
    core : (p d q e : ℕ) → p * q * (e * d) ≤ q * p * (d * e)
    core p d q e = omega arith

pub ⊠-assoc : (a b c : Quotient) → a ⊠ b ⊠ c ≼ a ⊠ (b ⊠ c)
⊠-assoc a b c = record { le = core a.top a.base b.top b.base c.top c.base }
  where
    core : (p d q e r f : ℕ) → p * q * r * (d * (e * f)) ≤ p * (q * r) * (d * e * f)
    core p d q e r f = omega arith

pub ⊠-assoc' : (a b c : Quotient) → a ⊠ (b ⊠ c) ≼ a ⊠ b ⊠ c
⊠-assoc' a b c = record { le = core a.top a.base b.top b.base c.top c.base }
  where
    core : (p d q e r f : ℕ) → p * (q * r) * (d * e * f) ≤ p * q * r * (d * (e * f))
    core p d q e r f = omega arith

pub expand : (a b c : Quotient) → (a ⊞ b) ⊠ c ≼ a ⊠ c ⊞ b ⊠ c
expand a b c = record { le = core a.top a.base b.top b.base c.top c.base }
  where
    core : (p d q e r f : ℕ) → (p * e + q * d) * r * (d * f * (e * f)) ≤ (p * r * (e * f) + q * r * (d * f)) * (d * e * f)
    core p d q e r f = omega arith

pub collect : (a b c : Quotient) → a ⊠ c ⊞ b ⊠ c ≼ (a ⊞ b) ⊠ c
collect a b c = record { le = core a.top a.base b.top b.base c.top c.base }
  where
    core : (p d q e r f : ℕ) → (p * r * (e * f) + q * r * (d * f)) * (d * e * f) ≤ (p * e + q * d) * r * (d * f * (e * f))
    core p d q e r f = omega arith

-- ---- fractions
pub ≼-fractions : {a b : Quotient} → a ≼ b → fraction a ≤ℚ fraction b
≼-fractions {a} {b} h = parts-≤ℚ (fraction a) (fraction b) (core a.top a.base b.top b.base h.le)
  where
    core : (p d q e : ℕ) → p * e ≤ q * d → p * e + 0 * d ≤ q * d + 0 * e
    core p d q e h = omega arith

pub ≼-within : (a b q : Quotient) → a ≼ b ⊞ q → b ≼ a ⊞ q → Within (fraction a) (fraction b) (fraction q)
≼-within a b q h k = record { left = a.defined; right = b.defined; bound = q.defined; below = ≼-fractions h; above = ≼-fractions k }

pub ≼-relatively : (a b q : Quotient) → a ≼ b ⊞ q ⊠ b → b ≼ a ⊞ q ⊠ b → RelativelyWithin (fraction a) (fraction b) (fraction q)
≼-relatively a b q h k = ≼-within a b (q ⊠ b) h k

-- ---- multiples of a quotient
pub one_times : (a : Quotient) → natural 1 ⊠ a ≼ a
one_times a = record { le = core a.top a.base }
  where
    core : (p d : ℕ) → 1 * p * d ≤ p * (1 * d)
    core p d = omega arith

pub times_one : (a : Quotient) → a ≼ a ⊠ natural 1
times_one a = record { le = core a.top a.base }
  where
    core : (p d : ℕ) → p * (d * 1) ≤ p * 1 * d
    core p d = omega arith

-- a + r a is (1 + r) a
pub parted : (r a : Quotient) → (natural 1 ⊞ r) ⊠ a ≼ a ⊞ r ⊠ a
parted r a = ≼_trans (expand (natural 1) r a) (⊞-mono (one_times a) (≼_refl (r ⊠ a)))

pub gathered : (r a : Quotient) → a ⊞ r ⊠ a ≼ (natural 1 ⊞ r) ⊠ a
gathered r a = ≼_trans (⊞-mono (≼_trans (times_one a) (⊠-comm a (natural 1))) (≼_refl (r ⊠ a))) (collect (natural 1) r a)

-- a at most (1 + r) b and b at most (1 + w) a
pub mutually : (a b r w q : Quotient) → a ≼ (natural 1 ⊞ r) ⊠ b → b ≼ (natural 1 ⊞ w) ⊠ a → r ≼ q → w ⊠ (natural 1 ⊞ r) ≼ q → RelativelyWithin (fraction a) (fraction b) (fraction q)
mutually a b r w q h k i j =
    ≼-relatively a b q (≼_trans h (≼_trans (parted r b) (⊞-mono (≼_refl b) (⊠-mono i (≼_refl b)))))
    (≼_trans k
    (≼_trans (parted w a)
    (⊞-mono (≼_refl a) (≼_trans (⊠-mono (≼_refl w) h) (≼_trans (⊠-assoc' w (natural 1 ⊞ r) b) (⊠-mono j (≼_refl b)))))))
