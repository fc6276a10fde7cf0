-- WHAT A DISTANCE BY 64TH POWERS SAYS. The power P = 2 ^ ((c - 128) / 64) lies between the fractions p / q whose 64th power is at most 2 ^ c / 2 ^ 128 and those whose
-- 64th power is at least that. Where a / b is near P by one part in n, each p / q up to P, less one part in n of it, is at most a / b; and each p / q from P on, with one
-- part in n of it more, is at least a / b. Assumes nothing.
use mathlib.Core.Path.{◌≡◌, refl}
use mathlib.Core.Bool.{Bool, true, false, not}
use Prim.Native.Nat.{ℕ, zero, suc, ◌+◌, ◌-◌, ◌*◌, ◌^◌, ◌≤◌, ◌<◌}
use native.Mathlib.Nat.{not-le_of_lt, suc-ne-zero, pow-suc, pow-lt-pow_left, mul-mul-mul_comm, mul-le-mul_right, le_of_mul-le-mul_right}
use native.Mathlib.Numerals.{unary_clauses}
use native.Mathlib.Omega.{arith}
use lib.Dec.{T, leb, leb→le, nleb→lt}
use lib.Pow.{pow_pos}
use Rattle.exact.proofs.Close.{ring}
use Rattle.bends.specs.Formula.{NearPower}

mul_pow : (x y k : ℕ) → (x * y) ^ k ≡ x ^ k * y ^ k
mul_pow x y zero = simp unary_clauses refl
mul_pow x y (suc k) = simp (pow-suc, mul_pow x y k, mul-mul-mul_comm)

-- 64th powers are in the order of what they are powers of
root : (x y : ℕ) → x ^ 64 ≤ y ^ 64 → x ≤ y
root x y h = go (leb x y) (leb→le x y) (nleb→lt x y)
  where
    go : (b : Bool) → (T b → x ≤ y) → (T (not b) → y < x) → x ≤ y
    go true f g = f tt
    go false f g = absurd (not-le_of_lt (pow-lt-pow_left (g tt) (suc-ne-zero 63)) h)

products : (w x z y : ℕ) → w ^ 64 * x ^ 64 ≤ z ^ 64 * y ^ 64 → w * x ≤ z * y
products w x z y h = root (w * x) (z * y) (rw (mul_pow w x 64, mul_pow z y 64) h)

-- x / y ≤ X / Y and X / Y ≤ z / w, multiplied across
across : (x y z w X Y : ℕ) → 0 < Y → x * Y ≤ y * X → w * X ≤ z * Y → w * x ≤ z * y
across x y z w X Y h k l = le_of_mul-le-mul_right (simp ring (omega (arith, simp ring at (mul-le-mul_right w k), simp ring at (mul-le-mul_right y l)))) h

-- p / q is at most the power of c; and it is at least that
abbrev pub UpTo : ℕ → ℕ → ℕ → Type 0
UpTo c p q = p ^ 64 * 2 ^ 128 ≤ q ^ 64 * 2 ^ c

abbrev pub From : ℕ → ℕ → ℕ → Type 0
From c p q = q ^ 64 * 2 ^ c ≤ p ^ 64 * 2 ^ 128

-- (1 - 1/n) p / q ≤ a / b, and a / b ≤ (1 + 1/n) p / q
pub from_below : (n c a b p q : ℕ) → NearPower n c a b → UpTo c p q → (n - 1) * b * p ≤ n * a * q
from_below n c a b p q h k = products ((n - 1) * b) p (n * a) q (across (p ^ 64) (q ^ 64) ((n * a) ^ 64) (((n - 1) * b) ^ 64) (2 ^ c) (2 ^ 128) (pow_pos 128) k h.below)

pub from_above : (n c a b p q : ℕ) → NearPower n c a b → From c p q → n * a * q ≤ (n + 1) * b * p
from_above n c a b p q h k = products (n * a) q ((n + 1) * b) p (across (q ^ 64) (p ^ 64) (((n + 1) * b) ^ 64) ((n * a) ^ 64) (2 ^ 128) (2 ^ c) (pow_pos c) k h.above)
