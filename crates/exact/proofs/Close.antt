-- TWO NATURAL NUMBERS THAT DIFFER BY AT MOST v. A signed number is a difference p - n of two naturals here, so that |p - n| ≤ v is
-- `Close p n v`, and every law is one of sums and products of naturals, which `omega` decides once it is handed the products. Assumes nothing.
use mathlib.Core.Path.{◌≡◌, sym, subst₂}
use mathlib.Core.Bool.{Bool, true, false, not}
use Prim.Native.Nat.{ℕ, ◌+◌, ◌-◌, ◌*◌, ◌≤◌, ◌<◌}
use native.Mathlib.Nat.{le_of_lt, add-mul, mul-add, mul_assoc, mul_comm, mul_left_comm, add_assoc, add_comm, add_left_comm, mul-le-mul, mul-le-mul_right, le_of_mul-le-mul_right, add-sub_of_le}
use native.Mathlib.Omega.{arith}
use lib.Dec.{T, leb, leb→le, nleb→lt}

-- A sum of products into a sum of sorted monomials: `simp ring (omega (arith, simp ring at h))` proves what is linear in the monomials.
pub ruleset ring = (add-mul, mul-add, mul_assoc, mul_comm, mul_left_comm)

-- Both sides of an equation into one form: `simp semiring` proves an identity.
pub ruleset semiring = (add-mul, mul-add, mul_assoc, mul_comm, mul_left_comm, add_assoc, add_comm, add_left_comm)

pub record Close (x y v : ℕ) : Type 0 where
  pub le : x ≤ y + v
  pub ge : y ≤ x + v

pub flip : {x y v : ℕ} → Close x y v → Close y x v
flip h = record { le = h.ge; ge = h.le }

pub loosen : {x y v w : ℕ} → Close x y v → v ≤ w → Close x y w
loosen {x} {y} {v} {w} h k = omega arith

-- the same numbers, written otherwise
pub recast : {x y v x' y' v' : ℕ} → Close x y v → x ≡ x' → y ≡ y' → v ≡ v' → Close x' y' v'
recast {x} {y} {v} {x'} {y'} {v'} h a b c = omega arith

-- two differences that share a middle part: E - C and C - F make E - F
pub chain : (E₁ E₂ C₁ C₂ F₁ F₂ r s : ℕ) → Close (E₁ + C₁) (E₂ + C₂) r → Close (C₂ + F₁) (C₁ + F₂) s → Close (E₁ + F₁) (E₂ + F₂) (r + s)
chain E₁ E₂ C₁ C₂ F₁ F₂ r s h k = omega arith

pub times : {x y v : ℕ} (k : ℕ) → Close x y v → Close (x * k) (y * k) (v * k)
times {x} {y} {v} k h = omega (arith, mul-le-mul_right k h.le, mul-le-mul_right k h.ge)

pub cancel : {x y v : ℕ} (k : ℕ) → 0 < k → Close (x * k) (y * k) (v * k) → Close x y v
cancel {x} {y} {v} k K h =
    let a : x * k ≤ (y + v) * k = omega arith in
    let b : y * k ≤ (x + v) * k = omega arith in
    record { le = le_of_mul-le-mul_right a K; ge = le_of_mul-le-mul_right b K }

-- ---- which of two numbers is the larger, by their difference
pub data Split (p n : ℕ) : Type 0 where
  less : (k : ℕ) → n ≡ p + k → Split p n
  more : (k : ℕ) → p ≡ n + k → Split p n

pub split : (p n : ℕ) → Split p n
split p n = go (leb p n) (leb→le p n) (nleb→lt p n)
  where
    go : (b : Bool) → (T b → p ≤ n) → (T (not b) → n < p) → Split p n
    go true h k = less (n - p) (sym (add-sub_of_le (h tt)))
    go false h k = more (p - n) (sym (add-sub_of_le (le_of_lt (k tt))))

-- |p - n| ≤ v and |q - m| ≤ z give |(p - n) (q - m)| ≤ v z
pub product : {p n v q m z : ℕ} → Close p n v → Close q m z → Close (p * q + n * m) (p * m + n * q) (v * z)
product {p} {n} {v} {q} {m} {z} h g = go (split p n) (split q m)
  where
    -- the two differences k and l are at most v and z
    both : (k l : ℕ) → k ≤ v → l ≤ z → k * l ≤ v * z
    both k l a b = mul-le-mul a b

    go : Split p n → Split q m → Close (p * q + n * m) (p * m + n * q) (v * z)
    go (less k e) (less l d) =
        let c = both k l (omega arith) (omega arith) in
        subst₂ (λ (n m : ℕ). Close (p * q + n * m) (p * m + n * q) (v * z)) (sym e) (sym d) (omega (arith, c))
    go (less k e) (more l d) =
        let c = both k l (omega arith) (omega arith) in
        subst₂ (λ (n q : ℕ). Close (p * q + n * m) (p * m + n * q) (v * z)) (sym e) (sym d) (omega (arith, c))
    go (more k e) (less l d) =
        let c = both k l (omega arith) (omega arith) in
        subst₂ (λ (p m : ℕ). Close (p * q + n * m) (p * m + n * q) (v * z)) (sym e) (sym d) (omega (arith, c))
    go (more k e) (more l d) =
        let c = both k l (omega arith) (omega arith) in
        subst₂ (λ (p q : ℕ). Close (p * q + n * m) (p * m + n * q) (v * z)) (sym e) (sym d) (omega (arith, c))
