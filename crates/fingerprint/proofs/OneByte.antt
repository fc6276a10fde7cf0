-- ONE BYTE THAT DIFFERS IS TOLD: two lists that differ in one byte alone have different CRC-32s, wherever the byte stands. Each bit can be taken back: the polynomial's highest bit
-- is 1, so that the highest bit of a remainder says whether it was joined. Assumes nothing.
use mathlib.Core.Path.{◌≡◌, refl, sym, ap, ◌∙◌}
use mathlib.Core.List.{List, [], ◌∷◌, ◌++◌}
use Prim.Native.Nat.{ℕ, zero, suc, ◌+◌, ◌*◌, ◌/◌, ◌%◌, ◌^◌, ◌<◌, ◌≤◌}
use mathlib.Core.Logic.{◌⊎◌, inl, inr}
use native.Mathlib.Nat.{pow-suc, eq-or-lt_of_le}
use native.Mathlib.Omega.{arith}
use lib.Arith.{lt-one}
use borrow.Author.Tests.{eq-eqb}
use Rattle.fingerprint.specs.Crc32.{xor_bits, xor32, polynomial, step_of, steps_of, after_byte, after_bytes, crc32_of}

-- ---- bits
below_double : (a m y : ℕ) → a < m → y < 2 → a * 2 + y < m * 2
below_double a m y h g = omega arith

pub xor_below : (k a b : ℕ) → xor_bits k a b < 2 ^ k
unfolding xor_bits
xor_below zero a b = omega arith
xor_below (suc k) a b = rw (pow-suc 2 k) (below_double (xor_bits k (a / 2) (b / 2)) (2 ^ k) _ (xor_below k (a / 2) (b / 2)) (omega arith))

halved : (x y : ℕ) → y < 2 → (x * 2 + y) / 2 ≡ x
halved x y h = omega arith

last_bit : (x y : ℕ) → y < 2 → (x * 2 + y) % 2 ≡ y
last_bit x y h = omega arith

bit_twice : (a b : ℕ) → ((a % 2 + b % 2) % 2 + b % 2) % 2 ≡ a % 2
bit_twice a b = omega arith

whole : (a : ℕ) → a / 2 * 2 + a % 2 ≡ a
whole a = omega arith

half : {a m : ℕ} → a < m * 2 → a / 2 < m
half h = omega arith

-- What is joined twice is as it was.
pub xor_twice : (k a b : ℕ) → a < 2 ^ k → xor_bits k (xor_bits k a b) b ≡ a
unfolding xor_bits
xor_twice zero a b h = sym (lt-one h)
xor_twice (suc k) a b h =
    let g : a / 2 < 2 ^ k = half (rw (pow-suc 2 k) at h) in
    let y : (a % 2 + b % 2) % 2 < 2 = omega arith in
    rw (halved (xor_bits k (a / 2) (b / 2)) ((a % 2 + b % 2) % 2) y, last_bit (xor_bits k (a / 2) (b / 2)) ((a % 2 + b % 2) % 2) y, xor_twice k (a / 2) (b / 2) g, bit_twice a b) (whole a)

pub xor_swapped : (k a b : ℕ) → xor_bits k a b ≡ xor_bits k b a
unfolding xor_bits
xor_swapped zero a b = refl
xor_swapped (suc k) a b =
    let e : a % 2 + b % 2 ≡ b % 2 + a % 2 = omega arith in
    rw (xor_swapped k (a / 2) (b / 2), e)

xor_same : (k a b c : ℕ) → a < 2 ^ k → b < 2 ^ k → xor_bits k a c ≡ xor_bits k b c → a ≡ b
xor_same k a b c h g e = sym (xor_twice k a c h) ∙ ap (λ (x : ℕ). xor_bits k x c) e ∙ xor_twice k b c g

-- A number that has the highest bit, joined to one that has not, keeps it.
highest_kept : (k a p : ℕ) → a < 2 ^ k → 2 ^ k ≤ p → p < 2 ^ suc k → 2 ^ k ≤ xor_bits (suc k) a p
unfolding xor_bits
highest_kept zero a p h l g =
    let e : a ≡ 0 = lt-one h in
    let f : p ≡ 1 = omega arith in
    rw (e, f) (omega arith)
highest_kept (suc k) a p h l g =
    let h' : a / 2 < 2 ^ k = half (rw (pow-suc 2 k) at h) in
    let l' : 2 ^ k ≤ p / 2 = least (rw (pow-suc 2 k) at l) in
    let g' : p / 2 < 2 ^ suc k = half (rw (pow-suc 2 (suc k)) at g) in
    rw (pow-suc 2 k) (double_least _ (highest_kept k (a / 2) (p / 2) h' l' g'))
  where
    least : {a m : ℕ} → m * 2 ≤ a → m ≤ a / 2
    least h = omega arith

    double_least : {a m : ℕ} (y : ℕ) → m ≤ a → m * 2 ≤ a * 2 + y
    double_least y h = omega arith

-- ---- one bit
step_odd : (r : ℕ) → r % 2 ≡ 1 → step_of r ≡ xor32 (r / 2) polynomial
unfolding step_of
step_odd r e = simp (eq-eqb _ _ e)

step_even : (r : ℕ) → r % 2 ≡ 0 → step_of r ≡ r / 2
unfolding step_of
step_even r e = simp e

parity : (r : ℕ) → (r % 2 ≡ 0) ⊎ (r % 2 ≡ 1)
parity r = elim (eq-or-lt_of_le (bit_least r)) [ inl e ↦ inr e | inr l ↦ inl (omega arith) ]
  where
    bit_least : (r : ℕ) → r % 2 ≤ 1
    bit_least r = omega arith

pub step_below : (r : ℕ) → r < 2 ^ 32 → step_of r < 2 ^ 32
step_below r h = elim (parity r) [
  | inl e ↦ rw (step_even r e) (omega arith)
  | inr e ↦ rw (step_odd r e) (xor_below 32 (r / 2) polynomial)
]

-- What has fallen out is told by the highest bit that is left.
pub step_same : (r s : ℕ) → r < 2 ^ 32 → s < 2 ^ 32 → step_of r ≡ step_of s → r ≡ s
step_same r s h g q = elim (parity r) [
  | inl e ↦ elim (parity s) [
    | inl f ↦ evens (sym (step_even r e) ∙ q ∙ step_even s f) e f
    | inr f ↦ absurd (apart (r / 2) (s / 2) (below r h) (below s g) (sym (step_even r e) ∙ q ∙ step_odd s f))
  ]
  | inr e ↦ elim (parity s) [
    | inl f ↦ absurd (apart (s / 2) (r / 2) (below s g) (below r h) (sym (step_even s f) ∙ sym q ∙ step_odd r e))
    | inr f ↦ odds (xor_same 32 (r / 2) (s / 2) polynomial (wide r h) (wide s g) (sym (step_odd r e) ∙ q ∙ step_odd s f)) e f
  ]
]
  where
    below : (r : ℕ) → r < 2 ^ 32 → r / 2 < 2 ^ 31
    below r h = omega arith

    wide : (r : ℕ) → r < 2 ^ 32 → r / 2 < 2 ^ 32
    wide r h = omega arith

    apart : (a b : ℕ) → a < 2 ^ 31 → b < 2 ^ 31 → a ≡ xor32 b polynomial → ⊥
    apart a b h g e =
        let l : 2 ^ 31 ≤ xor32 b polynomial = highest_kept 31 b polynomial g (omega arith) (omega arith) in
        omega arith

    evens : {r s : ℕ} → r / 2 ≡ s / 2 → r % 2 ≡ 0 → s % 2 ≡ 0 → r ≡ s
    evens q e f = omega arith

    odds : {r s : ℕ} → r / 2 ≡ s / 2 → r % 2 ≡ 1 → s % 2 ≡ 1 → r ≡ s
    odds q e f = omega arith

-- ---- a byte, and the bytes after it
steps_below : (k r : ℕ) → r < 2 ^ 32 → steps_of k r < 2 ^ 32
unfolding steps_of
steps_below zero r h = h
steps_below (suc k) r h = step_below (steps_of k r) (steps_below k r h)

steps_same : (k r s : ℕ) → r < 2 ^ 32 → s < 2 ^ 32 → steps_of k r ≡ steps_of k s → r ≡ s
unfolding steps_of
steps_same zero r s h g e = e
steps_same (suc k) r s h g e = steps_same k r s h g (step_same (steps_of k r) (steps_of k s) (steps_below k r h) (steps_below k s g) e)

after_below : (r b : ℕ) → after_byte r b < 2 ^ 32
unfolding after_byte
after_below r b = steps_below 8 (xor32 r b) (xor_below 32 r b)

same_before : (r s b : ℕ) → r < 2 ^ 32 → s < 2 ^ 32 → after_byte r b ≡ after_byte s b → r ≡ s
unfolding after_byte
same_before r s b h g e = xor_same 32 r s b h g (steps_same 8 (xor32 r b) (xor32 s b) (xor_below 32 r b) (xor_below 32 s b) e)

same_byte : (r a b : ℕ) → a < 256 → b < 256 → after_byte r a ≡ after_byte r b → a ≡ b
unfolding after_byte
same_byte r a b h g e =
    let f : xor32 r a ≡ xor32 r b = steps_same 8 (xor32 r a) (xor32 r b) (xor_below 32 r a) (xor_below 32 r b) e in
    xor_same 32 a b r (omega arith) (omega arith) (xor_swapped 32 a r ∙ f ∙ xor_swapped 32 r b)

same_start : (bytes : List ℕ) (r s : ℕ) → r < 2 ^ 32 → s < 2 ^ 32 → after_bytes r bytes ≡ after_bytes s bytes → r ≡ s
unfolding after_bytes
same_start [] r s h g e = e
same_start (b ∷ bytes) r s h g e = same_before r s b h g (same_start bytes (after_byte r b) (after_byte s b) (after_below r b) (after_below s b) e)

same_there : (front back : List ℕ) (r a b : ℕ) → a < 256 → b < 256 → after_bytes r (front ++ a ∷ back) ≡ after_bytes r (front ++ b ∷ back) → a ≡ b
unfolding after_bytes
same_there [] back r a b h g e = same_byte r a b h g (same_start back (after_byte r a) (after_byte r b) (after_below r a) (after_below r b) e)
same_there (c ∷ front) back r a b h g e = same_there front back (after_byte r c) a b h g e

after_all_below : (bytes : List ℕ) (r : ℕ) → r < 2 ^ 32 → after_bytes r bytes < 2 ^ 32
unfolding after_bytes
after_all_below [] r h = h
after_all_below (b ∷ bytes) r h = after_all_below bytes (after_byte r b) (after_below r b)

pub one_byte_told : (front back : List ℕ) (a b : ℕ) → a < 256 → b < 256 → crc32_of (front ++ a ∷ back) ≡ crc32_of (front ++ b ∷ back) → a ≡ b
unfolding crc32_of
one_byte_told front back a b h g e =
    same_there front back 0xffff_ffff a b h g
    (xor_same 32 _ _ 0xffff_ffff (after_all_below (front ++ a ∷ back) 0xffff_ffff (omega arith)) (after_all_below (front ++ b ∷ back) 0xffff_ffff (omega arith)) e)
