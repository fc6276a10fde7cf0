-- The processor's exclusive or of two numbers of k bits is `xor_bits`; bits and bytes are taken one after the other. Assumes nothing.
use mathlib.Core.Path.{◌≡◌, refl, sym, ◌∙◌}
use mathlib.Core.List.{List}
use Prim.Native.Nat.{ℕ, zero, suc, ◌+◌, ◌*◌, ◌/◌, ◌%◌, ◌^◌, ◌<◌, ◌≤◌}
use native.Mathlib.Nat.{pow-suc}
use native.Mathlib.Numerals.{add-one}
use native.Mathlib.Omega.{arith}
use lib.Arith.{lt-one}
use lib.Bits.{bit_xor, differ, xor_step}
use lib.ListN.{length, drop, get_or, drop_of_length-le}
use lib.Seq.{drop-cons}
use Rattle.fingerprint.specs.Crc32.{xor_bits, xor32, step_of, steps_of, after_byte, after_bytes, crc32_of}

differ_bit : (x y : ℕ) → x < 2 → y < 2 → differ x y ≡ (x + y) % 2
differ_bit zero y h g = omega arith
differ_bit (suc zero) zero h g = refl
differ_bit (suc zero) (suc zero) h g = refl
differ_bit (suc zero) (suc (suc y)) h g = absurd (omega arith)
differ_bit (suc (suc x)) y h g = absurd (omega arith)

half : {a m : ℕ} → a < m * 2 → a / 2 < m
half h = omega arith

pub xor_is : (k a b : ℕ) → a < 2 ^ k → b < 2 ^ k → bit_xor a b ≡ xor_bits k a b
unfolding xor_bits
xor_is zero a b h g = rw (lt-one h, lt-one g)
xor_is (suc k) a b h g =
    let h' : a / 2 < 2 ^ k = half (rw (pow-suc 2 k) at h) in
    let g' : b / 2 < 2 ^ k = half (rw (pow-suc 2 k) at g) in
    xor_step a b ∙ rw (xor_is k (a / 2) (b / 2) h' g', differ_bit (a % 2) (b % 2) (omega arith) (omega arith))

-- ---- the eight bits of a byte
pub no_step : (x s : ℕ) → s ≡ x → s ≡ steps_of 0 x
unfolding steps_of
no_step x s e = e

pub step_more : (i x s : ℕ) {t : ℕ} → s ≡ steps_of i x → t ≡ step_of s → t ≡ steps_of (i + 1) x
unfolding steps_of
step_more i x s e f = simp (add-one, f, e)

pub all_steps : (i r b : ℕ) {s : ℕ} → i ≤ 8 → 8 ≤ i → s ≡ steps_of i (xor32 r b) → s ≡ after_byte r b
unfolding after_byte
all_steps i r b h g e =
    let q : i ≡ 8 = omega arith in
    rw q at e

-- ---- the bytes
module _ (bytes : List ℕ) (i r : ℕ) where
  next_byte : i < length bytes → after_bytes r (drop i bytes) ≡ after_bytes (after_byte r (get_or bytes i 0)) (drop (i + 1) bytes)
  unfolding after_bytes
  next_byte h = rw (add-one, drop-cons bytes i 0 h)

  no_byte : length bytes ≤ i → after_bytes r (drop i bytes) ≡ r
  unfolding after_bytes
  no_byte h = rw (drop_of_length-le bytes h)

  pub byte_taken : {s x : ℕ} → i < length bytes → s ≡ after_byte r (get_or bytes i 0) → after_bytes r (drop i bytes) ≡ x → after_bytes s (drop (i + 1) bytes) ≡ x
  byte_taken h e f = rw e (sym (next_byte h) ∙ f)

  pub all_taken : {s : ℕ} → length bytes ≤ i → after_bytes r (drop i bytes) ≡ after_bytes 0xffff_ffff bytes → s ≡ xor32 r 0xffff_ffff → s ≡ crc32_of bytes
  unfolding crc32_of
  all_taken h e f = rw (← e, no_byte h) f
