-- THE CRC-32 OF SOME BYTES: docs/SPECIFICATION.md, "The fingerprint". It is that of IEEE 802.3 and of zlib. Definitions only.
use Rattle.std.specs.Prelude.{cond, List, [], ◌∷◌, ℕ, zero, suc, ◌+◌, ◌*◌, ◌/◌, ◌%◌, eqb}

-- The last k bits of two numbers, each 1 where the two bits differ. (The logic's own `bit_xor` does not compute on words.)
unfoldable pub xor_bits : ℕ → ℕ → ℕ → ℕ
xor_bits zero a b = 0
xor_bits (suc k) a b = xor_bits k (a / 2) (b / 2) * 2 + (a % 2 + b % 2) % 2

abbrev pub xor32 : ℕ → ℕ → ℕ
xor32 a b = xor_bits 32 a b

-- The polynomial x³² + x²⁶ + x²³ + x²² + x¹⁶ + x¹² + x¹¹ + x¹⁰ + x⁸ + x⁷ + x⁵ + x⁴ + x² + x + 1, its bits turned round: x³¹ is the lowest, and x³² is not written.
abbrev pub polynomial : ℕ
polynomial = 0xedb8_8320

-- One bit: the remainder moves by one, and where the bit that falls out is 1 the polynomial is taken from it.
unfoldable pub step_of : ℕ → ℕ
step_of r = cond (eqb (r % 2) 1) (xor32 (r / 2) polynomial) (r / 2)

unfoldable pub steps_of : ℕ → ℕ → ℕ
steps_of zero r = r
steps_of (suc k) r = step_of (steps_of k r)

-- One byte: it is joined to the lowest eight bits, and those fall out.
unfoldable pub after_byte : ℕ → ℕ → ℕ
after_byte r b = steps_of 8 (xor32 r b)

unfoldable pub after_bytes : ℕ → List ℕ → ℕ
after_bytes r [] = r
after_bytes r (b ∷ bytes) = after_bytes (after_byte r b) bytes

-- All bytes, from 32 ones, and every bit turned over at the end.
unfoldable pub crc32_of : List ℕ → ℕ
crc32_of bytes = xor32 (after_bytes 0xffff_ffff bytes) 0xffff_ffff
