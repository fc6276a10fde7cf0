-- Check values that others publish, or that zlib computes. Assumes nothing.
use mathlib.Core.Path.{◌≡◌, refl}
use mathlib.Core.List.{[]}
use lib.ListN.{replicate}
use Rattle.fingerprint.specs.Crc32.{xor_bits, step_of, steps_of, after_byte, after_bytes, crc32_of}
use Rattle.text.specs.Text.{ascii}

-- The check value of the catalogues of CRCs.
digits : crc32_of (ascii "123456789") ≡ 0xcbf4_3926
unfolding crc32_of after_bytes after_byte steps_of step_of xor_bits
digits = refl

nothing : crc32_of [] ≡ 0
unfolding crc32_of after_bytes xor_bits
nothing = refl

-- The empty program, and the one whose bytes are all 255, by zlib.
empty_program : crc32_of (replicate 242 0) ≡ 0x1c35_0bdd
unfolding crc32_of after_bytes after_byte steps_of step_of xor_bits
empty_program = refl

full_program : crc32_of (replicate 242 255) ≡ 0xad14_8dff
unfolding crc32_of after_bytes after_byte steps_of step_of xor_bits
full_program = refl
