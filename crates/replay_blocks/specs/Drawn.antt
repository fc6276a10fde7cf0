-- THE BLOCK THAT A SEED STANDS FOR: reference/generator/list.rs draws the same. Definitions only.
use Rattle.std.specs.Prelude.{List, ℕ, zero, suc, ◌+◌, ◌*◌, ◌/◌, ◌%◌, ◌^◌, replicate}
use Rattle.lists.specs.Written.{written}

-- The number after s.
abbrev pub next_of : ℕ → ℕ
next_of s = s * 48271 % 0x7fff_ffff

-- Number i, counted from the seed.
unfoldable pub drawn : ℕ → ℕ → ℕ
drawn seed zero = seed % 0x7fff_ffff
drawn seed (suc i) = next_of (drawn seed i)

-- The byte of a number: the highest eight of its 31 bits, modulo one more than the most.
abbrev pub byte_of : ℕ → ℕ → ℕ
byte_of s most = s / 2 ^ 23 % (most + 1)

-- Byte i is that of number i + 1.
unfoldable pub drawn_byte : ℕ → ℕ → ℕ → ℕ
drawn_byte seed most i = byte_of (drawn seed (suc i)) most

unfoldable pub drawn_block : ℕ → ℕ → List ℕ
drawn_block seed most = written (drawn_byte seed most) 242 (replicate 242 0)
