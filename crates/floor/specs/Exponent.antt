-- THE FLOOR AS ON PAPER, by the exponent of a bit pattern: docs/SPECIFICATION.md, "The floor on paper". Definitions only.
use Rattle.std.specs.Prelude.{Bool, cond, not, ◌&&◌, ℕ, ◌-◌, ◌/◌, ◌%◌, ◌^◌, eqb, ltb, ℤ, pos, negsuc, ◌-ℤ◌, Float}
use Rattle.std.specs.Float.Ieee.{lt, neg}
use Rattle.exact.specs.Binary32.{◌⊖◌, bits, zero₃₂, one₃₂}

-- The exponent of a pattern: the eight bits between its sign and its fraction of 23, less 127.
-- A zero and a subnormal number have -127 here, an infinity and a NaN 128.
abbrev pub exponent : ℕ → ℤ
exponent b = pos (b % 2 ^ 31 / 2 ^ 23) -ℤ pos 127

-- Whether one of its k lowest bits is set, and the pattern with them cleared.
abbrev pub set : ℕ → ℕ → Bool
set k b = not (eqb (b % 2 ^ k) 0)

abbrev pub cleared : ℕ → ℕ → ℕ
cleared k b = b - b % 2 ^ k

-- At an exponent below 0: -1 for a number below 0, otherwise +0.
abbrev pub small_floor : ℕ → Float
small_floor b = cond (lt (bits b) zero₃₂) (neg one₃₂) zero₃₂

-- Where k bits of the fraction stand below the point: these cleared, less 1 where the number is below 0 and one of them was set.
abbrev pub cut_floor : ℕ → ℕ → Float
cut_floor k b = cond (lt (bits b) zero₃₂ && set k b) (bits (cleared k b) ⊖ one₃₂) (bits (cleared k b))

-- The three cases: below 0, from 0 to 22, and the number itself from 23 on.
abbrev pub at_exponent : ℤ → ℕ → Float
at_exponent (negsuc n) b = small_floor b
at_exponent (pos e) b = cond (ltb e 23) (cut_floor (23 - e) b) (bits b)

unfoldable pub by_exponent : ℕ → Float
by_exponent b = at_exponent (exponent b) b
