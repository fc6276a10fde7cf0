-- THE ROUNDED OPERATIONS OF BINARY32, by the signs that numerical analysis has for them, and literals by their bit patterns.
-- Each is an operation of IEEE 754: the exact result, rounded once, to the nearest float and at a tie to the even one. Definitions only.
use Rattle.std.specs.Prelude.{ℕ, Float}
use Rattle.std.specs.Float.{binary32}
use Rattle.std.specs.Float.Ieee.{of_bits, add, sub, mul, div}

infixl 6 ◌⊕◌
abbrev pub ◌⊕◌ : Float → Float → Float
x ⊕ y = add binary32 x y

infixl 6 ◌⊖◌
abbrev pub ◌⊖◌ : Float → Float → Float
x ⊖ y = sub binary32 x y

infixl 7 ◌⊗◌
abbrev pub ◌⊗◌ : Float → Float → Float
x ⊗ y = mul binary32 x y

infixl 7 ◌⊘◌
abbrev pub ◌⊘◌ : Float → Float → Float
x ⊘ y = div binary32 x y

-- The float of a bit pattern.
abbrev pub bits : ℕ → Float
bits b = of_bits binary32 b

-- 0, 1/4, 1/2 and 1
abbrev pub zero₃₂ : Float
zero₃₂ = bits 0x0000_0000

abbrev pub quarter₃₂ : Float
quarter₃₂ = bits 0x3e80_0000

abbrev pub half₃₂ : Float
half₃₂ = bits 0x3f00_0000

abbrev pub one₃₂ : Float
one₃₂ = bits 0x3f80_0000
