-- THE BEND OF A CURVE BYTE: docs/SPECIFICATION.md, "Settings" and "The chart of bends". A byte is a natural number below 256. Definitions only.
use Rattle.std.specs.Prelude.{◌≡◌, List, ℕ, ◌+◌, ◌-◌, ◌*◌, ◌^◌, ◌≤◌, ◌<◌, pos, Float}
use Rattle.std.specs.Float.{binary32}
use Rattle.std.specs.Float.Ieee.{of_int}
use Rattle.exact.specs.Fraction.{ratio}
use Rattle.exact.specs.Value.{value}
use Rattle.exact.specs.Binary32.{◌⊖◌, ◌⊘◌, bits}
use Rattle.exp2.specs.Formula.{exp2_of}
use Rattle.lists.specs.Listed.{listed}

-- 2 ^ ((c - 128) / 64), in binary32, one rounding to an operation.
unfoldable pub bend_of : ℕ → Float
bend_of c = exp2_of ((of_int binary32 (pos c) ⊖ bits 0x4300_0000) ⊘ bits 0x4280_0000)

-- The chart: the bends of the 256 curve bytes, 16 in a row.
unfoldable pub chart_of : List (List Float)
chart_of = listed (λ i. listed bend_of (16 * i) 16) 0 16

-- The fraction a / b differs from the power P = 2 ^ ((c - 128) / 64) by at most one part in n of P: (1 - 1/n) P ≤ a / b ≤ (1 + 1/n) P. P itself is
-- seldom a fraction. So each side is raised to the 64th power, P ^ 64 being 2 ^ c / 2 ^ 128, and multiplied by (n b) ^ 64 2 ^ 128: whole numbers are left.
pub record NearPower (n c a b : ℕ) : Type 0 where
  pub defined : 0 < b
  pub below : ((n - 1) * b) ^ 64 * 2 ^ c ≤ (n * a) ^ 64 * 2 ^ 128
  pub above : (n * a) ^ 64 * 2 ^ 128 ≤ ((n + 1) * b) ^ 64 * 2 ^ c

-- A bend may be off by one part in so many, 2 ^ 20.
abbrev pub parts : ℕ
parts = 1048576

-- What the chart has for curve byte c: the bend, and how near it is to the power.
pub record Charted (c : ℕ) (k : Float) : Type 0 where
  pub is : k ≡ bend_of c
  pub num : ℕ
  pub den : ℕ
  pub holds : value k ≡ ratio num den
  pub near : NearPower parts c num den
