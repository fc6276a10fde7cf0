-- THE EXPONENT BY THE FIELD of a pattern, and the texts that go by it. Assumes nothing.
use mathlib.Core.Path.{◌≡◌}
use mathlib.Core.List.{[], ◌++◌}
use Prim.Native.Nat.{ℕ, suc, ◌-◌, ◌≤◌, ◌<◌}
use native.Mathlib.Omega.{arith}
use borrow.Author.Tests.{lt-ltb, le-ltb}
use lib.IntN.{pos, negsuc}
use Rattle.exact.specs.Fraction.{floorℚ}
use Rattle.exact.specs.Value.{value}
use Rattle.exact.specs.Binary32.{bits}
use Rattle.floor.specs.Exponent.{exponent}
use Rattle.floor.proofs.Patterns.{field}
use Rattle.text.specs.Text.{ascii}
use Rattle.numerals.specs.Spelled.{decimal_of}
use Rattle.floor_number.specs.Number.{whole_text, number_text}

pub exponent_below : (b : ℕ) → field b < 127 → exponent b ≡ negsuc (127 - suc (field b))
exponent_below b h = rw (lt-ltb (field b) 127 h)

pub exponent_from : (b : ℕ) → 127 ≤ field b → exponent b ≡ pos (field b - 127)
exponent_from b h = rw (le-ltb (field b) 127 h)

-- ---- the exponent as text
pub text_below : (b : ℕ) → field b < 127 → ascii "-" ++ decimal_of (127 - field b) ≡ whole_text (exponent b)
unfolding whole_text
text_below b h =
    let e : 127 - field b ≡ suc (127 - suc (field b)) = omega arith in
    rw (exponent_below b h, e)

pub text_from : (b : ℕ) → 127 ≤ field b → decimal_of (field b - 127) ≡ whole_text (exponent b)
unfolding whole_text
text_from b h = rw (exponent_from b h)

-- ---- where the floor is written
pub number_small : (b : ℕ) → field b < 127 → whole_text (floorℚ (value (bits b))) ≡ number_text b
unfolding number_text
number_small b h = rw (exponent_below b h)

pub number_cut : (b : ℕ) → 127 ≤ field b → field b < 150
    → whole_text (floorℚ (value (bits b))) ≡ number_text b
unfolding number_text
number_cut b h l =
    let k : field b - 127 < 23 = omega arith in
    rw (exponent_from b h, lt-ltb (field b - 127) 23 k)

pub number_large : (b : ℕ) → 150 ≤ field b → [] ≡ number_text b
unfolding number_text
number_large b h =
    let l : 127 ≤ field b = omega arith in
    let k : 23 ≤ field b - 127 = omega arith in
    rw (exponent_from b l, le-ltb (field b - 127) 23 k)
