-- THE CASE BY THE FIELD of a pattern, the floor as a number below exponent 23, and the k lowest bits. Assumes nothing.
use mathlib.Core.Path.{◌≡◌, refl, sym, ap}
use mathlib.Core.Bool.{Bool, true, false, not}
use mathlib.Core.List.{List}
use Prim.Native.Nat.{ℕ, ◌-◌, ◌%◌, ◌≤◌, ◌<◌}
use native.Mathlib.Omega.{arith}
use borrow.Author.Tests.{lt-ltb, le-ltb, ltb-true, ltb-false}
use lib.Dec.{eqb, ltb}
use Rattle.exact.specs.Fraction.{floorℚ}
use Rattle.exact.specs.Value.{value}
use Rattle.exact.specs.Binary32.{bits}
use Rattle.floor.specs.Exponent.{exponent, set, cleared}
use Rattle.floor.proofs.Patterns.{field}
use Rattle.bit_fields.proofs.Bits.{shifted, shifted_is}
use Rattle.floor_number.specs.Number.{whole_text, number_text}
use Rattle.floor_number.proofs.Exponents.{exponent_below, exponent_from, number_small, number_cut}
use Rattle.floor_reasons.specs.Reasons.{step_reason}
use Rattle.floor_lines.specs.Lines.{line_of, small_text, cut_text, large_text, case_text}

pub small_case : (b : ℕ) → field b < 127 → small_text b ≡ case_text (exponent b) b
small_case b h = rw (exponent_below b h)

pub cut_case : (b : ℕ) → 127 ≤ field b → field b < 150 → cut_text (150 - field b) b ≡ case_text (exponent b) b
cut_case b h l =
    let k : 150 - field b ≡ 23 - (field b - 127) = omega arith in
    let u : field b - 127 < 23 = omega arith in
    rw (exponent_from b h, lt-ltb (field b - 127) 23 u, k)

pub large_case : (b : ℕ) → 150 ≤ field b → large_text b ≡ case_text (exponent b) b
large_case b h =
    let l : 127 ≤ field b = omega arith in
    let u : 23 ≤ field b - 127 = omega arith in
    rw (exponent_from b l, le-ltb (field b - 127) 23 u)

-- below exponent 23 the floor is written as a whole number
pub number_is : (b : ℕ) → field b < 150 → number_text b ≡ whole_text (floorℚ (value (bits b)))
number_is b h = go (ltb (field b) 127) refl
  where
    go : (t : Bool) → ltb (field b) 127 ≡ t → number_text b ≡ whole_text (floorℚ (value (bits b)))
    go true e = sym (number_small b (ltb-true (field b) 127 e))
    go false e = sym (number_cut b (ltb-false (field b) 127 e) h)

-- ---- the k lowest bits as the code has them: the pattern without them, and whether one of them was set
module _ (b k : ℕ) (h : k < 32) where
  pub cleared_line : (name : List ℕ) → line_of name (b - b % shifted k) ≡ line_of name (cleared k b)
  cleared_line name = ap (λ (p : ℕ). line_of name (b - b % p)) (shifted_is k h)

  pub set_reason : step_reason (not (eqb (b % shifted k) 0)) b ≡ step_reason (set k b) b
  set_reason = ap (λ (p : ℕ). step_reason (not (eqb (b % p) 0)) b) (shifted_is k h)
