-- WHY THE FLOOR OF A PATTERN b IS WHAT IT IS, in words: docs/SPECIFICATION.md, "The floor on paper". Definitions only.
use Rattle.std.specs.Prelude.{Bool, cond, List, ◌++◌, ℕ, eqb}
use Rattle.std.specs.Float.Ieee.{lt}
use Rattle.exact.specs.Binary32.{bits, zero₃₂}
use Rattle.text.specs.Text.{ascii}
use Rattle.numerals.specs.Spelled.{decimal_of}

-- At an exponent below 0.
unfoldable pub small_reason : ℕ → List ℕ
small_reason b = cond (lt (bits b) zero₃₂) (ascii "-1, since x is below 0\n") (ascii "+0, since x is not below 0\n")

-- At an exponent from 0 to 22: k bits are cleared.
unfoldable pub cleared_reason : ℕ → List ℕ
cleared_reason k =
    cond (eqb k 1) (ascii "the lowest bit of the fraction is cleared\n")
    (ascii "the low " ++ decimal_of k ++ ascii " bits of the fraction are cleared\n")

-- Whether 1 is taken off: x is below 0, and one of the cleared bits was set.
unfoldable pub step_reason : Bool → ℕ → List ℕ
step_reason some b =
    cond (lt (bits b) zero₃₂)
    (cond some (ascii "less 1, since x is below 0 and a set bit was cleared\n") (ascii "and that is all, since no set bit was cleared\n"))
    (ascii "and that is all, since x is not below 0\n")
