-- TAPS FROM TWO LENT ARRAYS: docs/SPECIFICATION.md, "The C interface". Definitions only.
use Rattle.std.specs.Prelude.{List, [], ◌∷◌, ℕ, get_or, Float, Result, Ok}
use Rattle.std.specs.Float.{nan}
use Rattle.marks.specs.declared.Marks.{Marks}
use Rattle.marks.specs.Marks.{stored}
use Rattle.taps.specs.declared.Taps.{Taps}
use Rattle.taps.specs.Formula.{used_of}
use Rattle.tap_marks.specs.Marks.{tap_marks}
use Rattle.refusals.specs.declared.Refusal.{Refusal}

-- Taps from two arrays of four.
unfoldable pub taps_of : List Float → List Float → ℕ → Taps
taps_of at tall used =
    record {
      at = get_or at 0 nan ∷ get_or at 1 nan ∷ get_or at 2 nan ∷ get_or at 3 nan ∷ [];
      tall = get_or tall 0 nan ∷ get_or tall 1 nan ∷ get_or tall 2 nan ∷ get_or tall 3 nan ∷ [];
      used = used;
    }

-- The marks of taps, which are never refused.
unfoldable pub taps_answer : Taps → Result Marks Refusal
taps_answer taps = Ok (stored (tap_marks taps (used_of taps)))
