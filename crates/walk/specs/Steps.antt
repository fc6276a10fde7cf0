-- THE STEPS OF A WALK: docs/SPECIFICATION.md, "The three demands" and "The curves". Definitions only.
use Rattle.std.specs.Prelude.{not, ℕ, ◌+◌, ◌*◌, ◌≤◌, ◌<◌, T, Float}
use Rattle.std.specs.Float.Ieee.{lt}
use Rattle.walk.specs.Formula.{place_of}

-- Of a curve of so many turns, k is the first count from 1 up whose place is not below the phase. It lies from 96, the cycle before the curve, to 96 more for each turn:
-- 672 at six turns, 864 at eight.
pub record Steps (turns : ℕ) (phase : Float) (k : ℕ) : Type 0 where
  pub some : 1 ≤ k
  pub reached : T (not (lt (place_of k) phase))
  pub first : (j : ℕ) → 1 ≤ j → j < k → T (lt (place_of j) phase)
  pub least : 96 ≤ k
  pub most : k ≤ 96 + 96 * turns
