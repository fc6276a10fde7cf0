-- THE STEPS OF ONE WALK ALONG A STRIP: docs/SPECIFICATION.md, "Strips". What it leaves is what the plain engine leaves; its steps are its own. Definitions only.
use Rattle.std.specs.Prelude.{Bool, ◌&&◌, ℕ, zero, suc, ◌+◌, ◌-◌, Float}
use Rattle.std.specs.Float.Ieee.{lt, le}
use Rattle.exact.specs.Binary32.{bits, zero₃₂}
use Rattle.generator.specs.declared.Shape.{Shape}
use Rattle.strip.specs.Strip.{sample_of}

-- Of n samples whose last one's own walk has so many steps, the cut one among them: its full steps, and a cut step for each sample. None where nothing is walked.
unfoldable pub once_from : ℕ → ℕ → ℕ
once_from zero n = 0
once_from (suc full) n = full + n

-- The steps for a strip of n samples.
unfoldable pub steps_once : Shape → ℕ → ℕ
steps_once s n = once_from (sample_of s n (n - 1)).steps n

-- A number of turns above 0 and at most 8: with it the phases of a strip's samples never go back.
abbrev pub forward : Float → Bool
forward turns = lt zero₃₂ turns && le turns (bits 0x4100_0000)
