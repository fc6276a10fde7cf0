-- THE EMPTY PROGRAM: docs/SPECIFICATION.md, "The checklist". Definitions only.
use Rattle.std.specs.Prelude.{Bool, false, cond, ℕ, ◌/◌, ◌%◌, Float}
use Rattle.std.specs.Float.Ieee.{le}
use Rattle.exact.specs.Binary32.{zero₃₂, one₃₂}
use Rattle.trials.specs.declared.Input.{Input}
use Rattle.trials.specs.declared.Trial.{Trial}
use Rattle.inputs.specs.Inputs.{input_height, part_bits}

-- Of 242 zeros, each code has 1,025 samples.
unfoldable pub empty_input : ℕ → Input
empty_input n = record { code = n / 1025; bytes = 0; position = part_bits (n % 1025) 1024 }

-- A NaN is no such number.
abbrev pub from_zero_to_one : Float → Bool
from_zero_to_one h = cond (le zero₃₂ h) (le h one₃₂) false

-- The height is a number from 0 to 1.
unfoldable pub empty_trial : ℕ → Trial
empty_trial n = record { right = from_zero_to_one (input_height (empty_input n)).height; values = 1; input = empty_input n }
