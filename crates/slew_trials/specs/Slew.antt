-- SLEW AT 1 AND AT 255: docs/SPECIFICATION.md, "The checklist". The steps of LFO 1's walk, which has 96 to a turn, and a turn before the left edge. Definitions only.
use Rattle.std.specs.Prelude.{Bool, false, cond, ℕ, ◌+◌, ◌-◌, ◌*◌, ◌/◌, ◌%◌, leb, ltb, eqb}
use Rattle.trials.specs.declared.Input.{Input}
use Rattle.trials.specs.declared.Trial.{Trial}
use Rattle.inputs.specs.Inputs.{input_height, part_bits, lfo_input}

-- The steps that the walk to part i of 64 needs, rounded up: 96 for each of six turns, or for one.
unfoldable pub least_steps : ℕ → Bool → ℕ
least_steps i six = 96 + cond six (9 * i) ((3 * i + 1) / 2)

-- At the edges exactly as many; between them a place that is rounded to just below the phase takes one more.
unfoldable pub most_steps : ℕ → Bool → ℕ
most_steps i six = least_steps i six + cond (eqb i 0) 0 (cond (eqb i 64) 0 1)

-- Not fewer than before, and from the least to the most.
unfoldable pub enough : ℕ → ℕ → ℕ → Bool → Bool
enough steps before i six = cond (ltb steps before) false (cond (ltb steps (least_steps i six)) false (leb steps (most_steps i six)))

-- Each of the seven shapes has 65 positions at slew byte 1, then 65 at 255.
unfoldable pub slew_byte : ℕ → ℕ
slew_byte k = cond (eqb k 0) 1 255

unfoldable pub slew_input : ℕ → Input
slew_input n = lfo_input (n / 130) (slew_byte (n / 65 % 2)) (part_bits (n % 65) 64)

unfoldable pub slew_steps : ℕ → ℕ
slew_steps n = (input_height (slew_input n)).steps

-- The steps at the position before; at the first none.
unfoldable pub steps_before : ℕ → ℕ
steps_before n = cond (eqb (n % 65) 0) 0 (slew_steps (n - 1))

-- The samples, shapes 5 and 6, have six turns, the other shapes one.
unfoldable pub slew_trial : ℕ → Trial
slew_trial n = record { right = enough (slew_steps n) (steps_before n) (n % 65) (ltb 4 (n / 130)); values = 1; input = slew_input n }
