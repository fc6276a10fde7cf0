-- EVERY SHAPE BYTE OF LFO 1: docs/SPECIFICATION.md, "The checklist". Definitions only.
use Rattle.std.specs.Prelude.{Bool, cond, ℕ, zero, suc, ◌+◌, ◌/◌, ◌%◌, ltb, eqb}
use Rattle.std.specs.Float.{binary32}
use Rattle.std.specs.Float.Ieee.{to_bits}
use Rattle.trials.specs.declared.Trial.{Trial}
use Rattle.trials.specs.Trials.{nothing}
use Rattle.inputs.specs.Inputs.{input_height, part_bits, lfo_input}

-- The bits of a shape byte's height at part i of 64, slew 0.
unfoldable pub word_at : ℕ → ℕ → ℕ
word_at shape i = to_bits binary32 (input_height (lfo_input shape 0 (part_bits i 64))).height

-- 1 where two shape bytes have heights of different bits at part i, else 0.
unfoldable pub differs_at : ℕ → ℕ → ℕ → ℕ
differs_at a b i = cond (eqb (word_at a i) (word_at b i)) 0 1

-- At how many of the first k positions they have.
unfoldable pub differing : ℕ → ℕ → ℕ → ℕ
differing a b zero = 0
differing a b (suc k) = differing a b k + differs_at a b k

-- A trial compares 65 heights, and stands for the input at the left edge.
unfoldable pub shape_trial : Bool → ℕ → Trial
shape_trial right shape = record { right = right; values = 65; input = lfo_input shape 0 0 }

-- The bytes from 7 on name no shape: the heights are those of byte 0.
unfoldable pub unnamed_trial : ℕ → Trial
unnamed_trial n = shape_trial (eqb (differing (7 + n) 0 65) 0) (7 + n)

-- Each two of the bytes 0 to 6 differ somewhere: pair n is n / 7 with n % 7, where the first is the lower.
unfoldable pub named_trial : ℕ → Trial
named_trial n = cond (ltb (n / 7) (n % 7)) (shape_trial (ltb 0 (differing (n / 7) (n % 7) 65)) (n % 7)) nothing
