-- THE PHASES OF A STRIP'S SAMPLES NEVER GO BACK: sample i lies at i / last, which grows with i, and so does its product with the turns; the last lies at 1. Assumes nothing.
use mathlib.Core.Path.{◌≡◌, refl, ◌∙◌}
use mathlib.Core.Bool.{true, false}
use Prim.Native.Nat.{ℕ, zero, suc, ◌*◌, ◌-◌, ◌≤◌, ◌<◌}
use native.Mathlib.Nat.{mul-pos, mul_comm}
use native.Mathlib.Omega.{arith}
use lib.IntN.{pos}
use lib.Dec.{T, lit<, eqb-suc-zero}
use lib.Ieee.{Float, nan, inf, fin, binary32, up, down, round, of_bits, of_int, div, lt, le, eq}
use lib.Ieee.Fits.{up_pos, down_pos}
use lib.Ieee.Positive.{positive}
use lib.Ieee.Scale.{round_same}
use Rattle.exact.specs.Binary32.{◌⊗◌, one₃₂}
use Rattle.rounding.proofs.Monotone.{unsigned, mul_mono}
use Rattle.strip.specs.Strip.{part_of, sample_position}
use Rattle.strip.proofs.SamplePositions.{whole_positive, part_unsigned, part_rises}
use Rattle.lfo_strip_once.specs.Once.{forward}

-- ---- a number of turns has no sign
forward_unsigned : (t : Float) → T (forward t) → T (unsigned t)
unfolding lt le eq of_bits
forward_unsigned nan h = absurd h
forward_unsigned (inf true) h = absurd h
forward_unsigned (inf false) h = absurd h
forward_unsigned (fin true m e) h = absurd h
forward_unsigned (fin false m e) h = tt

-- ---- THE PHASES of two samples of n
pub phase_rises : (turns : Float) → T (forward turns) → (n i j : ℕ) → 2 ≤ n → n ≤ 4096 → i ≤ j → j < n → T (le (sample_position n i ⊗ turns) (sample_position n j ⊗ turns))
unfolding sample_position
phase_rises turns h n i j a b k l =
    let some : 0 < n - 1 = omega arith in
    let few : n - 1 ≤ 4096 = omega arith in
    mul_mono binary32 (part_of i (n - 1)) (part_of j (n - 1)) turns (part_unsigned (n - 1) some few i (omega arith)) (part_unsigned (n - 1) some few j (omega arith)) (forward_unsigned turns h)
    (part_rises (n - 1) some few i (omega arith) j k (omega arith))

-- ---- a positive float over itself is 1
one_rounded : round binary32 false 1 1 ≡ one₃₂
unfolding round of_bits
one_rounded = refl

over_itself : (x : Float) → T (positive x) → div binary32 x x ≡ one₃₂
unfolding div
over_itself nan p = absurd p
over_itself (inf s) p = absurd p
over_itself (fin true m e) p = absurd p
over_itself (fin false zero e) p = absurd p
over_itself (fin false (suc m) e) p =
    let P = suc m * up e * down e in
    rw (eqb-suc-zero m) (round_same binary32 false P P 1 1 (mul-pos (mul-pos (some m) (up_pos e)) (down_pos e)) (lit< tt) (mul_comm P 1) ∙ one_rounded)
  where
    some : (m : ℕ) → 0 < suc m
    some m = omega arith

-- ---- the last sample lies at 1
pub last_at_one : (n : ℕ) → 2 ≤ n → n ≤ 4096 → sample_position n (n - 1) ≡ one₃₂
unfolding sample_position
last_at_one n h k = over_itself (of_int binary32 (pos (n - 1))) (whole_positive (n - 1) (omega arith) (omega arith))
