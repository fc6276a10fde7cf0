-- THE MARKS OF IMPULSE TRAINS HELD AGAINST THE RUST. The numbers of a row are those of generator.rs (deepmind-midi, commit a25f50498d). Assumes nothing.
use mathlib.Core.Bool.{Bool}
use mathlib.Core.List.{List, [], ◌∷◌, map}
use Prim.Native.Nat.{ℕ}
use lib.Dec.{T}
use lib.Ieee.{of_bits, to_bits, lt}
use Rattle.lists.specs.Padded.{padded}
use Rattle.lists.proofs.Rows.{all_pass, all_match}
use Rattle.marks.specs.Marks.{count_of, stored}
use Rattle.marks.proofs.Examples.{is_mark, has_marks}
use Rattle.taps.specs.declared.Taps.{Taps}
use Rattle.taps.specs.Formula.{used_of}
use Rattle.taps.proofs.Examples.{floats, taps, plain, no_numbers, outside}
use Rattle.tap_marks.specs.Marks.{tap_marks}

-- the bits of their positions, each of the kind Tap, which has the number 6
marked : Taps × List ℕ → Bool
marked r = has_marks (map (λ (n : ℕ). (6, n)) r.1) (stored (tap_marks r.0 (used_of r.0)))

mark_rows : List (Taps × List ℕ)
mark_rows =
    (plain 4, 0x3dcc_cccd ∷ 0x3f00_0000 ∷ 0x3f02_8f5c ∷ 0x3f66_6666 ∷ []) ∷ (plain 2, 0x3dcc_cccd ∷ 0x3f00_0000 ∷ [])
    ∷ (plain 5, 0x3dcc_cccd ∷ 0x3f00_0000 ∷ 0x3f02_8f5c ∷ 0x3f66_6666 ∷ []) ∷ (plain 0, [])
    ∷ (no_numbers, 0x7fc0_0000 ∷ 0x0000_0000 ∷ 0x7f80_0000 ∷ 0x3f80_0000 ∷ []) ∷ (outside, 0xbc23_d70a ∷ 0x3f81_47ae ∷ 0x3f00_0000 ∷ 0x3e99_999a ∷ []) ∷ []

marks_agree : T (all_pass marked mark_rows)
unfolding all_pass all_match marked has_marks is_mark mark_rows plain no_numbers outside taps floats to_bits of_bits lt padded count_of stored tap_marks
marks_agree = tt
