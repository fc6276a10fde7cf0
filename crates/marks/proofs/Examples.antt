-- THE CYCLES OF ANY TURNS HELD AGAINST THE RUST. The numbers of a row are those of `cycles` in generator.rs (deepmind-midi, commit a25f50498d) with room for eight marks, for an LFO of any turns. A NaN is written 0x7fc0_0000 in both. Assumes nothing.
use mathlib.Core.Bool.{Bool, ◌&&◌}
use mathlib.Core.List.{List, [], ◌∷◌}
use Prim.Native.Nat.{ℕ}
use lib.Dec.{T, eqb}
use lib.ListN.{take}
use lib.Ieee.{binary32, of_bits, to_bits, of_int, div, lt}
use Rattle.exact.specs.Binary32.{bits}
use Rattle.lists.specs.Padded.{padded}
use Rattle.lists.proofs.Rows.{all_pass, all_match}
use Rattle.marks.specs.declared.Mark.{Mark}
use Rattle.marks.specs.declared.Marks.{Marks}
use Rattle.marks.specs.Marks.{kind_number, count_of, stored, cycles_from, cycles_of}

-- A mark is a pair: the number of its kind, and the bits of its position.
unfoldable pub is_mark : ℕ × ℕ → Mark → Bool
is_mark r k = eqb (kind_number k.kind) r.0 && eqb (to_bits binary32 k.at) r.1

-- The marks of a record are these.
unfoldable pub has_marks : List (ℕ × ℕ) → Marks → Bool
has_marks rs m = all_match is_mark rs (take m.count m.places)

-- ---- the turns by their bits: NaN, infinities, zeros, subnormal, just below 1 and 6, more than are stored, huge, negative
has_turn_marks : ℕ × List (ℕ × ℕ) → Bool
has_turn_marks r = has_marks r.1 (stored (cycles_of (bits r.0)))

turn_rows : List (ℕ × List (ℕ × ℕ))
turn_rows =
    (0x7fc0_0000, (5, 0x7fc0_0000) ∷ (5, 0x7fc0_0000) ∷ (5, 0x7fc0_0000) ∷ (5, 0x7fc0_0000) ∷ (5, 0x7fc0_0000) ∷ (5, 0x7fc0_0000) ∷ (5, 0x7fc0_0000) ∷ (5, 0x7fc0_0000) ∷ [])
    ∷ (0x7f80_0000, (5, 0x0000_0000) ∷ (5, 0x0000_0000) ∷ (5, 0x0000_0000) ∷ (5, 0x0000_0000) ∷ (5, 0x0000_0000) ∷ (5, 0x0000_0000) ∷ (5, 0x0000_0000) ∷ (5, 0x0000_0000) ∷ [])
    ∷ (0xff80_0000, [])
    ∷ (0x0000_0000, [])
    ∷ (0x8000_0000, [])
    ∷ (0x0000_0001, [])
    ∷ (0x3f7f_ffff, [])
    ∷ (0x4020_0000, (5, 0x3ecc_cccd) ∷ (5, 0x3f4c_cccd) ∷ [])
    ∷ (0x40bf_ffff, (5, 0x3e2a_aaac) ∷ (5, 0x3eaa_aaac) ∷ (5, 0x3f00_0001) ∷ (5, 0x3f2a_aaac) ∷ (5, 0x3f55_5556) ∷ [])
    ∷ (0x40f0_0000, (5, 0x3e08_8889) ∷ (5, 0x3e88_8889) ∷ (5, 0x3ecc_cccd) ∷ (5, 0x3f08_8889) ∷ (5, 0x3f2a_aaab) ∷ (5, 0x3f4c_cccd) ∷ (5, 0x3f6e_eeef) ∷ [])
    ∷ (0x437f_8000, (5, 0x3b80_4020) ∷ (5, 0x3c00_4020) ∷ (5, 0x3c40_6030) ∷ (5, 0x3c80_4020) ∷ (5, 0x3ca0_5028) ∷ (5, 0x3cc0_6030) ∷ (5, 0x3ce0_7038) ∷ (5, 0x3d00_4020) ∷ [])
    ∷ (0x7f61_b1e6, (5, 0x0024_4bfa) ∷ (5, 0x0048_97f4) ∷ (5, 0x006c_e3ee) ∷ (5, 0x0091_2fe9) ∷ (5, 0x00b5_7be3) ∷ (5, 0x00d9_c7dd) ∷ (5, 0x00fe_13d7) ∷ (5, 0x0111_2fe9) ∷ [])
    ∷ (0xc040_0000, [])
    ∷ []

turns_agree : T (all_pass has_turn_marks turn_rows)
unfolding all_pass all_match has_turn_marks has_marks is_mark turn_rows stored padded count_of cycles_from cycles_of to_bits of_bits of_int div lt
turns_agree = tt
