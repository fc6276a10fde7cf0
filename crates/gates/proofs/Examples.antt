-- GATES HELD AGAINST THE RUST, AND BARS TOO. The numbers of a row are those of the gates of generator.rs (deepmind-midi, commit a25f50498d), over a block with the row's byte. Assumes nothing.
use mathlib.Core.Bool.{Bool, ◌&&◌}
use mathlib.Core.List.{List, [], ◌∷◌}
use Prim.Native.Nat.{ℕ}
use lib.Dec.{T, eqb}
use lib.ListN.{take}
use lib.Ieee.{binary32, of_bits, to_bits, of_int, add, div}
use Rattle.lists.proofs.Rows.{all_pass, all_match}
use Rattle.settings.specs.Settings.{byte_of}
use Rattle.gates.specs.declared.Gate.{Gate}
use Rattle.gates.specs.declared.Gates.{Gates}
use Rattle.gates.specs.Gates.{gate_of, gates_of, bars_of}

-- A gate is a pair: the bits of its start and of its end.
is_gate : ℕ × ℕ → Gate → Bool
is_gate r g = eqb (to_bits binary32 g.start) r.0 && eqb (to_bits binary32 g.end) r.1

has_gates : (ℕ → Gates) → ℕ × List (ℕ × ℕ) → Bool
has_gates given r = all_match is_gate r.1 (take (given r.0).count (given r.0).places)

gate_rows : List (ℕ × List (ℕ × ℕ))
gate_rows =
    (0, [])
    ∷ (1, (0x0000_0000, 0x3b80_8081) ∷ (0x3f80_0000, 0x3f80_8081) ∷ (0x4000_0000, 0x4000_4040) ∷ (0x4040_0000, 0x4040_4040) ∷ [])
    ∷ (128, (0x0000_0000, 0x3f00_8081) ∷ (0x3f80_0000, 0x3fc0_4040) ∷ (0x4000_0000, 0x4020_2020) ∷ (0x4040_0000, 0x4060_2020) ∷ [])
    ∷ (254, (0x0000_0000, 0x3f7e_feff) ∷ (0x3f80_0000, 0x3fff_7f80) ∷ (0x4000_0000, 0x403f_bfc0) ∷ (0x4040_0000, 0x407f_bfc0) ∷ [])
    ∷ (255, (0x0000_0000, 0x3f80_0000) ∷ (0x3f80_0000, 0x4000_0000) ∷ (0x4000_0000, 0x4040_0000) ∷ (0x4040_0000, 0x4080_0000) ∷ [])
    ∷ []

gates_agree : T (all_pass (has_gates gates_of) gate_rows)
unfolding all_pass all_match has_gates is_gate gate_rows gates_of gate_of byte_of to_bits of_bits of_int add div
gates_agree = tt

bars_agree : T (all_pass (has_gates bars_of) gate_rows)
unfolding all_pass all_match has_gates is_gate gate_rows gates_of gate_of byte_of to_bits of_bits of_int add div
bars_agree = tt
