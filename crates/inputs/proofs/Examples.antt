-- THE BLOCK OF AN INPUT, computed from its definition. Assumes nothing.
use mathlib.Core.Path.{◌≡◌, refl}
use mathlib.Core.List.{[], ◌∷◌}
use lib.ListN.{length, take, drop}
use Rattle.codes.specs.Codes.{codes, code_in}
use Rattle.code_bytes.specs.Bytes.{bytes_of}
use Rattle.inputs.specs.Inputs.{with_bytes, places_of, with_input, block_of, lfo_input}

-- LFO 1: its shape is byte 2, its key sync byte 3, its slew byte 6.
lfo_block : take 8 (block_of (lfo_input 5 255 0)) ≡ 0 ∷ 0 ∷ 5 ∷ 0 ∷ 0 ∷ 0 ∷ 255 ∷ 0 ∷ []
unfolding codes code_in bytes_of with_bytes places_of with_input block_of
lfo_block = refl

-- The VCA envelope: eight bytes from 53 to 61, without 57.
envelope_block : drop 52 (take 63 (block_of (record { code = 0; bytes = 0x0102_0304_0506_0708; position = 0 }))) ≡ 0 ∷ 1 ∷ 2 ∷ 3 ∷ 4 ∷ 0 ∷ 5 ∷ 6 ∷ 7 ∷ 8 ∷ 0 ∷ []
unfolding codes code_in bytes_of with_bytes places_of with_input block_of
envelope_block = refl

block_length_lem : length (block_of (lfo_input 5 255 0)) ≡ 242
unfolding codes code_in bytes_of with_bytes places_of with_input block_of
block_length_lem = refl
