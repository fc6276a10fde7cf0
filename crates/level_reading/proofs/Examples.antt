-- LEVELS THAT ARE KNOWN BEFOREHAND, by their bits, and texts that are none. Assumes nothing.
use mathlib.Core.Bool.{Bool, true, false}
use mathlib.Core.List.{List, [], ◌∷◌, ◌++◌}
use Prim.Native.Nat.{ℕ}
use lib.Dec.{T, eqb}
use lib.ListN.{replicate}
use lib.Ieee.{Float, binary32, round, to_bits}
use Rattle.lists.proofs.Rows.{all_pass}
use Rattle.text.specs.Text.{ascii}
use Rattle.decimal_reading.specs.Reading.{read_after}
use Rattle.std.specs.Prelude.{Option, Some, None}
use Rattle.level_reading.specs.Reading.{level_over, level_of}

-- Half of the smallest f32, to its last place.
half : List ℕ
half =
    ascii "0.000000000000000000000000000000000000000000000700649232162408535461864791644958"
    ++ ascii "065640130970938257885878534141944895541342930300743319094181060791015625"

-- a text, and the bits of its level
rows : List (List ℕ × ℕ)
unfolding half
rows =
    (ascii "0", 0x0000_0000)
    ∷ (ascii "0.", 0x0000_0000)
    ∷ (ascii "1", 0x3f80_0000)
    ∷ (ascii "1.000", 0x3f80_0000)
    ∷ (ascii "0.25", 0x3e80_0000)
    ∷ (ascii "0.1", 0x3dcc_cccd)
    ∷ (ascii "0.002383728744462132453918457031250", 0x3b1c_3855)
    ∷ (ascii "0.5000000298023223876953125", 0x3f00_0000)
    ∷ (ascii "0.50000002980232238769531250001", 0x3f00_0001)
    ∷ (ascii "0.5000000894069671630859375", 0x3f00_0002)
    ∷ (ascii "0.999999999", 0x3f80_0000)
    ∷ (ascii "0.0000000000000000000000000000000000000000000014", 0x0000_0001)
    ∷ (half, 0x0000_0000)
    ∷ (half ++ ascii "1", 0x0000_0001)
    ∷ (ascii "0." ++ replicate 160 57, 0x3f80_0000)
    ∷ []

is : Option Float → ℕ → Bool
is (Some x) b = eqb (to_bits binary32 x) b
is None b = false

reads : List ℕ × ℕ → Bool
unfolding is
reads r = is (level_of r.0) r.1

levels_known : T (all_pass reads rows)
unfolding all_pass reads rows read_after level_over level_of round to_bits
levels_known = tt

-- no level
others : List (List ℕ)
others =
    []
    ∷ ascii ".5"
    ∷ ascii "2"
    ∷ ascii "1.01"
    ∷ ascii "-0"
    ∷ ascii "0,5"
    ∷ ascii "0.2x"
    ∷ ascii "1e-3"
    ∷ (ascii "0." ++ replicate 161 57)
    ∷ []

is_none : Option Float → Bool
is_none (Some x) = false
is_none None = true

none : List ℕ → Bool
unfolding is_none
none text = is_none (level_of text)

others_are_none : T (all_pass none others)
unfolding all_pass none others read_after level_over level_of round
others_are_none = tt
