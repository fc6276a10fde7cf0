-- BOTH EDGES: docs/SPECIFICATION.md, "The checklist". Definitions only.
use Rattle.std.specs.Prelude.{cond, List, [], ◌∷◌, ℕ, ◌/◌, ◌%◌, ltb, leb, eqb, get_or, Float}
use Rattle.strip.specs.Strip.{part_of}
use Rattle.float_bits.specs.Agreement.{agree}
use Rattle.trials.specs.declared.Input.{Input}
use Rattle.trials.specs.declared.Trial.{Trial}
use Rattle.trials.specs.Trials.{nothing}
use Rattle.inputs.specs.Inputs.{input_height}
use Rattle.edge_trials.specs.declared.Edges.{Edges}

-- The bits of position 0 and of position 1.
abbrev pub left_bits : ℕ
left_bits = 0

abbrev pub right_bits : ℕ
right_bits = 0x3f80_0000

-- An input's height agrees with the one that is expected.
unfoldable pub edge_trial : Input → Float → Trial
edge_trial i expected = record { right = agree (input_height i).height expected; values = 1; input = i }

-- ---- heights that are known beforehand
-- The codes from one up to another, the bytes that they read, and the heights at the left edge and at the right one, in hundredths.
abbrev pub edges_of : ℕ → ℕ → ℕ → ℕ → ℕ → Edges
edges_of from to bytes left right = record { from = from; to = to; bytes = bytes; left = left; right = right }

abbrev pub no_edges : Edges
no_edges = edges_of 0 0 0 0 0

unfoldable pub table : List Edges
table =
    -- envelopes: full times, which rise from 0 and fall to it; times 0 and a full sustain, with sustain curves 0 and 255
    edges_of 0 3 0xffff_ffff_8080_8080 0 0 ∷ edges_of 0 3 0x0000_ff00_8080_0080 100 0 ∷ edges_of 0 3 0x0000_ff00_8080_ff80 100 100
    -- the seven shapes of an LFO
    ∷ edges_of 3 7 0 50 50 ∷ edges_of 3 7 0x1_0000 0 0 ∷ edges_of 3 7 0x2_0000 100 0 ∷ edges_of 3 7 0x3_0000 0 100 ∷ edges_of 3 7 0x4_0000 100 0
    ∷ edges_of 3 7 0x5_0000 72 31 ∷ edges_of 3 7 0x6_0000 86 63
    -- fades of no time, and of full time
    ∷ edges_of 7 9 0 100 100 ∷ edges_of 7 9 0xff 0 100
    -- a low-pass with no resonance: 0 decibels, and less than -48
    ∷ edges_of 9 10 0 80 0
    -- oscillator 1 with no wave, the saw, the pulse, and both
    ∷ edges_of 11 12 0 50 50 ∷ edges_of 11 12 0x100 0 100 ∷ edges_of 11 12 0x1_0000 100 0 ∷ edges_of 11 12 0x1_0100 50 50
    -- oscillator 2 and noise, level 0; oscillator 2, level 255
    ∷ edges_of 12 14 0 50 50 ∷ edges_of 12 13 0xff 100 0
    -- oscillator 1's pulse at its full width
    ∷ edges_of 11 12 0x1_00ff 100 0 ∷ []

-- Side 0 is the left edge, the other the right one.
abbrev pub side_bits : ℕ → ℕ
side_bits side = cond (eqb side 0) left_bits right_bits

unfoldable pub side_height : Edges → ℕ → Float
side_height e side = part_of (cond (eqb side 0) e.left e.right) 100

-- A code that is not among an entry's is not tried.
unfoldable pub known_at : Edges → ℕ → ℕ → Trial
known_at e code side =
    cond (ltb code e.from) nothing
    (cond (leb e.to code) nothing (edge_trial (record { code = code; bytes = e.bytes; position = side_bits side }) (side_height e side)))

-- Each entry, code and side.
unfoldable pub known_trial : ℕ → Trial
known_trial n = known_at (get_or table (n / 28) no_edges) (n / 2 % 14) (n % 2)

-- ---- positions beyond the edges
-- -0, the number next below it, -1, -infinity and a NaN are drawn as position 0; the number next to 1, 2 and infinity as position 1.
unfoldable pub beyond : List ℕ
beyond = 0x8000_0000 ∷ 0x8000_0001 ∷ 0xbf80_0000 ∷ 0xff80_0000 ∷ 0x7fc0_0000 ∷ 0x3f80_0001 ∷ 0x4000_0000 ∷ 0x7f80_0000 ∷ []

abbrev pub edge_bits : ℕ → ℕ
edge_bits k = cond (ltb k 5) left_bits right_bits

-- Two patterns of bytes.
abbrev pub pattern_of : ℕ → ℕ
pattern_of k = cond (eqb k 0) 0 0x5555_5555_5555_5555

unfoldable pub beyond_input : ℕ → ℕ → Input
beyond_input n position = record { code = n / 16; bytes = pattern_of (n / 8 % 2); position = position }

-- Each code, pattern and position has the edge's height.
unfoldable pub beyond_trial : ℕ → Trial
beyond_trial n = edge_trial (beyond_input n (get_or beyond (n % 8) 0)) (input_height (beyond_input n (edge_bits (n % 8)))).height
