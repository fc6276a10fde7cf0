-- THE ARPEGGIATOR'S GATES: docs/SPECIFICATION.md, "Marks, rest, scale, anchor, gates". Definitions only.
use Rattle.std.specs.Prelude.{cond, [], ◌∷◌, ℕ, eqb, pos, get_or}
use Rattle.std.specs.Float.{binary32, nan}
use Rattle.std.specs.Float.Ieee.{of_int}
use Rattle.exact.specs.Binary32.{◌⊕◌, zero₃₂}
use Rattle.settings.specs.Settings.{byte_of}
use Rattle.gates.specs.declared.Gate.{Gate}
use Rattle.gates.specs.declared.Gates.{Gates}

-- The gate of step s: open from s on, for b / 255 of a step.
unfoldable pub gate_of : ℕ → ℕ → Gate
gate_of b s = record { start = of_int binary32 (pos s); end = of_int binary32 (pos s) ⊕ byte_of b }

-- What a place that is not used holds.
abbrev pub closed : Gate
closed = record { start = zero₃₂; end = zero₃₂ }

-- None where the byte is 0, and otherwise those of steps 0 to 3.
unfoldable pub gates_of : ℕ → Gates
gates_of b =
    cond (eqb b 0)
    (record { places = closed ∷ closed ∷ closed ∷ closed ∷ []; count = 0 })
    (record { places = gate_of b 0 ∷ gate_of b 1 ∷ gate_of b 2 ∷ gate_of b 3 ∷ []; count = 4 })

-- The bars: each gate is one of its own, also where it ends just where the next one starts.
abbrev pub bars_of : ℕ → Gates
bars_of b = gates_of b

-- Gate number i: past the four places, which no use reaches, a gate of NaNs.
abbrev pub gate_at : Gates → ℕ → Gate
gate_at gates i = get_or gates.places i (record { start = nan; end = nan })
