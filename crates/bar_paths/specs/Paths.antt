-- THE PATHS OF BARS: docs/SPECIFICATION.md, "The page". Definitions only.
use Rattle.std.specs.Prelude.{List, [], ◌++◌, ℕ, zero, suc, Float}
use Rattle.exact.specs.Binary32.{◌⊘◌, bits}
use Rattle.text.specs.Text.{ascii}
use Rattle.numerals.specs.Spelled.{decimal_of}
use Rattle.gates.specs.declared.Gate.{Gate}
use Rattle.gates.specs.declared.Gates.{Gates}
use Rattle.gates.specs.Gates.{gate_at}
use Rattle.panel_frame.specs.Frame.{across_units}

-- Where a bar starts or ends, after the way there: a step is a quarter of the frame.
unfoldable pub corner_text : List ℕ → Float → List ℕ
corner_text way x = way ++ decimal_of (across_units (x ⊘ bits 0x4080_0000))

-- A bar from one step's place to another's, after its start and with its way up.
unfoldable pub bar_text : List ℕ → List ℕ → Gate → List ℕ
bar_text start up g = corner_text start g.start ++ corner_text up g.end ++ ascii "V0Z'/>"

-- The first k bars.
unfoldable pub some_bars : List ℕ → List ℕ → Gates → ℕ → List ℕ
some_bars start up g zero = []
some_bars start up g (suc k) = some_bars start up g k ++ bar_text start up (gate_at g k)
