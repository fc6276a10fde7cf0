-- THE GATES OF A PANEL: docs/SPECIFICATION.md, "The page". Definitions only.
use Rattle.std.specs.Prelude.{cond, List, [], ◌++◌, ℕ, eqb}
use Rattle.gates.specs.Gates.{bars_of}
use Rattle.text.specs.Text.{ascii}
use Rattle.panel_bars.specs.Bars.{bars_text, older_bars_text, steps_text}

-- The bars of an older program's gates beneath those of the program's, where the byte differs.
unfoldable pub older_gate : ℕ → ℕ → List ℕ
older_gate was b = cond (eqb was b) [] (older_bars_text (bars_of was))

-- What is drawn of the gates: the bars of four steps.
unfoldable pub gate_text : ℕ → ℕ → List ℕ
gate_text was b = ascii "<text y='-2600'>4 steps, starts at the left edge</text>" ++ older_gate was b ++ bars_text (bars_of b) ++ steps_text
