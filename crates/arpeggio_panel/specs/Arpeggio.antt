-- THE PANEL OF THE ARPEGGIO: docs/SPECIFICATION.md, "The page". Definitions only.
use Rattle.std.specs.Prelude.{List, ◌++◌, ℕ}
use Rattle.text.specs.Text.{ascii}
use Rattle.dial_lines.specs.Lines.{only_dial}
use Rattle.panel_frame.specs.Frame.{place_text, panel_end, title_text, frame_text}
use Rattle.panel_gates.specs.GateText.{gate_text}

-- The last panel, from the byte of the gates and what that byte was.
unfoldable pub arpeggio_text : ℕ → ℕ → List ℕ
arpeggio_text was b = place_text 14 ++ title_text 14 ++ gate_text was b ++ frame_text ++ only_dial (ascii "Gate time") was b ++ panel_end
