-- WHAT FOLLOWS THE CODES' PANELS: docs/SPECIFICATION.md, "The page". `file` is the name of the block's file, and empty
-- where there is none. Definitions only.
use Rattle.std.specs.Prelude.{List, ◌++◌, ℕ}
use Rattle.code_bytes.specs.Bytes.{byte_at, gates_byte}
use Rattle.arpeggio_panel.specs.Arpeggio.{arpeggio_text}
use Rattle.page_head.specs.Head.{foot_text}

unfoldable pub page_end : List ℕ → List ℕ → List ℕ → List ℕ
page_end file older block = arpeggio_text (byte_at older gates_byte) (byte_at block gates_byte) ++ foot_text file block
