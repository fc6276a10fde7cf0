-- THE REST OF A CODE'S PANEL, after its curve: docs/SPECIFICATION.md, "The page". a reads the older program, which is
-- the same one where there is none, and b the program. Definitions only.
use Rattle.std.specs.Prelude.{List, ◌++◌, ℕ}
use Rattle.codes.specs.declared.Code.{Code}
use Rattle.dials.specs.Dials.{dials_of}
use Rattle.panel_frame.specs.Frame.{title_text, frame_text, panel_end}

-- That of panel k.
unfoldable pub panel_rest : (ℕ → ℕ) → (ℕ → ℕ) → ℕ → Code → List ℕ
panel_rest a b k c = title_text k ++ frame_text ++ dials_of c a b ++ panel_end
