-- THE PANELS OF THE PAGE: docs/SPECIFICATION.md, "The page". Fifteen in three rows of five: one for each code in the
-- order of their numbers, and the arpeggio's (`arpeggio_panel`). Without an older program `older` is the block itself,
-- and nothing differs. The sampled shapes are drawn at n turns. Definitions only.
use Rattle.std.specs.Prelude.{List, [], ◌++◌, ℕ, zero, suc, Option, None, Some}
use Rattle.settings.specs.declared.SampledTurns.{SampledTurns}
use Rattle.turns.specs.Turns.{turned_of}
use Rattle.codes.specs.declared.Code.{Code}
use Rattle.codes.specs.Codes.{code_of}
use Rattle.code_bytes.specs.Bytes.{byte_at}
use Rattle.code_shapes.specs.Shapes.{shape_of}
use Rattle.panel_frame.specs.Frame.{place_text}
use Rattle.panel_dials.specs.Rest.{panel_rest}
use Rattle.panel_curves.specs.Curves.{drawn_text, older_text}

-- The panel of a code, in place k: an older curve, over it what is drawn of the code, and the rest.
unfoldable pub code_panel : SampledTurns → List ℕ → List ℕ → ℕ → Option Code → List ℕ
code_panel n older block k (Some c) =
    place_text k ++ older_text (turned_of n (shape_of c (byte_at older))) (turned_of n (shape_of c (byte_at block))) ++
    drawn_text (turned_of n (shape_of c (byte_at block))) ++ panel_rest (byte_at older) (byte_at block) k c
code_panel n older block k None = []

-- The panel of code number k.
unfoldable pub panel_text : SampledTurns → List ℕ → List ℕ → ℕ → List ℕ
panel_text n older block k = code_panel n older block k (code_of k)

-- The first k panels.
unfoldable pub panels_text : SampledTurns → List ℕ → List ℕ → ℕ → List ℕ
panels_text n older block zero = []
panels_text n older block (suc k) = panels_text n older block k ++ panel_text n older block k
