-- `put_captions` writes `captions_text`. The loop's invariant: the cells of the first k segments are written, and the next begins at `left`. Assumes nothing.
use mathlib.Core.Path.{◌≡◌}
use Prim.Native.Nat.{◌*◌, ◌≤◌}
use Rattle.text.specs.Text.{Puts, texts_below}
use Rattle.caption_cells.specs.Cells.{left_of}
use Rattle.panel_captions.specs.Captions.{cell_text}
use Rattle.panel_captions.proofs.put_captions.Given as goal

abbrev pub invariant-loop-k : goal.invariant-loop-k
invariant-loop-k l =
    (l.left ≤ 5000 * l.k) × (l.left ≡ left_of l.captions l.k) × Puts l.initial.out (texts_below (cell_text l.captions) l.k) l.out
