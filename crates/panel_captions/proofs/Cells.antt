-- The cell of a segment, by its edges. Assumes nothing.
use mathlib.Core.Path.{◌≡◌}
use mathlib.Core.List.{List}
use Prim.Native.Nat.{ℕ, ◌+◌}
use native.Mathlib.Numerals.{add-one}
use Rattle.caption_cells.specs.Cells.{start_of, cell_end, left_of}
use Rattle.panel_captions.specs.Captions.{cell_between, cell_text}

module _ (captions : List ℕ) (k : ℕ) {left end : ℕ} (l : left ≡ left_of captions k) (e : end ≡ cell_end captions k left) where
  -- the next cell begins where this one ends
  pub next_left : end ≡ left_of captions (k + 1)
  unfolding left_of
  next_left = rw add-one (simp (e, l))

  pub own_cell : {start : ℕ} → start ≡ start_of captions k → cell_between k start left end ≡ cell_text captions k
  unfolding cell_text left_of
  own_cell s = simp (s, e, l)
