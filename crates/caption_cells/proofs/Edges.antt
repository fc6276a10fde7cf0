-- THE RIGHT EDGE OF A CELL, by the samples before its segment and before the next, and by where those of the next start. Assumes nothing.
use mathlib.Core.Path.{◌≡◌, sym}
use mathlib.Core.List.{List}
use Prim.Native.Nat.{ℕ, ◌+◌, ◌≤◌, ◌<◌}
use native.Mathlib.Nat.{max-eq_left, max-eq_right}
use borrow.Author.Tests.{lt-ltb, le-ltb}
use Rattle.caption_cells.specs.Cells.{samples_before, start_of, cell_end}

module _ (captions : List ℕ) (k left : ℕ) {m n : ℕ} (own : m ≡ samples_before k captions 501) (next : n ≡ samples_before (k + 1) captions 501) where
  pub no_cell : n ≤ m → left ≡ cell_end captions k left
  unfolding cell_end
  no_cell h = simp (sym own, sym next, le-ltb m n h)

  pub cell_to_start : {start : ℕ} → m < n → start ≡ start_of captions (k + 1) → left + 220 ≤ start → start ≡ cell_end captions k left
  unfolding cell_end
  cell_to_start h e l = simp (sym own, sym next, lt-ltb m n h, sym e, max-eq_right l)

  pub letter_cell : {start : ℕ} → m < n → start ≡ start_of captions (k + 1) → start ≤ left + 220 → left + 220 ≡ cell_end captions k left
  unfolding cell_end
  letter_cell h e l = simp (sym own, sym next, lt-ltb m n h, sym e, max-eq_left l)
