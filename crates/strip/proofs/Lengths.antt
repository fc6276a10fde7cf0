-- WHICH LENGTHS FIT, as facts of numbers. Assumes nothing.
use mathlib.Core.Path.{◌≡◌, refl, sym, subst, ◌∙◌}
use mathlib.Core.Bool.{Bool, true, false, not, ◌&&◌}
use Prim.Native.Nat.{ℕ, ◌≤◌, ◌<◌}
use borrow.Author.Tests.{le-leb}
use lib.Dec.{T, leb, leb→le}
use lib.Ieee.Fits.{and_l, and_r}
use Rattle.strip.specs.Strip.{length_fits}

pub fits_between : (n : ℕ) → 2 ≤ n → n ≤ 4096 → length_fits n ≡ true
fits_between n h k = simp (le-leb 2 n h, le-leb n 4096 k)

pub between_fits : (n : ℕ) → T (length_fits n) → (2 ≤ n) × (n ≤ 4096)
between_fits n h = (leb→le 2 n (and_l (leb 2 n) (leb n 4096) h), leb→le n 4096 (and_r (leb 2 n) (leb n 4096) h))

-- where `fits` says so
pub between : (n : ℕ) {fit : Bool} → fit ≡ length_fits n → fit ≡ true → (2 ≤ n) × (n ≤ 4096)
between n {fit} e t = between_fits n (subst T (sym t ∙ e) tt)
