-- A WALK ON ITS WAY, by the number k of its full steps: the next one, where it ends, and the step that is cut at a phase. Assumes nothing.
use mathlib.Core.Path.{◌≡◌, refl, sym, ap, ◌∙◌}
use mathlib.Core.Bool.{Bool, true, false, cond}
use Prim.Native.Nat.{ℕ, zero, suc, ◌+◌, ◌-◌, ◌≤◌, ◌<◌}
use native.Mathlib.Numerals.{add-one}
use native.Mathlib.Omega.{arith}
use lib.Ieee.{Float, of_bits, of_int, neg, add, mul, div, le}
use Rattle.exact.specs.Binary32.{one₃₂}
use Rattle.math.specs.Formulas.{min_of}
use Rattle.curve.specs.declared.Height.{Height}
use Rattle.curve.specs.Curve.{clamp_unit_of}
use Rattle.settings.specs.declared.LfoShape.{LfoShape}
use Rattle.settings.specs.declared.Lfo.{Lfo}
use Rattle.lfo_shapes.specs.Formula.{shape_at_of}
use Rattle.walk.specs.declared.Walk.{Walk}
use Rattle.walk.specs.Formula.{step_of, place_of, limit_of, moved_of, level_after, cut_after, full_from, full_steps, walked_of}
use Rattle.walk.specs.Reached.{reached_of, full_on}

-- ---- a walk, from its parts and to them
pub started : (s : LfoShape) (limit : Float) {level : Float} → level ≡ shape_at_of s (neg one₃₂) → ◌≡◌ {A = Walk} (record { full = 0; place = neg one₃₂; level = level }) (reached_of s limit 0)
unfolding reached_of level_after place_of step_of of_bits of_int neg add mul div
started s limit e = simp e

pub reached : (s : LfoShape) (limit : Float) (k : ℕ) {place level : Float} → place ≡ place_of k → level ≡ level_after s limit k → ◌≡◌ {A = Walk} (record { full = k; place = place; level = level }) (reached_of s limit k)
unfolding reached_of
reached s limit k a b = simp (a, b)

module _ (s : LfoShape) (limit : Float) (k : ℕ) {w : Walk} (e : w ≡ reached_of s limit k) where
  pub place_reached : w.place ≡ place_of k
  unfolding reached_of
  place_reached = ap (λ (v : Walk). v.place) e

  pub level_reached : w.level ≡ level_after s limit k
  unfolding reached_of
  level_reached = ap (λ (v : Walk). v.level) e

  pub full_reached : w.full ≡ k
  unfolding reached_of
  full_reached = ap (λ (v : Walk). v.full) e

  -- what a walk goes on from
  pub may_go : k ≤ 65534 → (w.full ≤ 65534) × (w ≡ reached_of s limit w.full)
  may_go h = (rw full_reached h, e ∙ ap (reached_of s limit) (sym full_reached))

-- ---- the search: at most n beyond k, so that a walk has at most 65,534 full steps
full_at_most : (phase : Float) (n k : ℕ) → full_from phase n k ≤ n + k
unfolding full_from
full_at_most phase zero k = omega arith
full_at_most phase (suc n) k = go (le phase (place_of (suc k))) (full_at_most phase n (suc k))
  where
    go : (b : Bool) → full_from phase n (suc k) ≤ n + suc k → cond b k (full_from phase n (suc k)) ≤ suc n + k
    go true h = omega arith
    go false h = omega arith

pub full_steps_small : (phase : Float) → full_steps phase ≤ 65534
unfolding full_steps
full_steps_small phase = full_at_most phase 65534 0

pub full_on_small : (phase : Float) (k : ℕ) → k ≤ 65534 → full_on phase k ≤ 65534
unfolding full_on
full_on_small phase k h = let m = full_at_most phase (65534 - k) k in omega arith

-- A step that reaches the phase is the last; the last of all is so too; any other leaves the rest to the next.
pub on_reaches : (phase : Float) (k : ℕ) → le phase (place_of (k + 1)) ≡ true → full_on phase k ≡ k
unfolding full_on full_from
on_reaches phase k h = go (65534 - k)
  where
    go : (m : ℕ) → full_from phase m k ≡ k
    go zero = refl
    go (suc m) = simp (rw add-one at h)

pub on_ends : (phase : Float) (k : ℕ) → 65534 ≤ k → full_on phase k ≡ k
unfolding full_on full_from
on_ends phase k h = let e : 65534 - k ≡ 0 = omega arith in rw e refl

pub on_passes : (phase : Float) (k : ℕ) → k < 65534 → le phase (place_of (k + 1)) ≡ false → full_on phase (k + 1) ≡ full_on phase k
unfolding full_on full_from
on_passes phase k l h = let e : 65534 - k ≡ suc (65534 - (k + 1)) = omega arith in rw e (simp (rw add-one at h, add-one))

-- ---- a full step more, and the cut one
pub level_on : (s : LfoShape) (limit : Float) (k : ℕ) {level previous at r : Float} → level ≡ level_after s limit k → previous ≡ place_of k → at ≡ place_of (k + 1)
    → r ≡ moved_of s limit previous at level → r ≡ level_after s limit (k + 1)
unfolding level_after
level_on s limit k a b d e = simp (e, a, b, d, add-one)

pub cut_at : (s : LfoShape) (limit phase : Float) (k : ℕ) {level previous place at end h : Float} → level ≡ level_after s limit k → previous ≡ place_of k → place ≡ place_of (k + 1)
    → at ≡ min_of place phase → end ≡ moved_of s limit previous at level → h ≡ clamp_unit_of end → h ≡ clamp_unit_of (cut_after s limit phase k)
unfolding cut_after
cut_at s limit phase k a b p q e u = simp (u, e, q, p, a, b, add-one)

-- ---- a whole walk: on from the start, and the cut step
module _ (l : Lfo) (phase limit : Float) {w r : Walk} (a : w ≡ reached_of l.shape limit 0) (e : r ≡ reached_of l.shape limit (full_on phase w.full)) where
  pub from_start : r ≡ reached_of l.shape limit (full_steps phase)
  unfolding full_on full_steps
  from_start = e ∙ simp (full_reached _ _ _ a)

  pub finished : {h : Float} → limit ≡ limit_of l.slew → h ≡ clamp_unit_of (cut_after l.shape limit phase r.full) → ◌≡◌ {A = Height} (record { height = h; steps = r.full + 1 }) (walked_of l phase)
  unfolding walked_of
  finished d u = simp (u, d, full_reached _ _ _ from_start, add-one)
