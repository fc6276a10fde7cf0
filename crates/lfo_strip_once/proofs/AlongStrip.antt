-- THE LOOP OVER THE SAMPLES: behind sample i lie the full steps of the one before it, and the walk goes on from there to its own. Assumes nothing.
use mathlib.Core.Path.{◌≡◌, refl, ap, ◌∙◌}
use mathlib.Core.Bool.{false}
use Prim.Native.Nat.{ℕ, zero, suc, ◌+◌, ◌-◌, ◌≤◌, ◌<◌}
use native.Mathlib.Numerals.{add-one}
use native.Mathlib.Omega.{arith}
use lib.Dec.{T}
use lib.Ieee.{Float, le}
use Rattle.exact.specs.Binary32.{◌⊗◌, zero₃₂}
use Rattle.curve.specs.Curve.{clamp_unit_of, position_of}
use Rattle.settings.specs.declared.Lfo.{Lfo}
use Rattle.walk.specs.declared.Walk.{Walk}
use Rattle.walk.specs.Formula.{limit_of, cut_after, full_steps, walked_of}
use Rattle.walk.specs.Reached.{reached_of, full_on}
use Rattle.walk.proofs.Onward.{full_reached, may_go, full_steps_small}
use Rattle.lfo.specs.Formula.{lfo_height_of}
use Rattle.generator.specs.declared.Shape.TheVariants.{Lfo as AnLfo}
use Rattle.shape_heights.specs.Heights.{height_of}
use Rattle.strip.specs.Strip.{part_of, sample_position, sample_of}
use Rattle.strip.proofs.SamplePositions.{sample_position_lem}
use Rattle.lfo_strip_once.specs.Once.{once_from, steps_once, forward}
use Rattle.lfo_strip_once.proofs.Phases.{phase_rises}
use Rattle.lfo_strip_once.proofs.LaterPhase.{steps_on}

module _ (l : Lfo) (n : ℕ) where
  abbrev phase_at : ℕ → Float
  phase_at i = sample_position n i ⊗ l.turns

  -- The full steps behind sample i.
  unfoldable pub behind : ℕ → ℕ
  behind zero = 0
  behind (suc i) = full_steps (phase_at i)

  behind_small : (i : ℕ) → behind i ≤ 65534
  unfolding behind
  behind_small zero = omega arith
  behind_small (suc i) = full_steps_small (phase_at i)

  -- From there the walk goes on to the full steps of its own phase.
  onward : T (forward l.turns) → 2 ≤ n → n ≤ 4096 → (i : ℕ) → i < n → full_on (phase_at i) (behind i) ≡ full_steps (phase_at i)
  unfolding behind full_on full_steps
  onward f a b zero h = refl
  onward f a b (suc i) h = steps_on (phase_at i) (phase_at (suc i)) (phase_rises l.turns f n i (suc i) a b (omega arith) h)

  -- A walk that stands there.
  abbrev pub Standing : Walk → ℕ → Type 0
  Standing w i = w ≡ reached_of l.shape (limit_of l.slew) (behind i)

  pub ready : (i : ℕ) {limit : Float} {w : Walk} → limit ≡ limit_of l.slew → Standing w i → (w.full ≤ 65534) × (w ≡ reached_of l.shape limit w.full)
  ready i d j = rw d (may_go _ _ _ j (behind_small i))

  -- ---- a sample: the walk after it, and its height
  module _ (i : ℕ) {last : ℕ} {p : Float} (e : last ≡ n - 1) (u : p ≡ part_of i last) where
    phase_here : p ⊗ l.turns ≡ phase_at i
    unfolding sample_position
    phase_here = simp (u, e)

    pub walk_next : T (forward l.turns) → (2 ≤ n) × (n ≤ 4096) → i < n → {limit : Float} {w r : Walk} → limit ≡ limit_of l.slew → Standing w i → r ≡ reached_of l.shape limit (full_on (p ⊗ l.turns) w.full) → Standing r (i + 1)
    unfolding behind
    walk_next f b h d j k = k ∙ simp (d, phase_here, full_reached _ _ _ j, onward f b.0 b.1 i h, add-one)

    pub height_here : {limit y : Float} {r : Walk} → le l.slew zero₃₂ ≡ false → position_of p ≡ p → limit ≡ limit_of l.slew → Standing r (i + 1) → y ≡ clamp_unit_of (cut_after l.shape limit (p ⊗ l.turns) r.full) → y ≡ (height_of (AnLfo l) p).height
    unfolding height_of lfo_height_of walked_of behind
    height_here s o d j c = simp (c, d, phase_here, full_reached _ _ _ j, add-one, s, o)

  -- ---- after the last sample
  pub all_steps : {w : Walk} (i : ℕ) → le l.slew zero₃₂ ≡ false → (2 ≤ n) × (n ≤ 4096) → i ≡ n → Standing w i → w.full + n ≡ steps_once (AnLfo l) n
  unfolding steps_once once_from sample_of sample_position height_of lfo_height_of walked_of
  all_steps i s b z j = ap (λ (m : ℕ). m + n) (full_reached _ _ _ j ∙ last_behind) ∙ simp s
    where
      from_one : (n : ℕ) → 2 ≤ n → n ≡ suc (n - 1)
      from_one n h = omega arith

      last_behind : behind i ≡ full_steps (position_of (part_of (n - 1) (n - 1)) ⊗ l.turns)
      last_behind = ap behind (z ∙ from_one n b.0) ∙ unfold behind in simp (sample_position_lem n (n - 1) (n - 1) b.0 b.1 (omega arith) refl refl)
