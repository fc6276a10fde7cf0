use mathlib.Core.Path.{refl, sym, ap, ◌∙◌}
use lib.Ieee.{le}
use Rattle.walk.specs.Reached.{reached_of}
use Rattle.walk.proofs.Onward.{place_reached, level_reached, reached, on_reaches, on_ends, on_passes, level_on}
use Rattle.walk.proofs.walk_on.Goals as goal

pub loop-full-init : goal.loop-full-init
loop-full-init c = (c.requires.1, refl)

pub loop-full-preserved : goal.loop-full-preserved
loop-full-preserved c =
    let i = c.loop-full.invariant in
    let p = c.place-at.ensures in (
      reached _ _ _ p (level_on _ _ _ (level_reached _ _ _ i.0) (place_reached _ _ _ i.0) p c.moved.ensures),
      on_passes _ _ c.loop-full-test.true (ap (le _) (sym p) ∙ c.if-phase-at.false) ∙ i.1,
    )

pub returns-after-loop-full : goal.returns-after-loop-full
returns-after-loop-full c = let i = c.loop-full.invariant in i.0 ∙ ap (reached_of _ _) (sym (on_ends _ _ c.loop-full-test.false) ∙ i.1)

pub returns-then-phase-at : goal.returns-then-phase-at
returns-then-phase-at c =
    let i = c.loop-full.invariant in
    i.0 ∙ ap (reached_of _ _) (sym (on_reaches _ _ (ap (le _) (sym c.place-at.ensures) ∙ c.if-phase-at.true)) ∙ i.1)
