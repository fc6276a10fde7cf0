-- `cut_height` is `cut_after`, clamped. Assumes nothing.
use Rattle.walk.proofs.Onward.{place_reached, level_reached, cut_at}
use Rattle.walk.proofs.cut_height.Goals as goal

pub returns : goal.returns
returns c =
    let e = c.requires.1 in
    cut_at _ _ _ _ (level_reached _ _ _ e) (place_reached _ _ _ e) c.place.ensures c.min-at.ensures c.moved.ensures c.clamp_unit.ensures
