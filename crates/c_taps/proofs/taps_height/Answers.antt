-- `taps_height` is the numbers of the height of the taps. Assumes nothing.
use Rattle.c_taps.proofs.Same.{same_taps}
use Rattle.c_taps.proofs.taps_height.Goals as goal

pub returns : goal.returns
returns c =
    record { answer = c.taps_height-h.result; numbers = c.height_result.ensures; promised = same_taps c.taps_of.ensures c.taps_height-h.ensures }
