-- `rounded` is `round`. The loop's invariant: the places kept and the digits left are the number. Assumes nothing.
use Rattle.level_reading.proofs.Places.{KeptPlaces}
use Rattle.level_reading.proofs.rounded.Given as goal

abbrev pub invariant-loop-left : goal.invariant-loop-left
invariant-loop-left l = KeptPlaces l.initial.digits l.digits l.kept l.left

abbrev pub decreases-loop-left : goal.decreases-loop-left
decreases-loop-left l = l.left
