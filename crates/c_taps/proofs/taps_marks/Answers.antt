-- `taps_marks` writes the marks of the taps. Assumes nothing.
use mathlib.Core.Path.{◌≡◌}
use Rattle.marks.specs.declared.Marks.{Marks}
use Rattle.marks.specs.Marks.{stored}
use Rattle.taps.specs.declared.Taps.{Taps}
use Rattle.taps.specs.Formula.{used_of}
use Rattle.tap_marks.specs.Marks.{tap_marks}
use Rattle.std.specs.Prelude.{Ok}
use Rattle.c_taps.specs.Results.{taps_answer}
use Rattle.c_taps.proofs.Same.{same_marks}
use Rattle.c_taps.proofs.taps_marks.Goals as goal

accepted : {marks : Marks} {taps known : Taps} → marks ≡ stored (tap_marks taps (used_of taps)) → taps ≡ known → Ok marks ≡ taps_answer known
unfolding taps_answer
accepted e h = simp (e, h)

pub returns : goal.returns
returns c = same_marks (accepted c.taps_marks-marks.ensures c.taps_of.ensures) c.copy_marks.ensures
