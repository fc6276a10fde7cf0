-- `fill_lfo_once` fills the strip with slew and without. Assumes nothing.
use mathlib.Core.Path.{◌∙◌}
use Rattle.generator.specs.declared.Shape.TheVariants.{Lfo as AnLfo}
use Rattle.strip.proofs.Stepless.{without_steps}
use Rattle.lfo_strip_once.proofs.Laws.{unwalked}
use Rattle.lfo_strip_once.proofs.fill_lfo_once.Goals as goal

pub returns-then-l : goal.returns-then-l
returns-then-l c =
    let filled = c.fill_curve.ensures in
    let test = c.if-l.true in
    (filled.0 ∙ unwalked (AnLfo _) (λ t. without_steps _ t test) _, filled.1)
