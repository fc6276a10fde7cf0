-- `put_drawn` writes `drawn_text`: what the generator says of itself, then the strip. Assumes nothing.
use Rattle.panel_curves.proofs.Blank.{blank_filled}
use Rattle.panel_curves.specs.Curves.{drawn_text}
use Rattle.generator.specs.Generator.{generator_of}
use Rattle.text.proofs.Writing.{◌⨾◌}
use Rattle.panel_curves.proofs.put_drawn.Goals as goal

pub returns : goal.returns
unfolding drawn_text generator_of
returns c =
    simp blank_filled
    (rw (
      c.scale.ensures,
      c.anchored.ensures,
      c.rest.ensures,
      c.marks.ensures,
      c.captions.ensures.1,
      c.fill_once.ensures.1,
      c.of_shape-g.ensures,
    ) at
    (c.put_subtitle.ensures ⨾ c.put_rest.ensures ⨾ c.put_marked.ensures ⨾ c.put_curve.ensures))
