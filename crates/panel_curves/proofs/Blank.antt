-- A STRIP OF 501 SAMPLES IS FILLED WHOLE: its length fits. Assumes nothing.
use mathlib.Core.Path.{◌≡◌, refl}
use lib.ListN.{length}
use Rattle.generator.specs.declared.Shape.{Shape}
use Rattle.strip.specs.Strip.{filled_of, strip_of}
use Rattle.panel_curves.specs.Curves.{blank}

pub blank_filled : (s : Shape) → strip_of s blank ≡ filled_of s (length blank) (length blank) blank
unfolding strip_of
blank_filled s = refl
