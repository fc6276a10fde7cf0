-- THE CURVE OF A PANEL: docs/SPECIFICATION.md, "The page". Definitions only.
use Rattle.std.specs.Prelude.{cond, List, ◌++◌, ℕ, eqb, replicate, get_or, Float}
use Rattle.exact.specs.Binary32.{zero₃₂}
use Rattle.marks.specs.declared.Marks.{Marks}
use Rattle.generator.specs.declared.Shape.{Shape}
use Rattle.generator.specs.Generator.{scale_of, rest_of, anchored_of, marks_of}
use Rattle.strip.specs.Strip.{strip_of}
use Rattle.captions.specs.Captions.{no_caption, captions_of}
use Rattle.panel_labels.specs.Labels.{subtitle_text}
use Rattle.panel_frame.specs.Frame.{rest_text}
use Rattle.panel_line.specs.Line.{curve_text}
use Rattle.older_curve.specs.Older.{older_curve_text}
use Rattle.panel_marks.specs.Marks.{marks_text}
use Rattle.panel_captions.specs.Captions.{captions_text}

-- What a strip of 501 samples holds before it is filled.
abbrev pub blank : List Float
blank = replicate 501 zero₃₂

-- What 501 captions hold before they are written.
abbrev pub uncaptioned : List ℕ
uncaptioned = replicate 501 0

-- What is marked on a curve: the captions, where its samples have any, and otherwise the marks.
unfoldable pub marked_text : Marks → List ℕ → List ℕ
marked_text marks captions = cond (eqb (get_or captions 0 0) no_caption) (marks_text marks) (captions_text captions)

-- What is drawn of a shape.
unfoldable pub drawn_text : Shape → List ℕ
drawn_text s = subtitle_text (scale_of s) (anchored_of s) ++ rest_text (rest_of s) ++ marked_text (marks_of s) (captions_of s uncaptioned) ++ curve_text (strip_of s blank)

-- The curve of an older program's shape beneath that of the program's, where it differs.
unfoldable pub older_text : Shape → Shape → List ℕ
older_text old new = older_curve_text (strip_of old blank) (strip_of new blank)
