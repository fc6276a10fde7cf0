-- TWO BLOCKS WITH THE SAME ANSWERS: docs/SPECIFICATION.md, "The block and its codes". A record only.
use Rattle.refusals.specs.declared.Refusal.{Refusal}
use Rattle.generator.specs.declared.Generator.{Generator}
use Rattle.std.specs.Prelude.{◌≡◌, List, ℕ, Float, Result}
use Rattle.block.specs.Refusals.{height_answer}
use Rattle.block_strip.specs.Strips.{strip_answer, strip_after}
use Rattle.block_strip_once.specs.Strips.{strip_once_answer}
use Rattle.block_settings.specs.Answers.{settings_answer}
use Rattle.block_marks.specs.Answers.{marks_answer}
use Rattle.block_generator.specs.Answers.{rest_answer, scale_answer, anchored_answer}
use Rattle.block_captions.specs.Answers.{captions_answer, captions_after}

-- What two blocks choose gives the same answers throughout.
pub record SameAnswers (a b : Result Generator Refusal) : Type 0 where
  pub settings : settings_answer a ≡ settings_answer b
  pub height : (t : Float) → height_answer a t ≡ height_answer b t
  pub steps : (n : ℕ) → strip_answer a n ≡ strip_answer b n
  pub steps_once : (n : ℕ) → strip_once_answer a n ≡ strip_once_answer b n
  pub strip : (before : List Float) → strip_after a before ≡ strip_after b before
  pub captioned : (n : ℕ) → captions_answer a n ≡ captions_answer b n
  pub captions : (before : List ℕ) → captions_after a before ≡ captions_after b before
  pub marks : marks_answer a ≡ marks_answer b
  pub rest : rest_answer a ≡ rest_answer b
  pub scale : scale_answer a ≡ scale_answer b
  pub anchored : anchored_answer a ≡ anchored_answer b
