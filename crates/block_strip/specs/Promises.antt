-- WHAT IS PROMISED OF A STRIP: docs/SPECIFICATION.md, "The three demands". Definitions only.
use Rattle.refusals.specs.declared.Refusal.{Refusal}
use Rattle.std.specs.Prelude.{◌≡◌, List, ℕ, ◌<◌, T, length, get_or, Float, Some, Result}
use Rattle.std.specs.Float.{nan}
use Rattle.curve.specs.declared.Height.{Height}
use Rattle.strip.specs.Strip.{sample_position, length_fits}
use Rattle.refusals.specs.Refusals.{accepted, check_block, check_code, check_length, answer_refusal}
use Rattle.codes.specs.declared.Code.{Code}
use Rattle.codes.specs.Codes.{code_of}
use Rattle.code_bytes.specs.Bytes.{byte_at, block_length}
use Rattle.block.specs.Refusals.{chosen_of}
use Rattle.code_heights.specs.Promises.{CodePromised}
use Rattle.block_strip.specs.Strips.{strip_answer, strip_after}

-- Sample i of a strip: it is a height of which something is promised at its own position.
pub record Sampled (Promised : Float → Height → Type 0) (strip : List Float) (i : ℕ) : Type 0 where
  pub height : Height
  pub holds : get_or strip i nan ≡ height.height
  pub promised : Promised (sample_position (length strip) i) height

-- The answer and what the strip holds afterwards are those of the formulas, refusals included; a strip keeps its length. It is refused by the
-- first check that fails, and by nothing else. A block of 242 bytes, a known code and a length from 2 to 4,096 are given every sample, with all that is promised of a height.
pub record StripAnswered (block : List ℕ) (code : ℕ) (before after : List Float) (r : Result ℕ Refusal) : Type 0 where
  pub equation : r ≡ strip_answer (chosen_of block code) (length before)
  pub strip : after ≡ strip_after (chosen_of block code) before
  pub size : length after ≡ length before
  pub refusal : answer_refusal r ≡ check_block (length block) (check_code code (check_length (length before) accepted))
  pub given : (c : Code) → code_of code ≡ Some c → length block ≡ block_length → T (length_fits (length before)) → (i : ℕ) → i < length before → Sampled (CodePromised c (byte_at block)) after i
