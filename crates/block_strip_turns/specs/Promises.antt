-- WHAT IS PROMISED OF A STRIP AT A NUMBER OF TURNS, by either engine: docs/SPECIFICATION.md, "Turns". Definitions only.
use Rattle.refusals.specs.declared.Refusal.{Refusal}
use Rattle.std.specs.Prelude.{◌≡◌, List, ℕ, ◌<◌, T, length, Float, Some, Result}
use Rattle.settings.specs.declared.SampledTurns.{SampledTurns}
use Rattle.settings.specs.Settings.{turns_number}
use Rattle.turns.specs.Turns.{turns_read, turned_of}
use Rattle.strip.specs.Strip.{length_fits}
use Rattle.refusals.specs.Refusals.{accepted, check_block, check_code, check_turns, check_length, answer_refusal}
use Rattle.codes.specs.declared.Code.{Code}
use Rattle.codes.specs.Codes.{code_of}
use Rattle.code_bytes.specs.Bytes.{byte_at, block_length}
use Rattle.code_shapes.specs.Shapes.{shape_of}
use Rattle.code_heights.specs.Promises.{slewed_code, TurnsPromised}
use Rattle.block_turns.specs.Choice.{chosen_turns}
use Rattle.block_strip.specs.Strips.{strip_answer, strip_after}
use Rattle.block_strip.specs.Promises.{Sampled}
use Rattle.block_strip_once.specs.Strips.{strip_once_answer}
use Rattle.block_strip_once.specs.Promises.{WalkedOnce}

-- The answer and what the strip holds afterwards are those of the formulas, refusals included; a strip keeps its length. It is refused by the first check that fails, and by
-- nothing else. A block of 242 bytes, a known code, 6 or 8 turns and a length from 2 to 4,096 are given every sample, with all that is promised of a height at those turns.
pub record StripTurnsAnswered (block : List ℕ) (code turns : ℕ) (before after : List Float) (r : Result ℕ Refusal) : Type 0 where
  pub equation : r ≡ strip_answer (chosen_turns block code turns) (length before)
  pub strip : after ≡ strip_after (chosen_turns block code turns) before
  pub size : length after ≡ length before
  pub refusal : answer_refusal r ≡ check_block (length block) (check_code code (check_turns turns (check_length (length before) accepted)))
  pub given : (c : Code) (n : SampledTurns) → code_of code ≡ Some c → turns_read turns ≡ Some n → length block ≡ block_length → T (length_fits (length before)) → (i : ℕ) → i < length before
      → Sampled (TurnsPromised n c (byte_at block)) after i

-- With one walk along it: the strip holds what the plain engine leaves, beside whatever that one answers, and has all that is promised of it; the refusals are the plain
-- engine's; the steps are those of one walk.
pub record StripOnceTurnsAnswered (block : List ℕ) (code turns : ℕ) (before after : List Float) (r : Result ℕ Refusal) : Type 0 where
  pub equation : r ≡ strip_once_answer (chosen_turns block code turns) (length before)
  pub plain : StripTurnsAnswered block code turns before after (strip_answer (chosen_turns block code turns) (length before))
  pub refusal : answer_refusal r ≡ check_block (length block) (check_code code (check_turns turns (check_length (length before) accepted)))
  pub given : (c : Code) (n : SampledTurns) → code_of code ≡ Some c → turns_read turns ≡ Some n → length block ≡ block_length → T (length_fits (length before))
      → WalkedOnce (turned_of n (shape_of c (byte_at block))) (slewed_code c (byte_at block)) (turns_number n) (length before) r
