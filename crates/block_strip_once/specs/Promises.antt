-- WHAT IS PROMISED OF A STRIP WITH ONE WALK ALONG IT: docs/SPECIFICATION.md, "Strips". Definitions only.
use Rattle.refusals.specs.declared.Refusal.{Refusal}
use Rattle.std.specs.Prelude.{◌≡◌, Bool, not, List, ℕ, suc, ◌+◌, ◌-◌, ◌*◌, ◌≤◌, T, length, Float, Some, Result, Ok}
use Rattle.exact.specs.Binary32.{one₃₂}
use Rattle.settings.specs.declared.SampledTurns.TheVariants.{Six, Eight}
use Rattle.settings.specs.Settings.{sampled_turns}
use Rattle.walk.specs.Steps.{Steps}
use Rattle.generator.specs.declared.Shape.{Shape}
use Rattle.generator.specs.declared.Scale.TheVariants.{Turns}
use Rattle.generator.specs.Generator.{scale_of}
use Rattle.shape_heights.specs.Heights.{walk_phase}
use Rattle.strip.specs.Strip.{sample_position, length_fits}
use Rattle.refusals.specs.Refusals.{accepted, check_block, check_code, check_length, answer_refusal}
use Rattle.codes.specs.declared.Code.{Code}
use Rattle.codes.specs.Codes.{code_of}
use Rattle.code_bytes.specs.Bytes.{byte_at, block_length}
use Rattle.code_shapes.specs.Shapes.{shape_of}
use Rattle.code_heights.specs.Promises.{slewed_code}
use Rattle.block.specs.Refusals.{chosen_of}
use Rattle.block_strip.specs.Strips.{strip_answer}
use Rattle.block_strip.specs.Promises.{StripAnswered}
use Rattle.block_strip_once.specs.Strips.{strip_once_answer}

-- THE STEPS of one walk along n samples of a shape. Where it is walked: the full steps that end short of the last sample's phase, to which a walk of its own
-- takes one more, and one for each sample: 191 + n of one turn, 671 + n of six, 863 + n of eight. Elsewhere none.
pub record WalkedOnce (s : Shape) (walks : Bool) (turns n : ℕ) (r : Result ℕ Refusal) : Type 0 where
  pub steps : ℕ
  pub answer : r ≡ Ok steps
  pub full : ℕ
  pub walked : T walks → steps ≡ full + n
  pub last : T walks → Steps turns (walk_phase s (sample_position n (n - 1))) (suc full)
  pub one : T walks → scale_of s ≡ Turns one₃₂ → steps ≡ 191 + n
  pub six : T walks → scale_of s ≡ Turns (sampled_turns Six) → steps ≡ 671 + n
  pub eight : T walks → scale_of s ≡ Turns (sampled_turns Eight) → steps ≡ 863 + n
  pub none : T (not walks) → steps ≡ 0
  pub most : steps ≤ 96 + 96 * turns + n

-- The answer is that of the formula. The strip holds what the plain engine leaves, beside whatever that one answers, and has all that is promised of it; the refusals
-- are the plain engine's. A block of 242 bytes, a known code and a length from 2 to 4,096 are given the steps above.
pub record StripOnceAnswered (block : List ℕ) (code : ℕ) (before after : List Float) (r : Result ℕ Refusal) : Type 0 where
  pub equation : r ≡ strip_once_answer (chosen_of block code) (length before)
  pub plain : StripAnswered block code before after (strip_answer (chosen_of block code) (length before))
  pub refusal : answer_refusal r ≡ check_block (length block) (check_code code (check_length (length before) accepted))
  pub given : (c : Code) → code_of code ≡ Some c → length block ≡ block_length → T (length_fits (length before)) → WalkedOnce (shape_of c (byte_at block)) (slewed_code c (byte_at block)) 6 (length before) r
