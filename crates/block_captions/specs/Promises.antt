-- WHAT IS PROMISED OF CAPTIONS: docs/SPECIFICATION.md, "Captions" and "What is offered to callers". Definitions only.
use Rattle.std.specs.Prelude.{◌≡◌, List, ℕ, ◌+◌, ◌<◌, T, length, get_or, Some, Result}
use Rattle.strip.specs.Strip.{length_fits}
use Rattle.captions.specs.Captions.{no_caption, caption_at}
use Rattle.captions.specs.Changes.{former_at, changed_caption}
use Rattle.refusals.specs.declared.Refusal.{Refusal}
use Rattle.refusals.specs.Refusals.{accepted, check_block, check_code, check_length, answer_refusal}
use Rattle.codes.specs.declared.Code.{Code}
use Rattle.codes.specs.declared.Code.TheVariants.{Envelope, Lfo, LfoUnipolar, Fade, LowPass, HighPass, Oscillator, Noise}
use Rattle.codes.specs.Codes.{code_of}
use Rattle.code_bytes.specs.Bytes.{block_length, byte_at, decay_place, envelope_first}
use Rattle.code_shapes.specs.Shapes.{shape_of}
use Rattle.block.specs.Refusals.{chosen_of}
use Rattle.block_captions.specs.Answers.{captions_answer, captions_after}

-- THE LIST OF CHANGED CAPTIONS: what sample i of a code has become, of what it was. An envelope's goes by its attack and decay bytes; no other code's has changed.
unfoldable pub changed_of : Code → (ℕ → ℕ) → ℕ → ℕ → ℕ
changed_of (Envelope id) b i former = changed_caption (b (envelope_first id)) (b (envelope_first id + decay_place)) i former
changed_of (Lfo id) b i former = former
changed_of (LfoUnipolar id) b i former = former
changed_of (Fade id) b i former = former
changed_of LowPass b i former = former
changed_of HighPass b i former = former
changed_of (Oscillator id) b i former = former
changed_of Noise b i former = former

-- Sample i of captions: that of the code's shape; and what it was when C2 won over C1, but for the changes of the list.
pub record SampleCaptioned (c : Code) (block captions : List ℕ) (i : ℕ) : Type 0 where
  pub caption : get_or captions i no_caption ≡ caption_at (shape_of c (byte_at block)) (length captions) i
  pub changed : get_or captions i no_caption ≡ changed_of c (byte_at block) i (former_at (shape_of c (byte_at block)) (length captions) i)

-- The answer is that of the formula, refusals included, and so is what the slice holds afterwards; it keeps its length. Captions are refused by the first check that fails,
-- of which that of their length is the last, and by nothing else. A block of 242 bytes, a known code and a length from 2 to 4,096 are given every sample.
pub record CaptionsAnswered (block : List ℕ) (code : ℕ) (before after : List ℕ) (r : Result (Unit {0}) Refusal) : Type 0 where
  pub equation : r ≡ captions_answer (chosen_of block code) (length before)
  pub captions : after ≡ captions_after (chosen_of block code) before
  pub size : length after ≡ length before
  pub refusal : answer_refusal r ≡ check_block (length block) (check_code code (check_length (length before) accepted))
  pub given : (c : Code) → code_of code ≡ Some c → length block ≡ block_length → T (length_fits (length before)) → (i : ℕ) → i < length before → SampleCaptioned c block after i
