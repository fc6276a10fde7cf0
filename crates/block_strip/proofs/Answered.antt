-- WHAT IS PROMISED OF A STRIP FOLLOWS FROM ITS EQUATIONS: it is refused by the first check that fails, it keeps its length, and each sample is
-- the height at its own position, with all that is promised of one. Assumes nothing.
use mathlib.Core.Path.{◌≡◌, refl, sym, ap, ◌∙◌}
use mathlib.Core.Bool.{Bool, true, false, cond}
use mathlib.Core.List.{List}
use Prim.Native.Nat.{ℕ, ◌<◌}
use lib.Dec.{T}
use lib.ListN.{length, get_or}
use lib.Ieee.{Float, nan, binary32, fits}
use Rattle.std.specs.Prelude.{Some, Result, Ok, Err}
use Rattle.refusals.specs.declared.Refusal.{Refusal}
use Rattle.generator.specs.declared.Generator.{Generator}
use Rattle.generator.specs.Generator.{generator_of}
use Rattle.curve.specs.declared.Height.{Height}
use Rattle.generator.specs.declared.Shape.{Shape}
use Rattle.shape_heights.specs.Heights.{height_of}
use Rattle.strip.specs.Strip.{sample_position, length_fits, strip_of}
use Rattle.strip.proofs.Samples.{sample_fits, strip_length, strip_at}
use Rattle.refusals.specs.declared.Refusal.TheVariants.{Strip}
use Rattle.refusals.specs.Refusals.{accepted, check_length, answer_refusal}
use Rattle.codes.specs.declared.Code.{Code}
use Rattle.codes.specs.Codes.{code_of}
use Rattle.code_bytes.specs.Bytes.{byte_at, block_length}
use Rattle.code_shapes.specs.Shapes.{shape_of}
use Rattle.block.specs.Refusals.{chosen_of}
use Rattle.block.proofs.KnownCode.{known_chosen}
use Rattle.block.proofs.Refused.{refusal_or, chosen_checked}
use Rattle.code_heights.proofs.EveryCode.{block_height}
use Rattle.block_strip.specs.Strips.{strip_answer, strip_after}
use Rattle.block_strip.specs.Promises.{Sampled, StripAnswered}

-- ---- a strip is refused where the choice is, then by its length
pub strip_refused : (a : Result Generator Refusal) (n : ℕ) → answer_refusal (strip_answer a n) ≡ refusal_or (check_length n accepted) a
unfolding strip_answer refusal_or check_length
strip_refused (Ok g) n = go (length_fits n) _
  where
    go : (b : Bool) (steps : ℕ) → answer_refusal (cond b (Ok steps) (Err Strip)) ≡ cond b accepted 3
    go true steps = refl
    go false steps = refl
strip_refused (Err r) n = refl

-- ---- a block of 242 bytes and a known code fill it with the heights of the code's shape
filled : (block : List ℕ) (code : ℕ) (xs : List Float) (c : Code) → code_of code ≡ Some c → length block ≡ block_length
    → strip_after (chosen_of block code) xs ≡ strip_of (shape_of c (byte_at block)) xs
unfolding strip_after generator_of
filled block code xs c k l = simp (known_chosen block code c k l)

-- ---- it keeps its length
pub after_length : (a : Result Generator Refusal) (xs : List Float) → length (strip_after a xs) ≡ length xs
unfolding strip_after
after_length (Ok g) xs = strip_length g.shape xs
after_length (Err r) xs = refl

-- ---- each sample of a shape's strip has what its heights have
pub own_samples : (s : Shape) (Promised : Float → Height → Type 0) → ((t : Float) → T (fits binary32 t) → Promised t (height_of s t))
    → (before after : List Float) → after ≡ strip_of s before → T (length_fits (length before)) → (i : ℕ) → i < length before → Sampled Promised after i
own_samples s Promised p before after f t i h =
    record {
      height = height_of s (sample_position (length after) i);
      holds = ap (λ (xs : List Float). get_or xs i nan) f ∙ strip_at s before t i h ∙ ap (λ (n : ℕ). (height_of s (sample_position n i)).height) (sym (ap length f ∙ strip_length s before));
      promised = p (sample_position (length after) i) (sample_fits (length after) i);
    }

-- ---- THE PROMISE
pub strip_answered : (block : List ℕ) (code : ℕ) (before after : List Float) (r : Result ℕ Refusal) → ((n : ℕ) → byte_at block n < 256)
    → r ≡ strip_answer (chosen_of block code) (length before) → after ≡ strip_after (chosen_of block code) before → StripAnswered block code before after r
strip_answered block code before after r b e a =
    record {
      equation = e;
      strip = a;
      size = ap length a ∙ after_length (chosen_of block code) before;
      refusal = ap answer_refusal e ∙ strip_refused (chosen_of block code) (length before) ∙ chosen_checked (check_length (length before) accepted) block code;
      given = λ c k l t i h. own_samples (shape_of c (byte_at block)) _ (block_height c (byte_at block) b) before after (a ∙ filled block code before c k l) t i h;
    }
