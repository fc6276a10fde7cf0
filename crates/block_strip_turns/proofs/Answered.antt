-- WHAT IS PROMISED OF A STRIP AT A NUMBER OF TURNS FOLLOWS FROM ITS EQUATIONS, by either engine; and what is chosen goes forward. Assumes nothing.
use mathlib.Core.Path.{◌≡◌, refl, sym, ap, subst, ◌∙◌}
use mathlib.Core.Bool.{Bool, true}
use mathlib.Core.List.{List}
use Prim.Native.Nat.{ℕ, ◌<◌}
use lib.Dec.{T}
use lib.ListN.{length}
use lib.Ieee.{Float}
use lib.Ieee.Bits.{is_true}
use Rattle.std.specs.Prelude.{Option, None, Some, Result, Ok, Err}
use Rattle.refusals.specs.declared.Refusal.{Refusal}
use Rattle.settings.specs.declared.SampledTurns.{SampledTurns}
use Rattle.settings.specs.Settings.{turns_number}
use Rattle.generator.specs.declared.Generator.{Generator}
use Rattle.generator.specs.declared.Shape.{Shape}
use Rattle.generator.specs.Generator.{generator_of}
use Rattle.shape_heights.specs.Heights.{height_of}
use Rattle.turns.specs.Turns.{turns_read, turned_of}
use Rattle.strip.specs.Strip.{length_fits, strip_of}
use Rattle.lfo_strip_once.specs.Once.{steps_once}
use Rattle.shape_strip.specs.Forward.{goes_forward}
use Rattle.shape_strip.proofs.Turned.{turned_goes}
use Rattle.refusals.specs.Refusals.{accepted, check_length, answer_refusal}
use Rattle.codes.specs.declared.Code.{Code}
use Rattle.codes.specs.Codes.{code_of}
use Rattle.code_bytes.specs.Bytes.{byte_at, block_length}
use Rattle.code_shapes.specs.Shapes.{shape_of}
use Rattle.code_heights.specs.Promises.{slewed_code, bound_at, Promised}
use Rattle.code_heights.proofs.EveryCode.{code_slewed}
use Rattle.code_heights.proofs.EveryTurns.{turns_height}
use Rattle.block.specs.Refusals.{chosen_of}
use Rattle.block_turns.specs.Choice.{chosen_at, chosen_turns}
use Rattle.block_turns.proofs.Choice.{turns_checked, known_turned}
use Rattle.block_strip.specs.Strips.{strip_answer, strip_after}
use Rattle.block_strip.proofs.Answered.{strip_refused, after_length, own_samples}
use Rattle.block_strip_once.specs.Strips.{strip_once_answer}
use Rattle.block_strip_once.specs.Promises.{WalkedOnce}
use Rattle.block_strip_once.proofs.Answered.{forward_chosen, refused_alike, walked_once}
use Rattle.block_strip_turns.specs.Promises.{StripTurnsAnswered, StripOnceTurnsAnswered}

-- ---- what is chosen goes forward
pub turns_forward : (block : List ℕ) (code turns : ℕ) (g : Generator) → chosen_turns block code turns ≡ Ok g → goes_forward g.shape ≡ true
unfolding chosen_turns chosen_at generator_of forward_chosen
turns_forward block code turns g e = sym (ap forward_chosen e) ∙ go (chosen_of block code) (turns_read turns)
  where
    go : (a : Result Generator Refusal) (x : Option SampledTurns) → forward_chosen (chosen_at a x) ≡ true
    go (Ok g) (Some n) = turned_goes n g.shape
    go (Ok g) None = refl
    go (Err r) x = refl

module _ (block : List ℕ) (code turns : ℕ) (bytes : (k : ℕ) → byte_at block k < 256) (before after : List Float) where
  -- ---- a block of 242 bytes, a known code and 6 or 8 turns fill it with the heights of the code's shape at those
  module _ (c : Code) (n : SampledTurns) (k : code_of code ≡ Some c) (u : turns_read turns ≡ Some n) (l : length block ≡ block_length) where
    shape : Shape
    shape = turned_of n (shape_of c (byte_at block))

    filled : strip_after (chosen_turns block code turns) before ≡ strip_of shape before
    unfolding shape strip_after generator_of
    filled = simp (known_turned block code turns c n k u l)

    steps : T (length_fits (length before)) → strip_once_answer (chosen_turns block code turns) (length before) ≡ Ok (steps_once shape (length before))
    unfolding shape strip_once_answer generator_of
    steps t = simp (known_turned block code turns c n k u l, is_true (length_fits (length before)) t)

    own : {r : Result ℕ Refusal} → r ≡ Ok (steps_once shape (length before)) → T (length_fits (length before)) → WalkedOnce shape (slewed_code c (byte_at block)) (turns_number n) (length before) r
    unfolding shape
    own {r} f t =
        let w = code_slewed n c (byte_at block) bytes in
        subst (λ (d : Bool). WalkedOnce shape d (turns_number n) (length before) r) w
        (walked_once shape (turns_number n) (bound_at n c (byte_at block)) (λ t f. subst (λ (d : Bool). Promised shape d (turns_number n) (bound_at n c (byte_at block)) t (height_of shape t)) (sym w) (turns_height n c (byte_at block) bytes t f)) (length before) t r f)

  -- ---- THE PROMISES
  pub strip_turns_answered : {r : Result ℕ Refusal} → r ≡ strip_answer (chosen_turns block code turns) (length before) → after ≡ strip_after (chosen_turns block code turns) before
      → StripTurnsAnswered block code turns before after r
  unfolding shape
  strip_turns_answered e a =
      record {
        equation = e;
        strip = a;
        size = ap length a ∙ after_length (chosen_turns block code turns) before;
        refusal = ap answer_refusal e ∙ strip_refused (chosen_turns block code turns) (length before) ∙ turns_checked (check_length (length before) accepted) block code turns;
        given = λ c n k u l t i h. own_samples (shape c n k u l) _ (turns_height n c (byte_at block) bytes) before after (a ∙ filled c n k u l) t i h;
      }

  pub strip_once_turns_answered : {r : Result ℕ Refusal} → r ≡ strip_once_answer (chosen_turns block code turns) (length before) → after ≡ strip_after (chosen_turns block code turns) before
      → StripOnceTurnsAnswered block code turns before after r
  unfolding shape
  strip_once_turns_answered e a =
      record {
        equation = e;
        plain = strip_turns_answered refl a;
        refusal = ap answer_refusal e ∙ refused_alike (chosen_turns block code turns) (length before) ∙ (strip_turns_answered refl a).refusal;
        given = λ c n k u l t. own c n k u l (e ∙ steps c n k u l t) t;
      }
