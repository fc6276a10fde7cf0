-- WHAT IS PROMISED OF AN ANSWER AT A NUMBER OF TURNS FOLLOWS FROM ITS EQUATION. Assumes nothing.
use mathlib.Core.Path.{◌≡◌, refl, ap, ◌∙◌}
use mathlib.Core.List.{List}
use Prim.Native.Nat.{ℕ, ◌<◌}
use lib.Dec.{T}
use lib.ListN.{length}
use lib.Ieee.{Float, binary32, fits}
use Rattle.std.specs.Prelude.{Some, Result, Ok, Err}
use Rattle.refusals.specs.declared.Refusal.{Refusal}
use Rattle.generator.specs.declared.Generator.{Generator}
use Rattle.curve.specs.declared.Height.{Height}
use Rattle.settings.specs.declared.SampledTurns.{SampledTurns}
use Rattle.generator.specs.Generator.{generator_of}
use Rattle.shape_heights.specs.Heights.{height_of}
use Rattle.turns.specs.Turns.{turns_read, turned_of}
use Rattle.refusals.specs.Refusals.{accepted, answer_refusal}
use Rattle.codes.specs.declared.Code.{Code}
use Rattle.codes.specs.Codes.{code_of}
use Rattle.code_bytes.specs.Bytes.{byte_at, block_length}
use Rattle.code_shapes.specs.Shapes.{shape_of}
use Rattle.code_heights.proofs.EveryTurns.{turns_height}
use Rattle.block.specs.Refusals.{height_answer}
use Rattle.block.proofs.Refused.{refusal_or}
use Rattle.block_turns.specs.Choice.{chosen_turns}
use Rattle.block_turns.specs.Promises.{TurnsAnswered, HeightTurnsAnswered}
use Rattle.block_turns.proofs.Choice.{turns_checked, known_turned}

pub turns_answered : {A : Type 0} {answer : Result Generator Refusal → Result A Refusal} {block : List ℕ} {code turns : ℕ} {r : Result A Refusal}
    → ((a : Result Generator Refusal) → answer_refusal (answer a) ≡ refusal_or accepted a) → r ≡ answer (chosen_turns block code turns) → TurnsAnswered answer block code turns r
turns_answered {block = block} {code = code} {turns = turns} same e =
    record { equation = e; refusal = ap answer_refusal e ∙ same (chosen_turns block code turns) ∙ turns_checked accepted block code turns }

-- ---- a height is refused where the choice is
height_refused : (t : Float) (a : Result Generator Refusal) → answer_refusal (height_answer a t) ≡ refusal_or accepted a
unfolding height_answer refusal_or
height_refused t (Ok g) = refl
height_refused t (Err r) = refl

-- ---- a block of 242 bytes, a known code and 6 or 8 turns are given the height of the code's shape at those
known_height : (block : List ℕ) (code turns : ℕ) (t : Float) (c : Code) (n : SampledTurns) → code_of code ≡ Some c → turns_read turns ≡ Some n → length block ≡ block_length
    → height_answer (chosen_turns block code turns) t ≡ Ok (height_of (turned_of n (shape_of c (byte_at block))) t)
unfolding height_answer generator_of
known_height block code turns t c n k u l = simp (known_turned block code turns c n k u l)

pub height_turns_answered : (block : List ℕ) (code turns : ℕ) (t : Float) (r : Result Height Refusal) → ((n : ℕ) → byte_at block n < 256) → T (fits binary32 t)
    → r ≡ height_answer (chosen_turns block code turns) t → HeightTurnsAnswered block code turns t r
height_turns_answered block code turns t r b f e =
    record {
      answered = turns_answered (height_refused t) e;
      given = λ c n k u l.
          record { height = height_of (turned_of n (shape_of c (byte_at block))) t; answer = e ∙ known_height block code turns t c n k u l; promised = turns_height n c (byte_at block) b t f };
    }
