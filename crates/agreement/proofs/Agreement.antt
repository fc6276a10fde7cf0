-- BLOCKS THAT AGREE IN A CODE'S BYTES HAVE THE SAME ANSWERS for that code, at every number of turns, and blocks that agree in byte 160 the same gates and bars, whatever else they hold. Assumes nothing.
use mathlib.Core.Path.{◌≡◌, ap}
use mathlib.Core.List.{List}
use Prim.Native.Nat.{ℕ}
use lib.ListN.{length}
use Rattle.std.specs.Prelude.{Some, Result}
use Rattle.refusals.specs.declared.Refusal.{Refusal}
use Rattle.generator.specs.declared.Generator.{Generator}
use Rattle.codes.specs.declared.Code.{Code}
use Rattle.codes.specs.Codes.{code_of}
use Rattle.code_bytes.specs.Bytes.{Agree, bytes_of, byte_at, gates_byte, block_length}
use Rattle.turns.specs.Turns.{turns_read}
use Rattle.block.specs.Refusals.{chosen_of}
use Rattle.block_turns.specs.Choice.{chosen_at, chosen_turns}
use Rattle.block.proofs.Agreement.{agreement_chosen}
use Rattle.block_gates.specs.Answers.{of_byte, gates_answer, bars_answer}
use Rattle.agreement.specs.Agreement.{SameAnswers}

alike : {a b : Result Generator Refusal} → a ≡ b → SameAnswers a b
alike e =
    record {
      settings = simp e;
      height = λ t. simp e;
      steps = λ n. simp e;
      steps_once = λ n. simp e;
      strip = λ before. simp e;
      captioned = λ n. simp e;
      captions = λ before. simp e;
      marks = simp e;
      rest = simp e;
      scale = simp e;
      anchored = simp e;
    }

module _ (c : Code) (x y : List ℕ) (code : ℕ) (lx : length x ≡ block_length) (ly : length y ≡ block_length) (k : code_of code ≡ Some c) (h : Agree (bytes_of c) (byte_at x) (byte_at y)) where
  pub same_answers : SameAnswers (chosen_of x code) (chosen_of y code)
  same_answers = alike (agreement_chosen c x y code lx ly k h)

  -- at every number of turns too
  pub same_turns : (turns : ℕ) → SameAnswers (chosen_turns x code turns) (chosen_turns y code turns)
  unfolding chosen_turns
  same_turns turns = alike (ap (λ (a : Result Generator Refusal). chosen_at a (turns_read turns)) (agreement_chosen c x y code lx ly k h))

pub same_gates : (x y : List ℕ) → length x ≡ block_length → length y ≡ block_length → byte_at x gates_byte ≡ byte_at y gates_byte → gates_answer x ≡ gates_answer y
unfolding of_byte
same_gates x y lx ly e = simp (lx, ly, e)

pub same_bars : (x y : List ℕ) → length x ≡ block_length → length y ≡ block_length → byte_at x gates_byte ≡ byte_at y gates_byte → bars_answer x ≡ bars_answer y
same_bars = same_gates
