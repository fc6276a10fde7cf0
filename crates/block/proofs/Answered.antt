-- WHAT IS PROMISED OF A HEIGHT FOLLOWS FROM ITS EQUATION, by the theorem over every code and every block. Assumes nothing.
use mathlib.Core.Path.{◌≡◌, ap, ◌∙◌}
use mathlib.Core.List.{List}
use Prim.Native.Nat.{ℕ, ◌<◌}
use Rattle.std.specs.Prelude.{Some, Result, Ok}
use Rattle.refusals.specs.declared.Refusal.{Refusal}
use Rattle.refusals.specs.Refusals.{answer_refusal}
use lib.Dec.{T}
use lib.ListN.{length}
use lib.Ieee.{Float, binary32, fits}
use Rattle.generator.specs.Generator.{generator_of}
use Rattle.curve.specs.declared.Height.{Height}
use Rattle.codes.specs.declared.Code.{Code}
use Rattle.generator.specs.declared.Generator.{Generator}
use Rattle.codes.specs.Codes.{code_of}
use Rattle.code_bytes.specs.Bytes.{byte_at, block_length}
use Rattle.block.specs.Refusals.{chosen_of, height_answer}
use Rattle.block.specs.Promises.{HeightAnswered}
use Rattle.block.proofs.KnownCode.{known_chosen}
use Rattle.block.proofs.Refused.{height_checked}
use Rattle.code_heights.proofs.EveryCode.{block_height}

-- a block of 242 bytes and a known code are given a height: the one that `height_answer` has
accepted : (block : List ℕ) (code : ℕ) (t : Float) (c : Code) → code_of code ≡ Some c → length block ≡ block_length → (h : Height) × (height_answer (chosen_of block code) t ≡ Ok h)
unfolding height_answer
accepted block code t c k l = (_, ap (λ (g : Result Generator Refusal). height_answer g t) (known_chosen block code c k l))

pub height_answered : (block : List ℕ) (code : ℕ) (t : Float) (r : Result Height Refusal) → ((n : ℕ) → byte_at block n < 256) → T (fits binary32 t) → r ≡ height_answer (chosen_of block code) t
    → HeightAnswered block code t r
unfolding accepted generator_of
height_answered block code t r b f e =
    record {
      equation = e;
      refusal = ap answer_refusal e ∙ height_checked block code t;
      given = λ c k l.
          let a = accepted block code t c k l in
          record { height = a.0; answer = e ∙ a.1; promised = block_height c (byte_at block) b t f };
    }
