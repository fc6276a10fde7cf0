-- WHAT IS PROMISED OF CAPTIONS FOLLOWS FROM THEIR EQUATIONS: they are refused by the first check that fails, that of their length last; they keep their length; and each is that of its
-- sample, and what it was but for the list of changes. Assumes nothing.
use mathlib.Core.Path.{◌≡◌, refl, sym, ap, ◌∙◌}
use mathlib.Core.Bool.{Bool, true, false, cond}
use mathlib.Core.List.{List}
use Prim.Native.Nat.{ℕ, ◌+◌, ◌≤◌, ◌<◌}
use lib.Dec.{T}
use lib.ListN.{length, get_or}
use Rattle.std.specs.Prelude.{Some, Result, Ok, Err}
use Rattle.refusals.specs.declared.Refusal.{Refusal}
use Rattle.generator.specs.declared.Generator.{Generator}
use Rattle.generator.specs.Generator.{generator_of}
use Rattle.strip.specs.Strip.{length_fits}
use Rattle.strip.proofs.Lengths.{between_fits}
use Rattle.std.specs.Prelude.{Ok, Err}
use Rattle.captions.specs.Captions.{no_caption, caption_at, answer_of as captioned, captions_of}
use Rattle.captions.specs.Changes.{former_at}
use Rattle.captions.proofs.Laws.{captions_length, captions_at}
use Rattle.captions.proofs.Changed.{caption_changed}
use Rattle.refusals.specs.Refusals.{accepted, check_block, check_code, check_length, answer_refusal}
use Rattle.codes.specs.declared.Code.{Code}
use Rattle.codes.specs.declared.Code.TheVariants.{Envelope, Lfo, LfoUnipolar, Fade, LowPass, HighPass, Oscillator, Noise}
use Rattle.codes.specs.Codes.{code_of}
use Rattle.code_bytes.specs.Bytes.{block_length, byte_at, decay_place, sustain_place, release_place, attack_curve_place, decay_curve_place, sustain_curve_place, release_curve_place, envelope_first}
use Rattle.code_settings.specs.Settings.{envelope_at}
use Rattle.code_shapes.specs.Shapes.{shape_of}
use Rattle.block.specs.Refusals.{chosen_of}
use Rattle.block.proofs.KnownCode.{known_chosen}
use Rattle.block.proofs.Refused.{refusal_or, chosen_checked}
use Rattle.block_captions.specs.Answers.{captioned_answer, captions_answer, captions_after}
use Rattle.block_captions.specs.Promises.{changed_of, SampleCaptioned, CaptionsAnswered}

-- ---- captions are refused where the choice is, then by their length
captions_checked : (block : List ℕ) (code n : ℕ) → answer_refusal (captions_answer (chosen_of block code) n) ≡ check_block (length block) (check_code code (check_length n accepted))
unfolding captions_answer captioned_answer captioned refusal_or check_length
captions_checked block code n = same (chosen_of block code) ∙ chosen_checked (check_length n accepted) block code
  where
    same : (a : Result Generator Refusal) → answer_refusal (captions_answer a n) ≡ refusal_or (check_length n accepted) a
    same (Ok g) = go (length_fits n)
      where
        go : (b : Bool) → answer_refusal (captioned_answer (cond b (Ok tt) (Err (record {})))) ≡ cond b accepted 3
        go true = refl
        go false = refl
    same (Err r) = refl

-- ---- they keep their length
after_length : (a : Result Generator Refusal) (xs : List ℕ) → length (captions_after a xs) ≡ length xs
unfolding captions_after
after_length (Ok g) xs = captions_length g.shape xs
after_length (Err r) xs = refl

-- ---- a block of 242 bytes and a known code have the captions of the code's shape
filled : (block : List ℕ) (code : ℕ) (xs : List ℕ) (c : Code) → code_of code ≡ Some c → length block ≡ block_length → captions_after (chosen_of block code) xs ≡ captions_of (shape_of c (byte_at block)) xs
unfolding captions_after generator_of
filled block code xs c k l = simp (known_chosen block code c k l)

-- ---- THE CHANGES, of every code
code_changed : (c : Code) (b : ℕ → ℕ) → ((n : ℕ) → b n < 256) → (n i : ℕ) → 2 ≤ n → n ≤ 4096 → caption_at (shape_of c b) n i ≡ changed_of c b i (former_at (shape_of c b) n i)
unfolding shape_of envelope_at changed_of
code_changed (Envelope id) b h n i k l =
    let f = envelope_first id in
    caption_changed (b f) (b (f + decay_place)) (b (f + sustain_place)) (b (f + release_place)) (b (f + attack_curve_place)) (b (f + decay_curve_place)) (b (f + sustain_curve_place)) (b (f + release_curve_place))
    (h f) (h (f + decay_place)) (h (f + release_place)) n i k l
code_changed (Lfo id) b h n i k l = refl
code_changed (LfoUnipolar id) b h n i k l = refl
code_changed (Fade id) b h n i k l = refl
code_changed LowPass b h n i k l = refl
code_changed HighPass b h n i k l = refl
code_changed (Oscillator id) b h n i k l = refl
code_changed Noise b h n i k l = refl

-- ---- THE PROMISE
pub captions_answered : {block : List ℕ} {code : ℕ} {before after : List ℕ} {r : Result (Unit {0}) Refusal} → ((n : ℕ) → byte_at block n < 256)
    → r ≡ captions_answer (chosen_of block code) (length before) → after ≡ captions_after (chosen_of block code) before → CaptionsAnswered block code before after r
captions_answered {block} {code} {before} {after} b e a =
    record {
      equation = e;
      captions = a;
      size = size;
      refusal = ap answer_refusal e ∙ captions_checked block code (length before);
      given = λ c k l t i h. own c (a ∙ filled block code before c k l) t i h;
    }
  where
    size : length after ≡ length before
    size = ap length a ∙ after_length (chosen_of block code) before

    own : (c : Code) → after ≡ captions_of (shape_of c (byte_at block)) before → T (length_fits (length before)) → (i : ℕ) → i < length before → SampleCaptioned c block after i
    own c f t i h =
        let s = shape_of c (byte_at block) in
        let fits = between_fits (length before) t in
        let is = ap (λ (xs : List ℕ). get_or xs i no_caption) f ∙ captions_at no_caption s before fits.0 fits.1 i h ∙ ap (λ (n : ℕ). caption_at s n i) (sym size) in
        record { caption = is; changed = is ∙ rw size (code_changed c (byte_at block) b (length before) i fits.0 fits.1) }
