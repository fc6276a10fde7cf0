-- WHAT IS PROMISED OF A STRIP WITH ONE WALK ALONG IT FOLLOWS FROM ITS EQUATIONS: it is refused as the plain engine refuses, and its steps are those of the last sample's walk, with a cut one for each
-- sample. Assumes nothing.
use mathlib.Core.Path.{◌≡◌, refl, sym, ap, subst, ◌∙◌}
use mathlib.Core.Bool.{Bool, true, false, not, cond}
use mathlib.Core.List.{List}
use Prim.Native.Nat.{ℕ, zero, suc, ◌+◌, ◌-◌, ◌*◌, ◌≤◌, ◌<◌}
use native.Mathlib.Omega.{arith}
use lib.Dec.{T}
use lib.ListN.{length}
use lib.Ieee.{Float, binary32, fits, le}
use lib.Ieee.Bits.{is_true, is_false}
use Rattle.std.specs.Prelude.{Some, Result, Ok, Err}
use Rattle.refusals.specs.declared.Refusal.{Refusal}
use Rattle.refusals.specs.Refusals.{answer_refusal}
use Rattle.exact.specs.Fraction.{Fraction}
use Rattle.exact.specs.Binary32.{zero₃₂, one₃₂}
use Rattle.settings.specs.declared.SampledTurns.TheVariants.{Six, Eight}
use Rattle.settings.specs.Settings.{sampled_turns}
use Rattle.settings.specs.declared.Lfo.{Lfo}
use Rattle.generator.specs.declared.Shape.{Shape}
use Rattle.generator.specs.declared.Shape.TheVariants.{Envelope as AnEnvelope, Fade as AFade, Lfo as AnLfo, Filter as AFilter, Oscillator as AnOscillator, Noise as ANoise}
use Rattle.generator.specs.declared.Scale.TheVariants.{Turns}
use Rattle.generator.specs.Generator.{generator_of, scale_of, scale_value}
use Rattle.generator.specs.declared.Generator.{Generator}
use Rattle.shape_heights.specs.Heights.{height_of, walk_phase}
use Rattle.strip.specs.Strip.{sample_position, sample_of, length_fits}
use Rattle.strip.proofs.Lengths.{between}
use Rattle.strip.proofs.Samples.{sample_fits}
use Rattle.lfo_strip_once.specs.Once.{once_from, steps_once}
use Rattle.lfo_strip_once.proofs.Laws.{one_turn, six_turns, eight_turns}
use Rattle.walk.specs.Steps.{Steps}
use Rattle.refusals.specs.declared.Refusal.TheVariants.{Strip}
use Rattle.codes.specs.declared.Code.{Code}
use Rattle.codes.specs.Codes.{code_of}
use Rattle.code_bytes.specs.Bytes.{byte_at, block_length}
use Rattle.code_shapes.specs.Shapes.{shape_of}
use Rattle.shape_strip.specs.Forward.{goes_forward}
use Rattle.shape_strip.proofs.Turned.{turned_goes}
use Rattle.code_heights.specs.Promises.{slewed_code, bound_of, Promised}
use Rattle.code_heights.proofs.Promised.{slewed}
use Rattle.code_heights.proofs.EveryCode.{code_slewed, turned_six, block_height}
use Rattle.block.specs.Refusals.{settled_of, chosen_by, chosen_of}
use Rattle.block.proofs.KnownCode.{known_chosen}
use Rattle.block_strip.specs.Strips.{strip_answer, strip_after}
use Rattle.block_strip.specs.Promises.{StripAnswered}
use Rattle.block_strip.proofs.Answered.{strip_answered}
use Rattle.block_strip_once.specs.Strips.{strip_once_answer}
use Rattle.block_strip_once.specs.Promises.{WalkedOnce, StripOnceAnswered}

-- ---- what is chosen goes forward
unfoldable pub forward_chosen : Result Generator Refusal → Bool
forward_chosen (Ok g) = goes_forward g.shape
forward_chosen (Err r) = true

pub chosen_forward : (block : List ℕ) (code : ℕ) (g : Generator) → chosen_of block code ≡ Ok g → goes_forward g.shape ≡ true
unfolding chosen_of chosen_by generator_of forward_chosen
chosen_forward block code g e = ap forward_chosen (sym e) ∙ go (settled_of block code)
  where
    go : (s : Result Code Refusal) → forward_chosen (chosen_by s (byte_at block)) ≡ true
    go (Ok c) = subst (λ (s : Shape). goes_forward s ≡ true) (turned_six c (byte_at block)) (turned_goes Six (shape_of c (byte_at block)))
    go (Err r) = refl

-- ---- it is refused where the plain engine refuses
pub refused_alike : (a : Result Generator Refusal) (n : ℕ) → answer_refusal (strip_once_answer a n) ≡ answer_refusal (strip_answer a n)
unfolding strip_once_answer strip_answer
refused_alike (Ok g) n = go (length_fits n) _ _
  where
    go : (b : Bool) (k m : ℕ) → answer_refusal (cond b (Ok k) (Err Strip)) ≡ answer_refusal (cond b (Ok m) (Err Strip))
    go true k m = refl
    go false k m = refl
refused_alike (Err r) n = refl

-- ---- a block of 242 bytes, a known code and a length that fits are given the steps
filled : (block : List ℕ) (code n : ℕ) (c : Code) → code_of code ≡ Some c → length block ≡ block_length → T (length_fits n) → strip_once_answer (chosen_of block code) n ≡ Ok (steps_once (shape_of c (byte_at block)) n)
unfolding strip_once_answer generator_of
filled block code n c k l t = simp (known_chosen block code c k l, is_true (length_fits n) t)

-- ---- from the steps k of the last sample's own walk
once_walked : (k n : ℕ) → 1 ≤ k → once_from k n ≡ k - 1 + n
unfolding once_from
once_walked zero n h = absurd (omega arith)
once_walked (suc k) n h = omega arith

once_most : (m k n : ℕ) → k ≤ m → once_from k n ≤ m + n
unfolding once_from
once_most m zero n h = omega arith
once_most m (suc k) n h = omega arith

from_one : (k : ℕ) → 1 ≤ k → k ≡ suc (k - 1)
from_one k h = omega arith

-- a walked shape is an LFO, and its scale its turns
by_turns : (s : Shape) (n j : ℕ) (x : Float) → ((l : Lfo) → le l.slew zero₃₂ ≡ false → l.turns ≡ x → steps_once (AnLfo l) n ≡ j) → T (slewed s) → scale_of s ≡ Turns x → steps_once s n ≡ j
unfolding slewed
by_turns (AnEnvelope e) n j x f w h = absurd w
by_turns (AFade e) n j x f w h = absurd w
by_turns (AnLfo l) n j x f w h = f l (is_false (le l.slew zero₃₂) w) (ap scale_value h)
by_turns (AFilter e) n j x f w h = absurd w
by_turns (AnOscillator o) n j x f w h = absurd w
by_turns (ANoise e) n j x f w h = absurd w

-- ---- THE STEPS, of a shape of whose heights all is promised
pub walked_once : (s : Shape) (turns : ℕ) (bound : Fraction) → ((t : Float) → T (fits binary32 t) → Promised s (slewed s) turns bound t (height_of s t))
    → (n : ℕ) → T (length_fits n) → (r : Result ℕ Refusal) → r ≡ Ok (steps_once s n) → WalkedOnce s (slewed s) turns n r
unfolding steps_once sample_of
walked_once s turns bound h n t r e =
    record {
      steps = once_from k n;
      answer = e;
      full = k - 1;
      walked = λ w. once_walked k n (p.walked w).some;
      last = λ w. subst (λ (m : ℕ). Steps turns (walk_phase s (sample_position n (n - 1))) m) (from_one k (p.walked w).some) (p.walked w);
      one = λ w u. by_turns s n (191 + n) one₃₂ (λ l v x. one_turn l n v fit.0 fit.1 x) w u;
      six = λ w u. by_turns s n (671 + n) (sampled_turns Six) (λ l v x. six_turns l n v fit.0 fit.1 x) w u;
      eight = λ w u. by_turns s n (863 + n) (sampled_turns Eight) (λ l v x. eight_turns l n v fit.0 fit.1 x) w u;
      none = λ v. ap (λ (m : ℕ). once_from m n) (p.none v) ∙ unfold once_from in refl;
      most = once_most (96 + 96 * turns) k n (few (slewed s) (λ w. (p.walked w).most) p.none);
    }
  where
    k : ℕ
    k = (sample_of s n (n - 1)).steps

    fit : (2 ≤ n) × (n ≤ 4096)
    fit = between n {fit = length_fits n} refl (is_true (length_fits n) t)

    p : Promised s (slewed s) turns bound (sample_position n (n - 1)) (sample_of s n (n - 1))
    p = h (sample_position n (n - 1)) (sample_fits n (n - 1))

    few : (d : Bool) → (T d → k ≤ 96 + 96 * turns) → (T (not d) → k ≡ 0) → k ≤ 96 + 96 * turns
    few true f g = f tt
    few false f g = let e : k ≡ 0 = g tt in omega arith

-- ---- THE PROMISE
pub strip_once_answered : (block : List ℕ) (code : ℕ) (before after : List Float) (r : Result ℕ Refusal) → ((n : ℕ) → byte_at block n < 256)
    → r ≡ strip_once_answer (chosen_of block code) (length before) → after ≡ strip_after (chosen_of block code) before → StripOnceAnswered block code before after r
strip_once_answered block code before after r b e a =
    record {
      equation = e;
      plain = plain;
      refusal = ap answer_refusal e ∙ refused_alike (chosen_of block code) (length before) ∙ plain.refusal;
      given = λ c k l t. own c (e ∙ filled block code (length before) c k l t) t;
    }
  where
    plain : StripAnswered block code before after (strip_answer (chosen_of block code) (length before))
    plain = strip_answered block code before after (strip_answer (chosen_of block code) (length before)) b refl a

    own : (c : Code) → r ≡ Ok (steps_once (shape_of c (byte_at block)) (length before)) → T (length_fits (length before)) → WalkedOnce (shape_of c (byte_at block)) (slewed_code c (byte_at block)) 6 (length before) r
    own c f t =
        let s = shape_of c (byte_at block) in
        let w : slewed s ≡ slewed_code c (byte_at block) = ap slewed (sym (turned_six c (byte_at block))) ∙ code_slewed Six c (byte_at block) b in
        subst (λ (d : Bool). WalkedOnce s d 6 (length before) r) w
        (walked_once s 6 (bound_of c (byte_at block)) (λ t f. subst (λ (d : Bool). Promised s d 6 (bound_of c (byte_at block)) t (height_of s t)) (sym w) (block_height c (byte_at block) b t f)) (length before) t r f)
