-- WHAT IS PROMISED OF EVERY BLOCK'S HEIGHTS AT A NUMBER OF TURNS: a shape that is sampled and walked along eight turns has the bound of those; all others are what they are at six. Assumes nothing.
use mathlib.Core.Path.{◌≡◌, refl, sym, subst, ◌∙◌}
use mathlib.Core.Bool.{Bool, true, false, not, cond, ◌&&◌}
use Prim.Native.Nat.{ℕ, ◌+◌, ◌<◌}
use native.Mathlib.Omega.{arith}
use lib.Dec.{T, eqb}
use lib.Ieee.{Float, binary32, fits}
use Rattle.exact.specs.Fraction.{Fraction, ratio}
use Rattle.settings.specs.declared.LfoShape.{LfoShape}
use Rattle.settings.specs.declared.LfoShape.TheVariants.{Sine, Triangle, Square, RampUp, RampDown, SampleAndHold, SampleAndGlide}
use Rattle.settings.specs.declared.SampledTurns.{SampledTurns}
use Rattle.settings.specs.declared.SampledTurns.TheVariants.{Six, Eight}
use Rattle.settings.specs.Settings.{turns_of, turned_lfo, lfo_of}
use Rattle.walk.specs.Steps.{Steps}
use Rattle.generator.specs.declared.Shape.{Shape}
use Rattle.generator.specs.declared.Shape.TheVariants.{Envelope as AnEnvelope, Fade as AFade, Lfo as AnLfo, Filter as AFilter, Oscillator as AnOscillator, Noise as ANoise}
use Rattle.shape_heights.specs.Heights.{height_of}
use Rattle.turns.specs.Turns.{turned_of, is_sampled, sampled}
use Rattle.codes.specs.declared.Code.{Code}
use Rattle.codes.specs.declared.Code.TheVariants.{Envelope, Lfo, LfoUnipolar, Fade, LowPass, HighPass, Oscillator, Noise}
use Rattle.code_bytes.specs.Bytes.{slew_place, lfo_first}
use Rattle.code_settings.specs.Settings.{lfo_at}
use Rattle.code_shapes.specs.Shapes.{shape_of}
use Rattle.code_heights.specs.Promises.{slewed_code, lfo_bound, bound_of, bound_at, Promised, TurnsPromised}
use Rattle.code_heights.proofs.Promised.{shape_bound}
use Rattle.code_heights.proofs.EveryCode.{slew_off, by_shape, turned_six, block_height}

-- ---- a shape that is not sampled has the same turns at every number
turns_alike : (x : LfoShape) → is_sampled x ≡ false → turns_of Eight x ≡ turns_of Six x
turns_alike Sine e = refl
turns_alike Triangle e = refl
turns_alike Square e = refl
turns_alike RampUp e = refl
turns_alike RampDown e = refl
turns_alike SampleAndHold e = absurd (subst (λ (b : Bool). T (not b)) (sym e) tt)
turns_alike SampleAndGlide e = absurd (subst (λ (b : Bool). T (not b)) (sym e) tt)

pub turned_alike : (s : Shape) → sampled s ≡ false → turned_of Eight s ≡ turned_of Six s
unfolding turned_of turned_lfo sampled
turned_alike (AnEnvelope e) h = refl
turned_alike (AFade f) h = refl
turned_alike (AnLfo l) h = simp (turns_alike l.shape h)
turned_alike (AFilter f) h = refl
turned_alike (AnOscillator o) h = refl
turned_alike (ANoise n) h = refl

-- ---- at eight turns the bound of a walk is 1/2,048
by_slew : (none : Bool) → cond none (ratio 1 262144) (ratio 1 2048) ≡ cond (not none) (ratio 1 2048) (cond none (ratio 1 262144) (ratio 1 4096))
by_slew true = refl
by_slew false = refl

eight_bound : (c : Code) (b : ℕ → ℕ) → ((k : ℕ) → b k < 256) → shape_bound Eight (turned_of Eight (shape_of c b)) ≡ cond (slewed_code c b) (ratio 1 2048) (bound_of c b)
unfolding shape_bound turned_of turned_lfo shape_of lfo_at lfo_of slewed_code lfo_bound bound_of
eight_bound (Envelope id) b h = refl
eight_bound (Lfo id) b h = simp (slew_off (b (lfo_first id + slew_place)) (h (lfo_first id + slew_place))) (by_slew (eqb (b (lfo_first id + slew_place)) 0))
eight_bound (LfoUnipolar id) b h = simp (slew_off (b (lfo_first id + slew_place)) (h (lfo_first id + slew_place))) (by_slew (eqb (b (lfo_first id + slew_place)) 0))
eight_bound (Fade id) b h = refl
eight_bound LowPass b h = refl
eight_bound HighPass b h = refl
eight_bound (Oscillator id) b h = refl
eight_bound Noise b h = refl

-- ---- steps of six turns are few enough for eight
more_turns : {phase : Float} {k : ℕ} → Steps 6 phase k → Steps 8 phase k
more_turns s = record { some = s.some; reached = s.reached; first = s.first; least = s.least; most = omega (arith, s.most) }

-- ---- THE THEOREM
pub turns_height : (n : SampledTurns) (c : Code) (b : ℕ → ℕ) → ((k : ℕ) → b k < 256) → (t : Float) → T (fits binary32 t) → TurnsPromised n c b t (height_of (turned_of n (shape_of c b)) t)
unfolding bound_at
turns_height Six c b h t f = subst (λ (s : Shape). Promised s (slewed_code c b) 6 (bound_of c b) t (height_of s t)) (sym (turned_six c b)) (block_height c b h t f)
turns_height Eight c b h t f = go (sampled (shape_of c b)) refl
  where
    At : Shape → Fraction → Type 0
    At s bound = Promised s (slewed_code c b) 8 bound t (height_of s t)

    both : (w : Bool) (x y : Fraction) → cond w x y ≡ cond (w && true) x y
    both true x y = refl
    both false x y = refl

    neither : (w : Bool) (x y : Fraction) → y ≡ cond (w && false) x y
    neither true x y = refl
    neither false x y = refl

    six : At (shape_of c b) (bound_of c b)
    six = let p = block_height c b h t f in record { drawn = p.drawn; walked = λ w. more_turns (p.walked w); none = p.none }

    go : (s : Bool) → sampled (shape_of c b) ≡ s → At (turned_of Eight (shape_of c b)) (cond (slewed_code c b && s) (ratio 1 2048) (bound_of c b))
    go true e = subst (At (turned_of Eight (shape_of c b))) (eight_bound c b h ∙ both (slewed_code c b) (ratio 1 2048) (bound_of c b)) (by_shape Eight c b h t f)
    go false e =
        subst (λ (s : Shape). At s (cond (slewed_code c b && false) (ratio 1 2048) (bound_of c b))) (sym (turned_alike (shape_of c b) e ∙ turned_six c b))
        (subst (At (shape_of c b)) (neither (slewed_code c b) (ratio 1 2048) (bound_of c b)) six)
