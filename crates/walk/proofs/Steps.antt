-- THE STEPS OF A WALK are the first count from 1 up whose position is not below the phase, from 96 to 96 more for each turn, at every phase of the turns. Assumes nothing.
use mathlib.Core.Path.{◌≡◌, refl, sym, subst, ◌∙◌}
use mathlib.Core.Logic.{inl, inr}
use mathlib.Core.Bool.{Bool, true, false, not, cond}
use Prim.Native.Nat.{ℕ, zero, suc, ◌+◌, ◌*◌, ◌≤◌, ◌<◌}
use native.Mathlib.Nat.{eq-or-lt_of_le, not-le_of_lt, le_of_suc-le-suc}
use native.Mathlib.Omega.{arith}
use lib.Dec.{T, lit<, lit≤, leb, leb→le, nleb→lt}
use lib.Ieee.{Float, of_bits, lt, le}
use lib.Ieee.Bits.{is_true}
use lib.Ieee.Scale.{finite}
use Rattle.exact.specs.Fraction.{ratio, ◌≤ℚ◌}
use Rattle.exact.specs.Value.{value}
use Rattle.exact.specs.Binary32.{zero₃₂}
use Rattle.exact.proofs.Defined.{value_defined}
use Rattle.exact.proofs.Order.{cross, ≤ℚ-parts, ≤ℚ-refl, ≤ℚ-trans, le_value, nlt_at_most, compared}
use Rattle.settings.specs.declared.SampledTurns.{SampledTurns}
use Rattle.settings.specs.declared.SampledTurns.TheVariants.{Six, Eight}
use Rattle.settings.specs.Settings.{turns_number, sampled_turns}
use Rattle.lfo_shapes.proofs.DrawnPhase.{Spanned}
use Rattle.walk.specs.Formula.{place_of, full_from, full_steps}
use Rattle.walk.specs.Steps.{Steps}
use Rattle.walk.proofs.Places.{place_fits, place_finite, place_turns, increasing, at_most_later, place_below_zero, place_above_zero}

-- ---- the search from count k + 1 on finds the first that reaches the phase, where some count m does
record Found (phase : Float) (k m r : ℕ) : Type 0 where
  from : k ≤ r
  before : r < m
  reaches : le phase (place_of (suc r)) ≡ true
  passed : (j : ℕ) → k < j → j ≤ r → le phase (place_of j) ≡ false

found : (phase : Float) (n k m : ℕ) → k < m → m ≤ suc (n + k) → le phase (place_of m) ≡ true → Found phase k m (full_from phase n k)
unfolding full_from
found phase zero k m h l t =
    let e : m ≡ suc k = omega arith in
    record { from = omega arith; before = h; reaches = subst (λ (j : ℕ). le phase (place_of j) ≡ true) e t; passed = λ j a b. absurd (not-le_of_lt a b) }
found phase (suc n) k m h l t = go (le phase (place_of (suc k))) refl (λ (i : suc k < m). found phase n (suc k) m i (omega arith) t)
  where
    clash : false ≡ true → ⊥
    clash i = subst (λ (b : Bool). T (not b)) i tt

    go : (b : Bool) → le phase (place_of (suc k)) ≡ b → (suc k < m → Found phase (suc k) m (full_from phase n (suc k))) → Found phase k m (cond b k (full_from phase n (suc k)))
    go true e rest = record { from = omega arith; before = h; reaches = e; passed = λ j a b. absurd (not-le_of_lt a b) }
    go false e rest =
        let after : suc k < m = elim (eq-or-lt_of_le h) [ inl i ↦ absurd (clash (sym (subst (λ (j : ℕ). le phase (place_of j) ≡ false) i e) ∙ t)) | inr i ↦ i ] in
        let f = rest after in
        let r : suc k ≤ full_from phase n (suc k) = f.from in
        record {
          from = omega arith;
          before = f.before;
          reaches = f.reaches;
          passed = λ j a b. elim (eq-or-lt_of_le a) [ inl i ↦ subst (λ (j : ℕ). le phase (place_of j) ≡ false) i e | inr i ↦ f.passed j i b ];
        }

-- ---- tests of numbers
pub le_nlt : (x y : Float) → T (finite x) → T (finite y) → T (le x y) → T (not (lt y x))
le_nlt x y X Y h = go (lt y x) (compared y x Y X).below.passed
  where
    go : (b : Bool) → (T b → cross (value y) (value x) < cross (value x) (value y)) → T (not b)
    go true k = absurd (not-le_of_lt (k tt) (≤ℚ-parts (value x) (value y) ((le_value x y X Y).0 h)))
    go false k = tt

nle_lt : (x y : Float) → T (finite x) → T (finite y) → le x y ≡ false → T (lt y x)
nle_lt x y X Y h = go (lt y x) (λ t. (nlt_at_most y x Y X t).le)
  where
    go : (b : Bool) → (T (not b) → value x ≤ℚ value y) → T b
    go true k = tt
    go false k = absurd (subst T h ((le_value x y X Y).1 (k tt)))

both : (b : Bool) → T b → T (not b) → ⊥
both true t f = f
both false t f = t

-- ---- a position that reaches a phase of the turns is not below 0, and the last one reaches it
unreached : {t : SampledTurns} (phase : Float) (k : ℕ) → Spanned t phase → k < 96 → le phase (place_of k) ≡ false
unfolding value of_bits
unreached phase k p l = go (le phase (place_of k)) (le_value phase (place_of k) p.number K).0
  where
    K : T (finite (place_of k))
    K = place_finite k (omega arith)

    go : (b : Bool) → (T b → value phase ≤ℚ value (place_of k)) → b ≡ false
    go false h = refl
    go true h =
        let z = ≤ℚ-trans (ratio 0 1) (value phase) (value (place_of k)) ((value_defined phase).1 p.number) p.from (h tt) in
        absurd (both (lt (place_of k) zero₃₂) (place_below_zero k l) (le_nlt zero₃₂ (place_of k) tt K ((le_value zero₃₂ (place_of k) tt K).1 z)))

-- the most steps of n turns
abbrev most_steps : SampledTurns → ℕ
most_steps t = 96 + 96 * turns_number t

end_reaches : (t : SampledTurns) (phase : Float) → Spanned t phase → T (le phase (place_of (most_steps t)))
unfolding value of_bits
end_reaches t phase p = subst (λ (x : Float). T (le phase x)) (sym (place_turns t)) (within t p.to)
  where
    within : (t : SampledTurns) → value phase ≤ℚ ratio (turns_number t) 1 → T (le phase (sampled_turns t))
    within Six h = (le_value phase (sampled_turns Six) p.number tt).1 h
    within Eight h = (le_value phase (sampled_turns Eight) p.number tt).1 h

-- of which none is past the places
not_past : (t : SampledTurns) → most_steps t ≤ 864
not_past Six = lit≤ tt
not_past Eight = lit≤ tt

-- ---- THE STEPS at a phase of the turns. The search may begin at any count up to 96, and has to go as far as 864.
search_steps : (t : SampledTurns) (phase : Float) (n k : ℕ) → k < 96 → 863 ≤ n + k → Spanned t phase → Steps (turns_number t) phase (suc (full_from phase n k))
search_steps t phase n k s e p =
    record {
      some = one r;
      reached = le_nlt phase (place_of (suc r)) p.number (place_finite (suc r) few) (subst T (sym f.reaches) tt);
      first = λ j a b. nle_lt phase (place_of j) p.number (place_finite j (inside j r b few)) (go j b (leb (suc k) j) (leb→le (suc k) j) (nleb→lt (suc k) j));
      least = least (leb 96 (suc r)) (leb→le 96 (suc r)) (nleb→lt 96 (suc r));
      most = f.before;
    }
  where
    r : ℕ
    r = full_from phase n k

    f : Found phase k (most_steps t) r
    f = found phase n k (most_steps t) (omega arith) (omega (arith, not_past t)) (is_true (le phase (place_of (most_steps t))) (end_reaches t phase p))

    few : r < 864
    few = omega (arith, not_past t, f.before)

    one : (r : ℕ) → 1 ≤ suc r
    one r = omega arith

    inside : (j r : ℕ) → j < suc r → r < 864 → j ≤ 864
    inside j r a b = omega arith

    go : (j : ℕ) → j < suc r → (b : Bool) → (T b → k < j) → (T (not b) → j < suc k) → le phase (place_of j) ≡ false
    go j l true h i = f.passed j (h tt) (le_of_suc-le-suc l)
    go j l false h i = let u : j < suc k = i tt in unreached phase j p (omega arith)

    least : (b : Bool) → (T b → 96 ≤ suc r) → (T (not b) → suc r < 96) → 96 ≤ suc r
    least true h i = h tt
    least false h i = absurd (subst T (sym f.reaches ∙ unreached phase (suc r) p (i tt)) tt)

pub steps_at : (t : SampledTurns) (phase : Float) → Spanned t phase → Steps (turns_number t) phase (suc (full_steps phase))
unfolding full_steps
steps_at t phase p = search_steps t phase _ _ (lit< tt) (lit≤ tt) p

-- ---- THE STEPS TO A PLACE from 0 on are its own count
place_spanned : (j : ℕ) → 96 ≤ j → j ≤ 864 → Spanned Eight (place_of j)
unfolding value of_bits
place_spanned j h l =
    record {
      holds = place_fits j;
      number = place_finite j l;
      from = place_above_zero j h l;
      to = subst (λ (x : Float). value (place_of j) ≤ℚ value x) (place_turns Eight) (at_most_later j 864 l (lit≤ tt));
    }

pub steps_to_place : (j : ℕ) → 96 ≤ j → j ≤ 864 → suc (full_steps (place_of j)) ≡ j
steps_to_place j h l = go (leb j k) (leb→le j k) (nleb→lt j k)
  where
    k : ℕ
    k = suc (full_steps (place_of j))

    s : Steps 8 (place_of j) k
    s = steps_at Eight (place_of j) (place_spanned j h l)

    J : T (finite (place_of j))
    J = place_finite j l

    go : (b : Bool) → (T b → j ≤ k) → (T (not b) → k < j) → k ≡ j
    go false a c = absurd (both (lt (place_of k) (place_of j)) (increasing k j (c tt) l) s.reached)
    go true a c =
        elim (eq-or-lt_of_le (a tt)) [
          | inl e ↦
              sym e
          | inr m ↦
              absurd (both (lt (place_of j) (place_of j)) (s.first j (omega arith) m) (le_nlt (place_of j) (place_of j) J J ((le_value (place_of j) (place_of j) J J).1 (≤ℚ-refl (value (place_of j))))))
        ]
