-- A STEP OF THE WALK goes from one position to the next, which lies above it by at most 1/85, or is cut at a phase between the two. Assumes nothing.
use mathlib.Core.Path.{subst}
use mathlib.Core.Bool.{Bool, true, false, cond}
use Prim.Native.Nat.{ℕ, suc, ◌<◌}
use native.Mathlib.Nat.{mul-pos}
use native.Mathlib.Omega.{arith}
use lib.IntN.{pos}
use lib.Dec.{T, lit≤}
use lib.Ieee.{Float, binary32, of_bits, neg, fits, lt, eq}
use lib.Ieee.Scale.{finite}
use Rattle.exact.specs.Fraction.{ratio, whole, ◌-ℚ◌, ◌≤ℚ◌}
use Rattle.exact.specs.Value.{value, Equal}
use Rattle.exact.specs.Binary32.{bits, zero₃₂, one₃₂}
use Rattle.exact.proofs.Order.{parts-≤ℚ, ≤ℚ-trans, equal_at_most, equal_sym, lt_at_most, eq_value}
use Rattle.rounding.proofs.Signs.{difference_monotone}
use Rattle.exact.proofs.Defined.{value_defined}
use Rattle.math.proofs.Nan.{finite_number}
use Rattle.math.specs.Formulas.{min_of}
use Rattle.floor.proofs.Phase.{Phase, from_zero, phase_finite}
use Rattle.settings.specs.declared.SampledTurns.{SampledTurns}
use Rattle.settings.specs.declared.SampledTurns.TheVariants.{Eight}
use Rattle.lfo_shapes.proofs.DrawnPhase.{Spanned, spanned_phase}
use Rattle.walk.specs.Formula.{place_of}
use Rattle.walk.proofs.Places.{place_fits, place_finite, place_start, place_turns, place_phase, at_most_later, next_near}

-- ---- where the longest walk ends
abbrev pub eight₃₂ : Float
eight₃₂ = bits 0x4100_0000

-- ---- A STEP from a place to a phase
pub record Stepped (p q : Float) : Type 0 where
  pub start : T (fits binary32 p)
  pub stop : T (fits binary32 q)
  pub number : T (finite p)
  pub phase : Phase q
  pub lowest : value (neg one₃₂) ≤ℚ value p
  pub order : value p ≤ℚ value q
  pub highest : value q ≤ℚ value eight₃₂
  pub near : value q -ℚ value p ≤ℚ ratio 1 85

-- a full step
pub stepped : (k : ℕ) → k < 864 → Stepped (place_of k) (place_of (suc k))
stepped k h =
    record {
      start = place_fits k;
      stop = place_fits (suc k);
      number = place_finite k (omega arith);
      phase = place_phase (suc k) h;
      lowest = subst (λ (x : Float). value x ≤ℚ value (place_of k)) place_start (at_most_later 0 k (omega arith) (omega arith));
      order = at_most_later k (suc k) (omega arith) h;
      highest = subst (λ (x : Float). value (place_of (suc k)) ≤ℚ value x) (place_turns Eight) (at_most_later (suc k) 864 h (lit≤ tt));
      near = next_near k h;
    }

-- and one that ends sooner
sooner : {p q : Float} (x : Float) → Stepped p q → T (fits binary32 x) → Phase x → value p ≤ℚ value x → value x ≤ℚ value q → Stepped p x
sooner {p} {q} x s f h l u =
    let Q = (value_defined q).1 (phase_finite q s.phase) in
    let P = (value_defined p).1 s.number in
    record {
      start = s.start;
      stop = f;
      number = s.number;
      phase = h;
      lowest = s.lowest;
      order = l;
      highest = ≤ℚ-trans (value x) (value q) (value eight₃₂) Q u s.highest;
      near = ≤ℚ-trans (value x -ℚ value p) (value q -ℚ value p) (ratio 1 85) (mul-pos Q P) (difference_monotone (value x) (value q) (value p) u) s.near;
    }

zero_finite : T (finite zero₃₂)
unfolding of_bits
zero_finite = tt

at_zero : {p q : Float} → Stepped p q → Equal (value q) (value zero₃₂) → Stepped p zero₃₂
unfolding of_bits value fits
at_zero {p} {q} s e =
    sooner zero₃₂ s tt (from_zero tt (parts-≤ℚ (whole (pos 0)) (whole (pos 0)) (lit≤ tt)))
    (≤ℚ-trans (value p) (value q) (value zero₃₂) e.left s.order (equal_at_most e).le) (equal_at_most (equal_sym e)).le

pub cut : {n : SampledTurns} {p q : Float} (x : Float) → Stepped p q → Spanned n x → value p ≤ℚ value x → Stepped p (min_of q x)
unfolding min_of
cut {p = p} {q = q} x s h l =
    let Q = phase_finite q s.phase in
    let X = h.number in
    rw (finite_number q Q, finite_number x X) (go (lt q x) (lt x q) (eq q zero₃₂) (λ t. (lt_at_most x q X Q t).le) (λ t. (eq_value q zero₃₂ Q zero_finite).0 t))
  where
    go : (a b c : Bool) → (T b → value x ≤ℚ value q) → (T c → Equal (value q) (value zero₃₂)) → Stepped p (cond false x (cond false q (cond a q (cond b x (cond c zero₃₂ q)))))
    go true b c i j = s
    go false true c i j = sooner x s h.holds (spanned_phase h) l (i tt)
    go false false true i j = at_zero s (j tt)
    go false false false i j = s

-- ---- where the walk starts
pub first_phase : Phase (neg one₃₂)
first_phase = subst Phase place_start (place_phase 0 (lit≤ tt))
