-- THE CLAMP TO 0..1 in floats and exactly brings the two no further apart, and its exact value lies from 0 to 1. Assumes nothing.
use mathlib.Core.Path.{◌≡◌, refl}
use mathlib.Core.Bool.{Bool, true, false, not, cond}
use Prim.Native.Nat.{ℕ, suc, ◌+◌, ◌*◌, ◌≤◌, ◌<◌}
use native.Mathlib.Nat.{mul-le-mul_right}
use native.Mathlib.Omega.{arith}
use lib.IntN.{ℤ, pos, negsuc}
use lib.Signed.{lt_z}
use lib.Dec.{T}
use lib.Ieee.{Float, fin, lt}
use Rattle.exact.specs.Fraction.{Fraction, smaller, larger, clamp_unitℚ}
use Rattle.exact.proofs.Close.{Close}
use Rattle.exact.proofs.Parts.{part⁺, part⁻, num⁺, num⁻, lt_z_parts, nlt_z_parts}
use Rattle.rounding.proofs.Operations.{Quanta}
use Rattle.rounding.proofs.Comparison.{lt_quanta, nlt_quanta}
use Rattle.rounding.proofs.Analyser.{Near, Lower, Upper, clamp_unit}

-- k - k' is x - x' clamped between 0 and O
data Held (x x' O k k' : ℕ) : Type 0 where
  low : x ≤ x' → k ≡ 0 → k' ≡ 0 → Held x x' O k k'
  high : x' + O ≤ x → k ≡ O → k' ≡ 0 → Held x x' O k k'
  mid : x' ≤ x → x ≤ x' + O → k ≡ x → k' ≡ x' → Held x x' O k k'

no_further : (x x' O k k' A A' K K' E : ℕ) → Close (x + A') (x' + A) E → Held x x' O k k' → Held A A' O K K' → Close (k + K') (k' + K) E
no_further x x' O k k' A A' K K' E w (low a b c) (low d e f) = omega arith
no_further x x' O k k' A A' K K' E w (low a b c) (high d e f) = omega arith
no_further x x' O k k' A A' K K' E w (low a b c) (mid d g e f) = omega arith
no_further x x' O k k' A A' K K' E w (high a b c) (low d e f) = omega arith
no_further x x' O k k' A A' K K' E w (high a b c) (high d e f) = omega arith
no_further x x' O k k' A A' K K' E w (high a b c) (mid d g e f) = omega arith
no_further x x' O k k' A A' K K' E w (mid a h b c) (low d e f) = omega arith
no_further x x' O k k' A A' K K' E w (mid a h b c) (high d e f) = omega arith
no_further x x' O k k' A A' K K' E w (mid a h b c) (mid d g e f) = omega arith

-- multiplied out
held_times : (x x' O k k' D : ℕ) → Held x x' O k k' → Held (x * D) (x' * D) (O * D) (k * D) (k' * D)
held_times x x' O k k' D (low a b c) = low (mul-le-mul_right D a) (nought D b) (nought D c)
  where
    nought : {k : ℕ} (D : ℕ) → k ≡ 0 → k * D ≡ 0
    nought {k} D e = rw e (omega arith)
held_times x x' O k k' D (high a b c) = high (omega (arith, mul-le-mul_right D a)) (rw b refl) (rw c (omega arith))
held_times x x' O k k' D (mid a b c d) = mid (mul-le-mul_right D a) (omega (arith, mul-le-mul_right D b)) (rw c refl) (rw d refl)

-- ---- the float
record HeldFloat (U : ℕ) (z : Float) (p n : ℕ) : Type 0 where
  plus : ℕ
  minus : ℕ
  quanta : Quanta U z plus minus
  held : Held p n U plus minus

float_held : (U : ℕ) (x : Float) (p n : ℕ) → 0 < U → Quanta U x p n → HeldFloat U (clamp_unit x) p n
float_held U x p n P h =
    go (lt x (fin false 0 (pos 0))) (lt (fin false 1 (pos 0)) x)
    (lt_quanta U x (fin false 0 (pos 0)) p n 0 0 P h (nought U)) (nlt_quanta U x (fin false 0 (pos 0)) p n 0 0 h (nought U))
    (lt_quanta U (fin false 1 (pos 0)) x U 0 p n P (one U) h) (nlt_quanta U (fin false 1 (pos 0)) x U 0 p n (one U) h)
  where
    nought : (U : ℕ) → 0 * 1 * U + 0 * 1 ≡ 0 * 1
    nought U = omega arith

    one : (U : ℕ) → 1 * 1 * U + 0 * 1 ≡ U * 1
    one U = omega arith

    go : (a b : Bool) → (T a → p + 0 < 0 + n) → (T (not a) → 0 + n ≤ p + 0) → (T b → U + n < p + 0) → (T (not b) → p + 0 ≤ U + n)
        → HeldFloat U (cond a (fin false 0 (pos 0)) (cond b (fin false 1 (pos 0)) x)) p n
    go true b i j u v = let w = i tt in record { plus = 0; minus = 0; quanta = nought U; held = low (omega arith) refl refl }
    go false true i j u v = let w = u tt in record { plus = U; minus = 0; quanta = one U; held = high (omega arith) refl refl }
    go false false i j u v = let w = j tt in let y = v tt in record { plus = p; minus = n; quanta = h; held = mid (omega arith) (omega arith) refl refl }

-- ---- the fraction: over its own denominator
exact_held : (z : ℤ) (d : ℕ) → Held (part⁺ z) (part⁻ z) d (part⁺ (smaller (larger z (pos 0)) (pos d))) (part⁻ (smaller (larger z (pos 0)) (pos d)))
exact_held (negsuc n) d = go (lt_z (pos d) (pos 0)) (lt_z_parts (pos d) (pos 0))
  where
    none : (d : ℕ) → d + 0 < 0 + 0 → ⊥
    none d h = omega arith

    go : (b : Bool) → (T b → d + 0 < 0 + 0) → Held 0 (suc n) d (part⁺ (cond b (pos d) (pos 0))) (part⁻ (cond b (pos d) (pos 0)))
    go true u = absurd (none d (u tt))
    go false u = low (omega arith) refl refl
exact_held (pos n) d = above (lt_z (pos n) (pos 0)) (lt_z_parts (pos n) (pos 0))
  where
    none : (n : ℕ) → n + 0 < 0 + 0 → ⊥
    none n h = omega arith

    below : (b : Bool) → (T b → d + 0 < n + 0) → (T (not b) → n + 0 ≤ d + 0) → Held n 0 d (part⁺ (cond b (pos d) (pos n))) (part⁻ (cond b (pos d) (pos n)))
    below true u v = let w = u tt in high (omega arith) refl refl
    below false u v = let w = v tt in mid (omega arith) (omega arith) refl refl

    above : (a : Bool) → (T a → n + 0 < 0 + 0) → Held n 0 d (part⁺ (smaller (cond a (pos 0) (pos n)) (pos d))) (part⁻ (smaller (cond a (pos 0) (pos n)) (pos d)))
    above true i = absurd (none n (i tt))
    above false i = below (lt_z (pos d) (pos n)) (lt_z_parts (pos d) (pos n)) (nlt_z_parts (pos d) (pos n))

pub clamp_near : (U : ℕ) (x : Float) (A : Fraction) (e : ℕ) → 0 < U → Near U x A e → Near U (clamp_unit x) (clamp_unitℚ A) e
clamp_near U x A e P h =
    let q = float_held U x h.plus h.minus P h.quanta in
    let d = A.den in
    record {
      plus = q.plus;
      minus = q.minus;
      quanta = q.quanta;
      close =
          no_further (h.plus * d) (h.minus * d) (U * d) (q.plus * d) (q.minus * d) (num⁺ A * U) (num⁻ A * U) (num⁺ (clamp_unitℚ A) * U) (num⁻ (clamp_unitℚ A) * U) (e * d) h.close
          (held_times h.plus h.minus U q.plus q.minus d q.held) (rw (swap U d) (held_times (num⁺ A) (num⁻ A) d (num⁺ (clamp_unitℚ A)) (num⁻ (clamp_unitℚ A)) U (exact_held A.num d)));
    }
  where
    swap : (U d : ℕ) → U * d ≡ d * U
    swap U d = omega arith

-- ---- its range
pub unit_lower : (U : ℕ) (A : Fraction) → Lower U (clamp_unitℚ A) (pos 0)
unit_lower U A = go (exact_held A.num A.den)
  where
    go : {p n k k' : ℕ} → Held p n A.den k k' → 0 * A.den + k' * U ≤ k * U + 0 * A.den
    go {p} {n} {k} {k'} (low a b c) = rw (b, c) (omega arith)
    go {p} {n} {k} {k'} (high a b c) = rw (b, c) (omega arith)
    go {p} {n} {k} {k'} (mid a b c d) = rw (c, d) (omega (arith, mul-le-mul_right U a))

pub unit_upper : (U : ℕ) (A : Fraction) → Upper U (clamp_unitℚ A) (pos U)
unit_upper U A = go (exact_held A.num A.den)
  where
    go : {p n k k' : ℕ} → Held p n A.den k k' → k * U + 0 * A.den ≤ U * A.den + k' * U
    go {p} {n} {k} {k'} (low a b c) = rw (b, c) (omega arith)
    go {p} {n} {k} {k'} (high a b c) = rw (b, c) (omega arith)
    go {p} {n} {k} {k'} (mid a b c d) = rw (c, d) (omega (arith, mul-le-mul_right U b))
