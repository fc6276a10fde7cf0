-- ONE STEP TOWARD A TARGET, over fractions: level + held most (target - level). It is the larger of level - most and the smaller of level + most and the
-- target, so that two such steps end no further apart than their targets, or than their levels and limits together; and it stays where the level and the
-- target lie. Assumes nothing.
use mathlib.Core.Path.{◌≡◌, ap}
use mathlib.Core.Logic.{inl, inr}
use Prim.Native.Nat.{ℕ, ◌+◌, ◌*◌, ◌≤◌}
use native.Mathlib.Nat.{mul-pos, mul-le-mul_right}
use native.Mathlib.Omega.{arith}
use Rattle.exact.specs.Fraction.{Fraction, Defined, ratio, negℚ, minℚ, ◌+ℚ◌, ◌-ℚ◌}
use Rattle.exact.specs.Value.{Equal, Within}
use Rattle.exact.proofs.Close.{ring, Close, times}
use Rattle.exact.proofs.Parts.{num⁺, num⁻, neg⁺, neg⁻, sum_parts, difference_parts}
use Rattle.exact.proofs.Order.{≤ℚ-parts, parts-≤ℚ, AtMost, at_most_refl, at_most_trans, at_most_equal, parts_equal, equal_at_most, equal_sym, within_close, close_within}
use Rattle.exact.proofs.Inequality.{minus_at_most}
use Rattle.exact.proofs.Lipschitz.{IsMin, IsMax, upward, downward, before_best, best_within, min_is_min, max_is_max}
use Rattle.walk.specs.Exact.{heldℚ}

-- ---- sums
pub plus_at_most : {a b : Fraction} (c : Fraction) → Defined c → AtMost a b → AtMost (c +ℚ a) (c +ℚ b)
plus_at_most {a} {b} c C h =
    record {
      left = mul-pos C h.left;
      right = mul-pos C h.right;
      le =
          parts-≤ℚ (c +ℚ a) (c +ℚ b)
          (core (num⁺ a) (num⁻ a) a.den (num⁺ b) (num⁻ b) b.den (num⁺ c) (num⁻ c) c.den (num⁺ (c +ℚ a)) (num⁻ (c +ℚ a)) (num⁺ (c +ℚ b)) (num⁻ (c +ℚ b)) (sum_parts c a) (sum_parts c b) (≤ℚ-parts a b h.le));
    }
  where
    core : (P N D Q M E R L F X Y Z W : ℕ) → X + (L * D + N * F) ≡ Y + (R * D + P * F) → Z + (L * E + M * F) ≡ W + (R * E + Q * F) → P * E + M * D ≤ Q * D + N * E
        → X * (F * E) + W * (F * D) ≤ Z * (F * D) + Y * (F * E)
    core P N D Q M E R L F X Y Z W i j h =
        simp ring
        (omega (
          arith,
          simp ring at (ap (λ (x : ℕ). x * (F * E)) i),
          simp ring at (ap (λ (x : ℕ). x * (F * D)) j),
          simp ring at (mul-le-mul_right (F * F) h),
        ))

pub plus_within : {a A b B : Fraction} {r t s : ℕ} → Within a A (ratio r s) → Within b B (ratio t s) → Within (a +ℚ b) (A +ℚ B) (ratio (r + t) s)
plus_within {a} {A} {b} {B} {r} {t} {s} h k =
    close_within (mul-pos h.left k.left) (mul-pos h.right k.right) h.bound
    (core (num⁺ a) (num⁻ a) a.den (num⁺ A) (num⁻ A) A.den (num⁺ b) (num⁻ b) b.den (num⁺ B) (num⁻ B) B.den (num⁺ (a +ℚ b)) (num⁻ (a +ℚ b)) (num⁺ (A +ℚ B)) (num⁻ (A +ℚ B))
    (sum_parts a b) (sum_parts A B) (within_close h) (within_close k))
  where
    core : (p n d P N D q m e Q M E x y X Y : ℕ) → x + (n * e + m * d) ≡ y + (p * e + q * d) → X + (N * E + M * D) ≡ Y + (P * E + Q * D)
        → Close ((p * D + N * d) * s) ((n * D + P * d) * s) (r * (d * D)) → Close ((q * E + M * e) * s) ((m * E + Q * e) * s) (t * (e * E))
        → Close ((x * (D * E) + Y * (d * e)) * s) ((y * (D * E) + X * (d * e)) * s) ((r + t) * (d * e * (D * E)))
    core p n d P N D q m e Q M E x y X Y i j h k =
        simp ring
        (omega (
          arith,
          simp ring at (ap (λ (z : ℕ). z * (D * E * s)) i),
          simp ring at (ap (λ (z : ℕ). z * (d * e * s)) j),
          simp ring at (times (e * E) h),
          simp ring at (times (d * D) k),
        ))

-- a + (b - a) is b
pub there : (a b : Fraction) → Defined a → Defined b → Equal (a +ℚ (b -ℚ a)) b
there a b A B =
    parts_equal (mul-pos A (mul-pos B A)) B
    (core (num⁺ b) (num⁻ b) b.den (num⁺ a) (num⁻ a) a.den (num⁺ (b -ℚ a)) (num⁻ (b -ℚ a)) (num⁺ (a +ℚ (b -ℚ a))) (num⁻ (a +ℚ (b -ℚ a))) (difference_parts b a) (sum_parts a (b -ℚ a)))
  where
    core : (P N D R L F X Y Z W : ℕ) → X + (N * F + R * D) ≡ Y + (P * F + L * D) → Z + (L * (D * F) + Y * F) ≡ W + (R * (D * F) + X * F)
        → Z * D + N * (F * (D * F)) ≡ P * (F * (D * F)) + W * D
    core P N D R L F X Y Z W i j = simp ring (omega (arith, simp ring at (ap (λ (z : ℕ). z * (D * F)) i), simp ring at (ap (λ (z : ℕ). z * D) j)))

-- a number that is not negative, added and taken away
pub raised : (a b : Fraction) → Defined a → AtMost (ratio 0 1) b → AtMost a (a +ℚ b)
raised a b A h =
    record {
      left = A;
      right = mul-pos A h.right;
      le = parts-≤ℚ a (a +ℚ b) (core (num⁺ a) (num⁻ a) a.den (num⁺ b) (num⁻ b) b.den (num⁺ (a +ℚ b)) (num⁻ (a +ℚ b)) (sum_parts a b) (≤ℚ-parts (ratio 0 1) b h.le));
    }
  where
    core : (P N D Q M E X Y : ℕ) → X + (N * E + M * D) ≡ Y + (P * E + Q * D) → 0 * E + M * 1 ≤ Q * 1 + 0 * E → P * (D * E) + Y * D ≤ X * D + N * (D * E)
    core P N D Q M E X Y i h = simp ring (omega (arith, simp ring at (ap (λ (z : ℕ). z * D) i), simp ring at (mul-le-mul_right (D * D) h)))

pub lowered : (a b : Fraction) → Defined a → AtMost (ratio 0 1) b → AtMost (a +ℚ negℚ b) a
lowered a b A h = record { left = mul-pos A h.right; right = A; le = minus_at_most a b a h.right (raised a b A h).le }

pub negate_at_most : {a b : Fraction} → AtMost a b → AtMost (negℚ b) (negℚ a)
negate_at_most {a} {b} h = record { left = h.right; right = h.left; le = parts-≤ℚ (negℚ b) (negℚ a) (rw (neg⁺ a.num, neg⁻ a.num, neg⁺ b.num, neg⁻ b.num) (core (num⁺ a) (num⁻ a) a.den (num⁺ b) (num⁻ b) b.den (≤ℚ-parts a b h.le))) }
  where
    core : (P N D Q M E : ℕ) → P * E + M * D ≤ Q * D + N * E → M * D + P * E ≤ N * E + Q * D
    core P N D Q M E h = omega arith

-- ---- a number added to a minimum, and to a maximum
plus_min : {m a b : Fraction} (c : Fraction) → Defined c → IsMin m a b → IsMin (c +ℚ m) (c +ℚ a) (c +ℚ b)
plus_min c C i =
    record {
      left = plus_at_most c C i.left;
      right = plus_at_most c C i.right;
      reached = elim i.reached [ inl r ↦ inl (plus_at_most c C r) | inr r ↦ inr (plus_at_most c C r) ];
    }

plus_max : {m a b : Fraction} (c : Fraction) → Defined c → IsMax m a b → IsMax (c +ℚ m) (c +ℚ a) (c +ℚ b)
plus_max c C i =
    record {
      left = plus_at_most c C i.left;
      right = plus_at_most c C i.right;
      reached = elim i.reached [ inl r ↦ inl (plus_at_most c C r) | inr r ↦ inr (plus_at_most c C r) ];
    }

-- the smaller of level + most and level + move, and the step as a maximum
step_min : (l m x : Fraction) → Defined l → Defined m → Defined x → IsMin (l +ℚ minℚ m x) (l +ℚ m) (l +ℚ x)
step_min l m x L M X = plus_min l L (min_is_min m x M X)

step_max : (l m x : Fraction) → Defined l → Defined m → Defined x → IsMax (l +ℚ heldℚ m x) (l +ℚ negℚ m) (l +ℚ minℚ m x)
unfolding heldℚ
step_max l m x L M X = plus_max l L (max_is_max (negℚ m) (minℚ m x) M (mul-pos M X))

-- ---- THE STEP IS 1-LIPSCHITZ
pub step_within : (l x m L X M q : Fraction) → Defined l → Defined x → Defined m → Defined L → Defined X → Defined M
    → Within (l +ℚ x) (L +ℚ X) q → Within (l +ℚ m) (L +ℚ M) q → Within (l +ℚ negℚ m) (L +ℚ negℚ M) q → Within (l +ℚ heldℚ m x) (L +ℚ heldℚ M X) q
step_within l x m L X M q dl dx dm DL DX DM i j k =
    best_within downward (step_max l m x dl dm dx) (step_max L M X DL DM DX) k (best_within upward (step_min l m x dl dm dx) (step_min L M X DL DM DX) j i)

-- a move that the limit does not reach
pub held_inside : {m x : Fraction} → AtMost (negℚ m) x → AtMost x m → Equal (heldℚ m x) x
unfolding heldℚ
held_inside {m} {x} h k =
    let M = h.left in
    let X = h.right in
    let i = max_is_max (negℚ m) (minℚ m x) M (mul-pos M X) in
    let j = min_is_min m x M X in
    at_most_equal (before_best downward i h j.right) (at_most_trans (before_best upward j k (at_most_refl X)) i.right)

-- the held move lies where the move does, for a limit that is not negative
pub held_range : {m x a b : Fraction} → AtMost (ratio 0 1) m → AtMost a x → AtMost x b → AtMost a (ratio 0 1) → AtMost (ratio 0 1) b → AtMost a (heldℚ m x) × AtMost (heldℚ m x) b
unfolding heldℚ
held_range {m} {x} {a} {b} z h k u v =
    let M = z.right in
    let X = h.right in
    let i = max_is_max (negℚ m) (minℚ m x) M (mul-pos M X) in
    let j = min_is_min m x M X in (
      at_most_trans (before_best upward j (at_most_trans u z) h) i.right,
      before_best downward i (at_most_trans (negate_at_most z) v) (at_most_trans j.right k),
    )

-- ---- THE STEP STAYS where the level and the target lie
pub step_above : {L T M a : Fraction} → AtMost (ratio 0 1) M → AtMost a L → AtMost a T → AtMost a (L +ℚ heldℚ M (T -ℚ L))
step_above {L} {T} {M} z h k =
    let D = mul-pos k.right h.right in
    at_most_trans (before_best upward (step_min L M (T -ℚ L) h.right z.right D) (at_most_trans h (raised L M h.right z)) (at_most_trans k (equal_at_most (equal_sym (there L T h.right k.right)))))
    (step_max L M (T -ℚ L) h.right z.right D).right

pub step_below : {L T M b : Fraction} → AtMost (ratio 0 1) M → AtMost L b → AtMost T b → AtMost (L +ℚ heldℚ M (T -ℚ L)) b
step_below {L} {T} {M} z h k =
    let D = mul-pos k.left h.left in
    before_best downward (step_max L M (T -ℚ L) h.left z.right D) (at_most_trans (lowered L M h.left z) h)
    (at_most_trans (step_min L M (T -ℚ L) h.left z.right D).right (at_most_trans (equal_at_most (there L T h.left k.left)) k))
