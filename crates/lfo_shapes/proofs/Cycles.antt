-- THE SAMPLE OF A CYCLE: for every finite phase from -2 up the index in binary32 is the remainder of the cycle's number by 8, and names the same sample.
-- The quotient by 8, its floor's multiple and the difference are all exact. Assumes nothing.
use mathlib.Core.Path.{◌≡◌, refl, sym, ap, subst, subst₂, ◌∙◌}
use mathlib.Core.Bool.{Bool, true, false, cond}
use Prim.Native.Nat.{ℕ, zero, suc, ◌+◌, ◌-◌, ◌*◌, ◌/◌, ◌%◌, ◌^◌, ◌≤◌, ◌<◌, min}
use native.Mathlib.Nat.{mul-pos, mul-le-mul_right, mul-lt-mul_of_pos_right, mul-div_cancel, div-add-mod', mod-lt, lt_of_le_of_lt, eq_of_mul-eq-mul_right}
use native.Mathlib.Omega.{arith}
use lib.IntN.{ℤ, pos, negsuc, neg_ℤ, ◌-ℤ◌}
use lib.Dec.{T, lit<, lit≤}
use lib.ListN.{get_or}
use lib.Pow.{pow_pos}
use lib.Ieee.{Float, nan, inf, fin, binary32, up, down, of_bits, of_int, round, sum, neg, add, sub, mul, div, lt, to_unsigned, fits}
use lib.Ieee.Fits.{down_pos, div-fits}
use lib.Ieee.Scale.{finite}
use borrow.Author.Tests.{le-ltb}
use Rattle.exact.specs.Fraction.{Fraction, ratio, whole, floorℚ, ◌*ℚ◌, ◌≤ℚ◌}
use Rattle.exact.specs.Value.{value, Equal}
use Rattle.exact.specs.Binary32.{◌⊖◌, ◌⊗◌, ◌⊘◌, half₃₂}
use Rattle.exact.proofs.Parts.{part⁺, part⁻, num⁺, num⁻, neg⁺, neg⁻, times⁺, times⁻, add_parts, abs_parts, OneSided, one_sided, up as nonnegative, down as nonpositive}
use Rattle.exact.proofs.Defined.{value_defined}
use Rattle.exact.proofs.Order.{equal_sym, equal_trans, equal_at_most, ≤ℚ-trans, parts-≤ℚ, parts_equal, equal⁺, equal⁻}
use Rattle.rounding.proofs.Quanta.{quanta_of_equal, equal_of_quanta}
use Rattle.rounding.proofs.Sterbenz.{above, sub_exact}
use Rattle.math.specs.Formulas.{clamp_of}
use Rattle.floor.specs.Formula.{floor_of}
use Rattle.floor.proofs.FloorExact.{floor_fits}
use Rattle.floor.proofs.FloorLaws.{floor_value}
use Rattle.lfo_shapes.specs.Formula.{eight₃₂, samples, sample_of, index_of, sampled_of}
use Rattle.lfo_shapes.specs.Exact.{remainder}
use Rattle.lfo_shapes.proofs.Index.{number, number_is, number_below, named}
use Rattle.exact.proofs.FloorUnique.{floor_equal}
use Rattle.lfo_shapes.proofs.Scaling.{times_power, whole_size, whole_limit, eighth}

-- ---- the number that an index names
pub number_of : (x : Float) (r : ℕ) → r ≤ 7 → Equal (value x) (whole (pos r)) → number x ≡ r
number_of nan r h e = absurd ((value_defined nan).0 e.left)
number_of (inf s) r h e = absurd ((value_defined (inf s)).0 e.left)
number_of (fin true m e) r h g = number_below m e ∙ sym (none (down e) (down_pos e) (unfold value in subst (λ (p : ℕ). p * 1 ≡ r * down e) (neg⁺ (pos (m * up e))) (equal⁺ g)))
  where
    none : (d : ℕ) → 0 < d → 0 * 1 ≡ r * d → r ≡ 0
    none d D h = eq_of_mul-eq-mul_right d D r 0 (omega arith)
number_of (fin false m e) r h g =
    let n = whole_size false m e r g in
    number_is m e
    ∙ ap (λ (t : Bool). cond t 7 (min (m * up e / down e) (2 ^ 64 - 1))) (le-ltb (7 * 1 * down e) (m * up e * 1) (most (m * up e) (down e) n))
    ∙ ap (λ (q : ℕ). min q (2 ^ 64 - 1)) (ap (λ (a : ℕ). a / down e) n ∙ mul-div_cancel r (down_pos e))
    ∙ cut r h
  where
    most : (a d : ℕ) → a ≡ r * d → a * 1 ≤ 7 * 1 * d
    most a d n = omega (arith, mul-le-mul_right d h)

    cut : (q : ℕ) → q ≤ 7 → min q (2 ^ 64 - 1) ≡ q
    cut q h = omega arith

-- ---- the index of a cycle n
times_whole : {a : Fraction} (v q : ℕ) → Equal a (whole (pos q)) → Equal (ratio v 1 *ℚ a) (whole (pos (q * v)))
times_whole {a} v q e =
    parts_equal (mul-pos (lit< tt) e.left) (lit< tt)
    (rw (times⁺ v a.num, times⁻ v a.num) (go (num⁺ a) (num⁻ a) a.den (equal⁺ e) (equal⁻ e)))
  where
    go : (P N D : ℕ) → P * 1 ≡ q * D → N * 1 ≡ 0 * D → v * P * 1 + 0 * (1 * D) ≡ q * v * (1 * D) + v * N * 1
    go P N D h k = omega (arith, ap (λ (x : ℕ). v * x) h, ap (λ (x : ℕ). v * x) k)

natural : (q : ℕ) → ratio 0 1 ≤ℚ whole (pos q)
natural q = parts-≤ℚ (ratio 0 1) (whole (pos q)) (none q)
  where
    none : (q : ℕ) → 0 * 1 + 0 * 1 ≤ q * 1 + 0 * 1
    none q = omega arith

eights : (c : Float) (n : ℕ) → T (fits binary32 c) → Equal (value c) (whole (pos n)) → Equal (value (floor_of (c ⊘ eight₃₂) ⊗ eight₃₂)) (whole (pos (n / 8 * 8)))
unfolding of_bits
eights c n f e =
    let q = c ⊘ eight₃₂ in
    let i = eighth c n f e in
    let F = floor_of q in
    let v : Equal (value F) (whole (pos (n / 8))) = subst (λ (z : ℤ). Equal (value F) (whole z)) (floor_equal i) (floor_value q (div-fits binary32 c eight₃₂) ((value_defined q).0 i.left)) in
    let low = ≤ℚ-trans (ratio 0 1) (whole (pos (n / 8))) (value F) (lit< tt) (natural (n / 8)) (equal_at_most (equal_sym v)).le in
    equal_trans
    (times_power F 3 (n / 8) (floor_fits q (div-fits binary32 c eight₃₂)) ((value_defined F).0 v.left) low (equal_at_most v).le (lt_of_le_of_lt (below n) (whole_limit c n f e)))
    (times_whole 8 (n / 8) v)
  where
    below : (n : ℕ) → n / 8 * 8 ≤ n
    below n = omega arith

index_exact : (c : Float) (n : ℕ) → T (fits binary32 c) → Equal (value c) (whole (pos n)) → Equal (value (index_of c)) (whole (pos (n % 8)))
unfolding index_of
index_exact c n f e =
    let U = 2 ^ 149 in
    let G = floor_of (c ⊘ eight₃₂) ⊗ eight₃₂ in
    let g = eights c n f e in
    let r : n % 8 * 2 ^ 149 < 2 ^ 128 * 2 ^ 149 = mul-lt-mul_of_pos_right (large (n % 8) (2 ^ 128) (mod-lt n (lit< tt)) (lit≤ tt)) (pow_pos 149) in
    equal_of_quanta U (c ⊖ G) (whole (pos (n % 8))) (n * U + 0) (0 + n / 8 * 8 * U) (pow_pos 149) (lit< tt)
    (sub_exact binary32 c G (n * U) 0 (n / 8 * 8 * U) 0 (n % 8) 149
    (quanta_of_equal U c (whole (pos n)) (n * U) 0 e (quantum n U)) (quanta_of_equal U G (whole (pos (n / 8 * 8))) (n / 8 * 8 * U) 0 g (quantum (n / 8 * 8) U))
    (above (apart n U)) (small (n % 8) (mod-lt n (lit< tt))) r)
    (left n U)
  where
    quantum : (n U : ℕ) → n * U + 0 * 1 ≡ 0 * U + n * U * 1
    quantum n U = omega arith

    apart : (n U : ℕ) → n * U + 0 ≡ 0 + n / 8 * 8 * U + n % 8 * U
    apart n U = omega (arith, ap (λ (x : ℕ). x * U) (div-add-mod' n 8))

    left : (n U : ℕ) → n % 8 * U + (0 + n / 8 * 8 * U) * 1 ≡ 0 * U + (n * U + 0) * 1
    left n U = omega (arith, ap (λ (x : ℕ). x * U) (div-add-mod' n 8))

    small : (r : ℕ) → r < 8 → r < 16777216
    small r h = omega arith

    large : (r M : ℕ) → r < 8 → 8 ≤ M → r < M
    large r M h l = omega arith

-- ---- THE REMAINDER BY 8
remainder_is : (n : ℕ) → remainder (pos n) ≡ n % 8
remainder_is n =
    let q = n / 8 * 8 in
    let x = pos n -ℤ pos q in
    abs_parts x ∙ go (part⁺ x) (part⁻ x) q (one_sided x) (subst₂ (λ (a b : ℕ). part⁺ x + (0 + a) ≡ part⁻ x + (n + b)) (neg⁻ (pos q)) (neg⁺ (pos q)) (add_parts (pos n) (neg_ℤ (pos q)))) (div-add-mod' n 8)
  where
    go : (p m q : ℕ) → OneSided p m → p + (0 + q) ≡ m + (n + 0) → q + n % 8 ≡ n → p + m ≡ n % 8
    go p m q (nonnegative e) h k = omega arith
    go p m q (nonpositive e) h k = omega arith

-- ---- THE SAMPLE
floored : (p : Float) → T (finite p) → floor_of p ≡ of_int binary32 (floorℚ (value p))
unfolding floor_of
floored nan t = absurd t
floored (inf s) t = absurd t
floored (fin s m e) t = refl

-- of the cycles -1 and -2, which are computed
negative_cycle : (n : ℕ) → n ≤ 1 → sample_of (index_of (of_int binary32 (negsuc n))) ≡ get_or samples (remainder (negsuc n)) half₃₂
unfolding sample_of index_of samples clamp_of floor_of to_unsigned of_int of_bits value add sub mul div neg lt round sum
negative_cycle zero h = refl
negative_cycle (suc zero) h = refl
negative_cycle (suc (suc n)) h = absurd (over h)
  where
    over : suc (suc n) ≤ 1 → ⊥
    over h = omega arith

-- a cycle from -2 up
pub data Cycle (z : ℤ) : Type 0 where
  natural_cycle : (n : ℕ) → z ≡ pos n → Cycle z
  before_zero : (n : ℕ) → n ≤ 1 → z ≡ negsuc n → Cycle z

pub sampled_is : (p : Float) → T (fits binary32 p) → T (finite p) → Cycle (floorℚ (value p)) → sampled_of p ≡ get_or samples (remainder (floorℚ (value p))) half₃₂
unfolding sampled_of
sampled_is p f t (before_zero n h e) =
    subst (λ (z : ℤ). sample_of (index_of (floor_of p)) ≡ get_or samples (remainder z) half₃₂) (sym e)
    (ap (λ (c : Float). sample_of (index_of c)) (floored p t ∙ ap (of_int binary32) e) ∙ negative_cycle n h)
sampled_is p f t (natural_cycle n e) =
    let c = floor_of p in
    let v : Equal (value c) (whole (pos n)) = subst (λ (z : ℤ). Equal (value c) (whole z)) e (floor_value p f t) in
    subst (λ (z : ℤ). sample_of (index_of c) ≡ get_or samples (remainder z) half₃₂) (sym e)
    (sym (named (index_of c) (n % 8) (number_of (index_of c) (n % 8) (most (n % 8) (mod-lt n (lit< tt))) (index_exact c n (floor_fits p f) v))) ∙ ap (λ (k : ℕ). get_or samples k half₃₂) (sym (remainder_is n)))
  where
    most : (r : ℕ) → r < 8 → r ≤ 7
    most r h = omega arith
