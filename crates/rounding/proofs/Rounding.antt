-- ONE ROUNDING COSTS AT MOST HALF A UNIT IN THE LAST PLACE. `round f s a c` is the float of the format f that is nearest to a / c.
-- A quantum is the format's smallest positive value, and 2 ^ low f quanta are 1. `grid f a c` (lib.Ieee.Scale) is the rounded value in
-- quanta, and `drop` is how many binary digits of the exact one are lost, so that a unit in the last place is 2 ^ drop quanta.
-- Three forms: by the unit in the last place, by the binade of a / c, and relative to a / c. All over the format. Assumes nothing.
use mathlib.Core.Path.{◌≡◌, refl, sym, ap, subst, ◌∙◌}
use mathlib.Core.Logic.{inl, inr, ◌⊎◌}
use mathlib.Core.Bool.{Bool, not}
use Prim.Native.Nat.{ℕ, zero, suc, ◌+◌, ◌-◌, ◌*◌, ◌/◌, ◌%◌, ◌^◌, ◌≤◌, ◌<◌, compare, Ordering}
use native.Mathlib.Nat.{le_refl, le_trans, le_of_eq, lt_of_lt_of_le, eq-or-lt_of_le, le_of_suc-le-suc, mul-le-mul_left, mul-le-mul_right, mul-lt-mul_of_pos_right, lt_of_mul-lt-mul_right, le_of_mul-le-mul_right, div-add-mod', mod-lt, mul-pos, le-div_iff_mul-le, div-lt_iff_lt-mul, pow-suc}
use native.Mathlib.Omega.{arith}
use lib.Dec.{T, is_le, compare_is_eq, eqb, leb→le, nleb→lt, eqb→eq, eqb_refl}
use lib.Arith.{lt_of_le-ne}
use lib.Pow.{pow-add, pow_pos, pow_mono, pow-lt}
use lib.Ieee.{Float, Format, prec, emax, low, nearest, size, round}
use lib.Ieee.Digits.{size-le, size_reaches}
use lib.Ieee.Fits.{two, two-le_pos, round_is}
use lib.Ieee.Exact.{HasValue, units_val}
use lib.Ieee.Nearest.{closest}
use lib.Ieee.Order.{drop, kept}
use lib.Ieee.Scale.{grid, overflow}
use Rattle.exact.proofs.Close.{Close, times, loosen}

-- ---- the nearest whole number to a quotient is at most a half away
abbrev Compared : Ordering → ℕ → ℕ → Type 0
Compared Ordering.lt a b = a < b
Compared Ordering.eq a b = a ≡ b
Compared Ordering.gt a b = b < a

compared : (a b : ℕ) → Compared (compare a b) a b
compared a b = go (compare a b) (leb→le a b) (nleb→lt a b) (eqb→eq a b) (λ (e : a ≡ b). subst (λ (x : ℕ). T (eqb a x)) e (eqb_refl a))
  where
    go : (o : Ordering) → (T (is_le o) → a ≤ b) → (T (not (is_le o)) → b < a) → (T (compare_is_eq o) → a ≡ b) → (a ≡ b → T (compare_is_eq o)) → Compared o a b
    go Ordering.lt h k e n = lt_of_le-ne (h tt) n
    go Ordering.eq h k e n = e tt
    go Ordering.gt h k e n = k tt

bit : (q b : ℕ) → q % 2 * b ≤ 1 * b
bit q b = mul-le-mul_right b (le_one q)
  where
    le_one : (q : ℕ) → q % 2 ≤ 1
    le_one q = omega arith

nearest_half : (q r b : ℕ) (o : Ordering) → Compared o (r * 2) b → r < b → Close (nearest q o * b * 2) ((q * b + r) * 2) b
nearest_half q r b Ordering.lt c h = omega arith
nearest_half q r b Ordering.eq c h = omega (arith, bit q b)
nearest_half q r b Ordering.gt c h = omega arith

closest_half : (a b : ℕ) → 0 < b → Close (closest a b * b * 2) (a * 2) b
closest_half a b B =
    subst (λ (x : ℕ). Close (closest a b * b * 2) (x * 2) b) (div-add-mod' a b)
    (nearest_half (a / b) (a % b) b (compare (a % b * 2) b) (compared (a % b * 2) b) (mod-lt a B))

-- ---- HALF A UNIT IN THE LAST PLACE: |grid - a / c| ≤ 2 ^ drop / 2, in quanta
pub half_ulp : (f : Format) (a c : ℕ) → 0 < c → Close (grid f a c * c * 2) (a * 2 ^ low f * 2) (c * 2 ^ drop (prec f) (a * 2 ^ low f) c)
half_ulp f a c C =
    let n = a * 2 ^ low f in
    let t = 2 ^ drop (prec f) n c in
    regroup (kept (prec f) n c) c t n (closest_half n (c * t) (mul-pos C (pow_pos (drop (prec f) n c))))
  where
    regroup : (q c t n : ℕ) → Close (q * (c * t) * 2) (n * 2) (c * t) → Close (q * t * c * 2) (n * 2) (c * t)
    regroup q c t n h = omega arith

-- ---- BY THE BINADE: a fraction of at most 2 ^ (prec + k) quanta is moved by at most half of 2 ^ k quanta
fewer : (z p k : ℕ) → z ≤ p + k → z - p ≤ k
fewer z p k h = omega arith

below_top : (f : Format) (a c k : ℕ) → 0 < c → a * 2 ^ low f < 2 ^ (prec f + k) * c → Close (grid f a c * c * 2) (a * 2 ^ low f * 2) (c * 2 ^ k)
below_top f a c k C h =
    let n = a * 2 ^ low f in
    loosen (half_ulp f a c C)
    (mul-le-mul_left c (pow_mono (fewer (size (n / c)) (prec f) k (size-le (n / c) (prec f + k) ((div-lt_iff_lt-mul C).1 h)))))

-- what is a whole number of units, and less than one unit away, is the same
tight : (q m u : ℕ) → 0 < u → Close (q * u * 2) (m * u * 2) u → q ≡ m
tight q m u P h =
    let x : 2 * q ≤ 2 * m + 1 = le_of_mul-le-mul_right (omega arith) P in
    let y : 2 * m ≤ 2 * q + 1 = le_of_mul-le-mul_right (omega arith) P in
    omega arith

-- at 2 ^ (prec + k) quanta itself one digit more may be dropped, and then nothing is lost
at_top : (f : Format) (a c k : ℕ) → 0 < c → a * 2 ^ low f ≡ 2 ^ (prec f + k) * c → Close (grid f a c * c * 2) (a * 2 ^ low f * 2) (c * 2 ^ k)
at_top f a c k C e = go (eq-or-lt_of_le most)
  where
    n : ℕ
    n = a * 2 ^ low f

    P : ℕ
    P = 2 ^ (prec f - 1)

    below : 2 ^ (prec f + k) * c < 2 ^ suc (prec f + k) * c
    below = mul-lt-mul_of_pos_right (pow-lt (le_refl (suc (prec f + k)))) C

    one_more : (z p k : ℕ) → z ≤ suc (p + k) → z - p ≤ suc k
    one_more z p k h = omega arith

    most : drop (prec f) n c ≤ suc k
    most = one_more (size (n / c)) (prec f) k (size-le (n / c) (suc (prec f + k)) ((div-lt_iff_lt-mul C).1 (subst (λ (z : ℕ). z < 2 ^ suc (prec f + k) * c) (sym e) below)))

    shift : (p k : ℕ) → 0 < p → p + k ≡ p - 1 + suc k
    shift p k h = omega arith

    power : 2 ^ (prec f + k) ≡ P * 2 ^ suc k
    power = ap (λ (z : ℕ). 2 ^ z) (shift (prec f) k (two-le_pos (prec f) (two f))) ∙ pow-add 2 (prec f - 1) (suc k)

    turn : (P t c : ℕ) → P * t * c ≡ P * (c * t)
    turn P t c = omega arith

    n_is : n ≡ P * (c * 2 ^ suc k)
    n_is = e ∙ ap (λ (z : ℕ). z * c) power ∙ turn P (2 ^ suc k) c

    same : (g n v : ℕ) → g ≡ n → Close (g * 2) (n * 2) v
    same g n v h = omega arith

    go : (drop (prec f) n c ≡ suc k) ⊎ (drop (prec f) n c < suc k) → Close (grid f a c * c * 2) (n * 2) (c * 2 ^ k)
    go (inr l) = loosen (half_ulp f a c C) (mul-le-mul_left c (pow_mono (le_of_suc-le-suc l)))
    go (inl z) =
        let u = c * 2 ^ suc k in
        let q = closest n u in
        let w : Close (q * u * 2) (P * u * 2) u = subst (λ (x : ℕ). Close (q * u * 2) (x * 2) u) n_is (closest_half n u (mul-pos C (pow_pos (suc k)))) in
        let is : q ≡ P = tight q P u (mul-pos C (pow_pos (suc k))) w in
        subst (λ (x : ℕ). Close (closest n (c * 2 ^ x) * 2 ^ x * c * 2) (n * 2) (c * 2 ^ k)) (sym z)
        (same (q * 2 ^ suc k * c) n (c * 2 ^ k) (turn q (2 ^ suc k) c ∙ ap (λ (x : ℕ). x * u) is ∙ sym n_is))

pub half_binade : (f : Format) (a c k : ℕ) → 0 < c → a * 2 ^ low f ≤ 2 ^ (prec f + k) * c → Close (grid f a c * c * 2) (a * 2 ^ low f * 2) (c * 2 ^ k)
half_binade f a c k C h = elim (eq-or-lt_of_le h) [ inl e ↦ at_top f a c k C e | inr l ↦ below_top f a c k C l ]

-- ---- RELATIVELY: |grid - a / c| ≤ (a / c) 2 ^ -prec + 1 / 2, in quanta: the unit roundoff 2 ^ -prec, and half a quantum for what underflows
leading : (f : Format) (n c : ℕ) → 0 < c → c * 2 ^ drop (prec f) n c * 2 ^ (prec f - 1) ≤ n + c * 2 ^ (prec f - 1)
leading f n c C = go (drop (prec f) n c) refl
  where
    inside : (z p k : ℕ) → 0 < p → z - p ≡ suc k → p - 1 + suc k < z
    inside z p k P e = omega arith

    join : (c t p n : ℕ) → p * t * c ≤ n → c * t * p ≤ n + c * p
    join c t p n h = omega arith

    flat : (c p n : ℕ) → c * 1 * p ≤ n + c * p
    flat c p n = omega arith

    go : (k : ℕ) → drop (prec f) n c ≡ k → c * 2 ^ k * 2 ^ (prec f - 1) ≤ n + c * 2 ^ (prec f - 1)
    go zero e = flat c (2 ^ (prec f - 1)) n
    go (suc k) e =
        let w = size_reaches (n / c) (prec f - 1 + suc k) (inside (size (n / c)) (prec f) k (two-le_pos (prec f) (two f)) e) in
        join c (2 ^ suc k) (2 ^ (prec f - 1)) n (subst (λ (x : ℕ). x * c ≤ n) (pow-add 2 (prec f - 1) (suc k)) ((le-div_iff_mul-le C).0 w))

pub relative : (f : Format) (a c : ℕ) → 0 < c
    → Close (grid f a c * c * (2 * 2 ^ (prec f - 1))) (a * 2 ^ low f * (2 * 2 ^ (prec f - 1))) (a * 2 ^ low f + c * 2 ^ (prec f - 1))
relative f a c C =
    let n = a * 2 ^ low f in
    widen (grid f a c) c n (2 ^ drop (prec f) n c) (2 ^ (prec f - 1)) (half_ulp f a c C) (leading f n c C)
  where
    widen : (g c n t P : ℕ) → Close (g * c * 2) (n * 2) (c * t) → c * t * P ≤ n + c * P → Close (g * c * (2 * P)) (n * (2 * P)) (n + c * P)
    widen g c n t P h l = omega (arith, times P h)

-- ---- the rounded value is finite where the fraction is small enough, and it is `grid` quanta
pub round_value : (f : Format) (s : Bool) (a c : ℕ) → grid f a c < overflow f → HasValue (round f s a c) s (grid f a c) (2 ^ low f)
round_value f s a c h =
    subst (λ (z : Float). HasValue z s (grid f a c) (2 ^ low f)) (sym (round_is f s a c))
    (units_val f s (kept (prec f) (a * 2 ^ low f) c) (drop (prec f) (a * 2 ^ low f) c) h)

pub no_overflow : (f : Format) (a c k : ℕ) → 0 < c → a * 2 ^ low f ≤ 2 ^ (prec f + k) * c → prec f + k ≤ low f + emax f → grid f a c < overflow f
no_overflow f a c k C h l =
    lt_of_lt_of_le (under (grid f a c) c (a * 2 ^ low f) (2 ^ (prec f + k)) (2 ^ k) C (pow_pos (prec f + k)) (half_binade f a c k C h).le h (pow_mono (tail (prec f) k)))
    (le_trans (le_of_eq (sym (pow-suc 2 (prec f + k)))) (pow_mono (reach (prec f + k) (low f) (emax f) l)))
  where
    under : (g c n A t : ℕ) → 0 < c → 0 < A → g * c * 2 ≤ n * 2 + c * t → n ≤ A * c → t ≤ A → g < A * 2
    under g c n A t C P h l k = lt_of_mul-lt-mul_right c (omega (arith, mul-le-mul_left c k, mul-pos P C))

    tail : (p k : ℕ) → k ≤ p + k
    tail p k = omega arith

    reach : (x l e : ℕ) → x ≤ l + e → suc x ≤ l + suc e
    reach x l e h = omega arith
