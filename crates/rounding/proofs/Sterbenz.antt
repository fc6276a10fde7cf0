-- WHERE A SUM OR A DIFFERENCE LOSES NOTHING. Where it is c * 2 ^ j quanta, with no more digits in c than the format keeps, it is a value of the format, and
-- so is not rounded. From that: STERBENZ'S LEMMA, that x - y is exact where y ≤ 2 x and x ≤ 2 y, since the difference is at most either of the two, and
-- a multiple of the finer of their units; and that 1/2 - h is exact for h from 1/4 to 1/2. Assumes nothing.
use mathlib.Core.Path.{◌≡◌, refl, sym, ap, subst, subst₂, ◌∙◌}
use mathlib.Core.Bool.{Bool, true, false, not}
use Prim.Native.Nat.{ℕ, ◌+◌, ◌-◌, ◌*◌, ◌^◌, ◌≤◌, ◌<◌}
use native.Mathlib.Nat.{le_of_lt, lt_of_le_of_lt, mul-pos, mul-le-mul_right, le_of_mul-le-mul_right, eq_of_mul-eq-mul_right}
use native.Mathlib.Omega.{arith}
use lib.IntN.{pos}
use lib.Dec.{T, leb, leb→le, nleb→lt}
use lib.Pow.{pow_pos, pow-add}
use lib.Ieee.{Float, nan, inf, fin, Format, prec, low, up, down, round, add, sub, fits}
use lib.Ieee.Exact.{HasValue, round_exact}
use lib.Ieee.Scale.{finite, overflow}
use Rattle.exact.specs.Fraction.{Fraction, Defined, ratio, whole, ◌-ℚ◌, ◌*ℚ◌, ◌≤ℚ◌}
use Rattle.exact.specs.Value.{value, Equal}
use Rattle.exact.proofs.Close.{Close, flip, Split, less, more, split}
use Rattle.exact.proofs.Parts.{num⁺, num⁻, times⁺, times⁻}
use Rattle.exact.proofs.Order.{≤ℚ-parts, parts-≤ℚ, ≤ℚ-trans, equal_refl, equal_sym, equal_at_most}
use Rattle.exact.proofs.Defined.{value_defined}
use Rattle.rounding.proofs.Operations.{Signed, Quanta, SumOf, add_is, sub_is}
use Rattle.rounding.proofs.Quanta.{HasQuanta, InFormat, in_format, quanta_value, equal_of_quanta, equal_quanta, nonnegative_quanta, difference_quanta}

-- ---- a sum that needs no more digits than the format has
-- p - n is ± v
pub data Apart (p n v : ℕ) : Type 0 where
  above : p ≡ n + v → Apart p n v
  below : n ≡ p + v → Apart p n v

pub apart_size : (s : Bool) (a c p n U v : ℕ) → Signed s a c p n U → Apart p n v → a * U ≡ v * c
apart_size false a c p n U v i (above e) = omega (arith, ap (λ (z : ℕ). z * c) e)
apart_size false a c p n U v i (below e) = omega (arith, ap (λ (z : ℕ). z * c) e)
apart_size true a c p n U v i (above e) = omega (arith, ap (λ (z : ℕ). z * c) e)
apart_size true a c p n U v i (below e) = omega (arith, ap (λ (z : ℕ). z * c) e)

-- ±a / c = (p - n) / U, for a float that has the value ±a / c
value_holds : (x : Float) (s : Bool) (a c p n U : ℕ) → 0 < c → HasValue x s a c → Signed s a c p n U → Quanta U x p n
value_holds nan s a c p n U C v i = v
value_holds (inf t) s a c p n U C v i = v
value_holds (fin t m e) s a c p n U C v i = subst (λ (b : Bool). Signed b (m * up e) (down e) p n U) (sym v.0) (go s i)
  where
    core : (b d a c p n : ℕ) → b * c ≡ a * d → a * U + n * c ≡ p * c → (b * U + n * d) * c ≡ p * d * c
    core b d a c p n h i = omega (arith, ap (λ (z : ℕ). z * U) h, ap (λ (z : ℕ). z * d) i)

    go : (s : Bool) → Signed s a c p n U → Signed s (m * up e) (down e) p n U
    go false i = eq_of_mul-eq-mul_right c C (m * up e * U + n * down e) (p * down e) (core (m * up e) (down e) a c p n v.1 i)
    go true i = eq_of_mul-eq-mul_right c C (m * up e * U + p * down e) (n * down e) (core (m * up e) (down e) a c n p v.1 i)

sum_exact : (f : Format) (z : Float) (p n c j : ℕ) → SumOf f z p n → Apart p n (c * 2 ^ j) → c < 2 ^ prec f → c * 2 ^ j < overflow f → Quanta (2 ^ low f) z p n
sum_exact f z p n c j w e h k =
    let q = w.rounded in
    let s = q.sign in
    let a = q.size in
    let d = w.over in
    subst (λ (y : Float). Quanta (2 ^ low f) y p n) (sym q.is)
    (value_holds (round f s a d) s a d p n (2 ^ low f) w.over_pos
    (round_exact f s a d c j w.over_pos h k (apart_size s a d p n (2 ^ low f) (c * 2 ^ j) q.val e)) q.val)

pub add_exact : (f : Format) (x y : Float) (p n q m c j : ℕ) → Quanta (2 ^ low f) x p n → Quanta (2 ^ low f) y q m
    → Apart (p + q) (n + m) (c * 2 ^ j) → c < 2 ^ prec f → c * 2 ^ j < overflow f → Quanta (2 ^ low f) (add f x y) (p + q) (n + m)
add_exact f x y p n q m c j h g = sum_exact f (add f x y) (p + q) (n + m) c j (add_is f x y p n q m h g)

pub sub_exact : (f : Format) (x y : Float) (p n q m c j : ℕ) → Quanta (2 ^ low f) x p n → Quanta (2 ^ low f) y q m
    → Apart (p + m) (n + q) (c * 2 ^ j) → c < 2 ^ prec f → c * 2 ^ j < overflow f → Quanta (2 ^ low f) (sub f x y) (p + m) (n + q)
sub_exact f x y p n q m c j h g = sum_exact f (sub f x y) (p + m) (n + q) c j (sub_is f x y p n q m h g)

-- a difference of two multiples of 2 ^ j quanta, by less than 2 ^ prec f of them
pub multiples_exact : (f : Format) (x y : Float) (p n q m j c : ℕ) → Quanta (2 ^ low f) x (p * 2 ^ j) (n * 2 ^ j) → Quanta (2 ^ low f) y (q * 2 ^ j) (m * 2 ^ j)
    → Close (p + m) (n + q) c → c < 2 ^ prec f → c * 2 ^ j < overflow f → Quanta (2 ^ low f) (sub f x y) (p * 2 ^ j + m * 2 ^ j) (n * 2 ^ j + q * 2 ^ j)
multiples_exact f x y p n q m j c h g e l r = go (split (p + m) (n + q))
  where
    exactly : (k : ℕ) → k ≤ c → Apart (p * 2 ^ j + m * 2 ^ j) (n * 2 ^ j + q * 2 ^ j) (k * 2 ^ j) → Quanta (2 ^ low f) (sub f x y) (p * 2 ^ j + m * 2 ^ j) (n * 2 ^ j + q * 2 ^ j)
    exactly k i a = sub_exact f x y (p * 2 ^ j) (n * 2 ^ j) (q * 2 ^ j) (m * 2 ^ j) k j h g a (lt_of_le_of_lt i l) (lt_of_le_of_lt (mul-le-mul_right (2 ^ j) i) r)

    scaled : (a b c d k u : ℕ) → a + b ≡ c + d + k → a * u + b * u ≡ c * u + d * u + k * u
    scaled a b c d k u e = omega (arith, ap (λ (z : ℕ). z * u) e)

    go : Split (p + m) (n + q) → Quanta (2 ^ low f) (sub f x y) (p * 2 ^ j + m * 2 ^ j) (n * 2 ^ j + q * 2 ^ j)
    go (less k i) = exactly k (omega arith) (below (scaled n q p m k (2 ^ j) i))
    go (more k i) = exactly k (omega arith) (above (scaled p m n q k (2 ^ j) i))

-- the same of two that are not negative
pub nonnegative_exact : (f : Format) (x y : Float) (a b P Q j c : ℕ) → P ≡ a * 2 ^ j → Q ≡ b * 2 ^ j → Quanta (2 ^ low f) x P 0 → Quanta (2 ^ low f) y Q 0
    → Close a b c → c < 2 ^ prec f → c * 2 ^ j < overflow f → Quanta (2 ^ low f) (sub f x y) (P + 0) (0 + Q)
nonnegative_exact f x y a b P Q j c i k h g e l r =
    subst₂ (λ (p q : ℕ). Quanta (2 ^ low f) (sub f x y) p q) (one a (2 ^ j) P i) (two b (2 ^ j) Q k)
    (multiples_exact f x y a 0 b 0 j c (subst₂ (λ (p z : ℕ). Quanta (2 ^ low f) x p z) i (none (2 ^ j)) h) (subst₂ (λ (p z : ℕ). Quanta (2 ^ low f) y p z) k (none (2 ^ j)) g) (omega arith) l r)
  where
    none : (u : ℕ) → 0 ≡ 0 * u
    none u = omega arith

    one : (a u P : ℕ) → P ≡ a * u → a * u + 0 * u ≡ P + 0
    one a u P e = omega arith

    two : (b u Q : ℕ) → Q ≡ b * u → 0 * u + b * u ≡ 0 + Q
    two b u Q e = omega arith

-- and where the second is no larger: the difference then has no more digits than the first
pub smaller_exact : (f : Format) (x y : Float) (a b P Q j : ℕ) → P ≡ a * 2 ^ j → Q ≡ b * 2 ^ j → Quanta (2 ^ low f) x P 0 → Quanta (2 ^ low f) y Q 0
    → Q ≤ P → a < 2 ^ prec f → a * 2 ^ j < overflow f → Quanta (2 ^ low f) (sub f x y) (P + 0) (0 + Q)
smaller_exact f x y a b P Q j i k h g l =
    let t : b ≤ a = le_of_mul-le-mul_right (omega arith) (pow_pos j) in nonnegative_exact f x y a b P Q j a i k h g (omega arith)

-- 2 ^ j quanta, in units of 2 ^ i of them
pub power_split : (i j : ℕ) → i ≤ j → 2 ^ j ≡ 2 ^ (j - i) * 2 ^ i
power_split i j h = ap (λ (z : ℕ). 2 ^ z) (back i j h) ∙ pow-add 2 (j - i) i
  where
    back : (i j : ℕ) → i ≤ j → j ≡ j - i + i
    back i j h = omega arith

pub finer_units : (b i j : ℕ) → i ≤ j → b * 2 ^ j ≡ b * 2 ^ (j - i) * 2 ^ i
finer_units b i j h = regroup (2 ^ j) (2 ^ i) (2 ^ (j - i)) (power_split i j h)
  where
    regroup : (v u w : ℕ) → v ≡ w * u → b * v ≡ b * w * u
    regroup v u w e = omega (arith, ap (λ (z : ℕ). b * z) e)

-- from quanta to values
pub difference_exact : (f : Format) (x y : Float) (a b : Fraction) (p n q m : ℕ) → Defined a → Defined b → HasQuanta (2 ^ low f) a p n → HasQuanta (2 ^ low f) b q m
    → Quanta (2 ^ low f) (sub f x y) (p + m) (n + q) → Equal (value (sub f x y)) (a -ℚ b)
difference_exact f x y a b p n q m d e h k g =
    equal_of_quanta (2 ^ low f) (sub f x y) (a -ℚ b) (p + m) (n + q) (pow_pos (low f)) (mul-pos d e) g (difference_quanta (2 ^ low f) a b p n q m h k)

-- ---- STERBENZ'S LEMMA, by quanta: the larger of two floats is at most twice the smaller
pub sterbenz_quanta : (f : Format) (x y : Float) (w : InFormat f x) (v : InFormat f y) (P Q : ℕ) → P ≡ w.significand * 2 ^ w.shift → Q ≡ v.significand * 2 ^ v.shift
    → Quanta (2 ^ low f) x P 0 → Quanta (2 ^ low f) y Q 0 → Q ≤ 2 * P → P ≤ 2 * Q → Quanta (2 ^ low f) (sub f x y) (P + 0) (0 + Q)
sterbenz_quanta f x y w v P Q i k h g l r = go (leb w.shift v.shift) (leb→le w.shift v.shift) (nleb→lt w.shift v.shift)
  where
    a : ℕ
    a = w.significand

    b : ℕ
    b = v.significand

    -- in units u of the one float it is a, and the other is b, at most twice as large
    close : (a b u P Q : ℕ) → 0 < u → P ≡ a * u → Q ≡ b * u → Q ≤ 2 * P → Close a b a
    close a b u P Q U i k l = let t : b ≤ 2 * a = le_of_mul-le-mul_right (omega arith) U in omega arith

    go : (t : Bool) → (T t → w.shift ≤ v.shift) → (T (not t) → v.shift < w.shift) → Quanta (2 ^ low f) (sub f x y) (P + 0) (0 + Q)
    go true s t =
        let B = b * 2 ^ (v.shift - w.shift) in
        let e : Q ≡ B * 2 ^ w.shift = k ∙ finer_units b w.shift v.shift (s tt) in
        nonnegative_exact f x y a B P Q w.shift a i e h g (close a B (2 ^ w.shift) P Q (pow_pos w.shift) i e l) w.digits w.range
    go false s t =
        let A = a * 2 ^ (w.shift - v.shift) in
        let e : P ≡ A * 2 ^ v.shift = i ∙ finer_units a v.shift w.shift (le_of_lt (t tt)) in
        nonnegative_exact f x y A b P Q v.shift b e k h g (flip (close b A (2 ^ v.shift) Q P (pow_pos v.shift) k e r)) v.digits v.range

-- ---- STERBENZ'S LEMMA: x - y is exact where y ≤ 2 x and x ≤ 2 y, by which neither is negative
doub≤ℚ_parts : (a b : Fraction) → a ≤ℚ ratio 2 1 *ℚ b → num⁺ a * b.den + 2 * num⁻ b * a.den ≤ 2 * num⁺ b * a.den + num⁻ a * b.den
doub≤ℚ_parts a b h =
    core (num⁺ a) (num⁻ a) a.den (num⁺ b) (num⁻ b) b.den (num⁺ (ratio 2 1 *ℚ b)) (num⁻ (ratio 2 1 *ℚ b)) (times⁺ 2 b.num) (times⁻ 2 b.num)
    (≤ℚ-parts a (ratio 2 1 *ℚ b) h)
  where
    core : (p n d P N D S R : ℕ) → S ≡ 2 * P → R ≡ 2 * N → p * (1 * D) + R * d ≤ S * d + n * (1 * D) → p * D + 2 * N * d ≤ 2 * P * d + n * D
    core p n d P N D S R i k h = omega (arith, ap (λ (z : ℕ). z * d) i, ap (λ (z : ℕ). z * d) k)

across_double : (a b : Fraction) → num⁺ a * b.den + 2 * num⁻ b * a.den ≤ 2 * num⁺ b * a.den + num⁻ a * b.den → a ≤ℚ ratio 2 1 *ℚ b
across_double a b h =
    parts-≤ℚ a (ratio 2 1 *ℚ b)
    (core (num⁺ a) (num⁻ a) a.den (num⁺ b) (num⁻ b) b.den (num⁺ (ratio 2 1 *ℚ b)) (num⁻ (ratio 2 1 *ℚ b)) (times⁺ 2 b.num) (times⁻ 2 b.num) h)
  where
    core : (p n d P N D S R : ℕ) → S ≡ 2 * P → R ≡ 2 * N → p * D + 2 * N * d ≤ 2 * P * d + n * D → p * (1 * D) + R * d ≤ S * d + n * (1 * D)
    core p n d P N D S R i k h = omega (arith, ap (λ (z : ℕ). z * d) i, ap (λ (z : ℕ). z * d) k)

-- 0 ≤ b, by b ≤ 2 a ≤ 4 b
not_negative : (a b : Fraction) → Defined a → a ≤ℚ ratio 2 1 *ℚ b → b ≤ℚ ratio 2 1 *ℚ a → whole (pos 0) ≤ℚ b
not_negative a b d h k = parts-≤ℚ (whole (pos 0)) b (core (num⁺ a) (num⁻ a) a.den (num⁺ b) (num⁻ b) b.den d (doub≤ℚ_parts a b h) (doub≤ℚ_parts b a k))
  where
    core : (p n d P N D : ℕ) → 0 < d → p * D + 2 * N * d ≤ 2 * P * d + n * D → P * d + 2 * n * D ≤ 2 * p * D + N * d → 0 * D + N * 1 ≤ P * 1 + 0 * D
    core p n d P N D E h k = let t : N ≤ P = le_of_mul-le-mul_right (omega arith) E in omega arith

-- a ≤ 2 b, in quanta
double_quanta : (U : ℕ) (a b : Fraction) (g k : ℕ) → Defined a → Defined b → HasQuanta U a g 0 → HasQuanta U b k 0 → a ≤ℚ ratio 2 1 *ℚ b → g ≤ 2 * k
double_quanta U a b g k d e h i l = core (num⁺ a) (num⁻ a) a.den (num⁺ b) (num⁻ b) b.den d e h i (doub≤ℚ_parts a b l)
  where
    core : (p n d P N D : ℕ) → 0 < d → 0 < D → p * U + 0 * d ≡ n * U + g * d → P * U + 0 * D ≡ N * U + k * D → p * D + 2 * N * d ≤ 2 * P * d + n * D → g ≤ 2 * k
    core p n d P N D A B h i l = le_of_mul-le-mul_right (omega (arith, ap (λ (z : ℕ). z * D) h, ap (λ (z : ℕ). z * d) i, mul-le-mul_right U l)) (mul-pos A B)

-- x and y are a and b
pub sterbenz_of : (f : Format) (x y : Float) (a b : Fraction) → T (fits f x) → T (fits f y) → Equal (value x) a → Equal (value y) b
    → b ≤ℚ ratio 2 1 *ℚ a → a ≤ℚ ratio 2 1 *ℚ b → Equal (value (sub f x y)) (a -ℚ b)
sterbenz_of f x y a b fx fy ea eb h k =
    let U = 2 ^ low f in
    let w = in_format f x fx ((value_defined x).0 ea.left) in
    let v = in_format f y fy ((value_defined y).0 eb.left) in
    let P = w.significand * 2 ^ w.shift in
    let Q = v.significand * 2 ^ v.shift in
    let qx = nonnegative_quanta f x w (≤ℚ-trans (whole (pos 0)) a (value x) ea.right (not_negative b a eb.right h k) (equal_at_most (equal_sym ea)).le) in
    let qy = nonnegative_quanta f y v (≤ℚ-trans (whole (pos 0)) b (value y) eb.right (not_negative a b ea.right k h) (equal_at_most (equal_sym eb)).le) in
    let va = equal_quanta U a (value x) P 0 (equal_sym ea) (quanta_value U x P 0 qx) in
    let vb = equal_quanta U b (value y) Q 0 (equal_sym eb) (quanta_value U y Q 0 qy) in
    difference_exact f x y a b P 0 Q 0 ea.right eb.right va vb
    (sterbenz_quanta f x y w v P Q refl refl qx qy (double_quanta U b a Q P eb.right ea.right vb va h) (double_quanta U a b P Q ea.right eb.right va vb k))

pub sterbenz : (f : Format) (x y : Float) → T (fits f x) → T (fits f y) → T (finite x) → T (finite y)
    → value y ≤ℚ ratio 2 1 *ℚ value x → value x ≤ℚ ratio 2 1 *ℚ value y → Equal (value (sub f x y)) (value x -ℚ value y)
sterbenz f x y fx fy tx ty = sterbenz_of f x y (value x) (value y) fx fy (equal_refl ((value_defined x).1 tx)) (equal_refl ((value_defined y).1 ty))

-- 1/2 - h is exact for h from 1/4 to 1/2
pub half_minus : (f : Format) (half h : Float) (b : Fraction) → T (fits f half) → T (fits f h) → Equal (value half) (ratio 1 2) → Equal (value h) b → ratio 1 4 ≤ℚ b → b ≤ℚ ratio 1 2
    → Equal (value (sub f half h)) (ratio 1 2 -ℚ b)
half_minus f half h b fx fy e d l r =
    sterbenz_of f half h (ratio 1 2) b fx fy e d (across_double b (ratio 1 2) (under (num⁺ b) (num⁻ b) b.den (≤ℚ-parts b (ratio 1 2) r)))
    (across_double (ratio 1 2) b (over (num⁺ b) (num⁻ b) b.den (≤ℚ-parts (ratio 1 4) b l)))
  where
    under : (P N D : ℕ) → P * 2 + 0 * D ≤ 1 * D + N * 2 → P * 2 + 2 * 0 * D ≤ 2 * 1 * D + N * 2
    under P N D h = omega arith

    over : (P N D : ℕ) → 1 * D + N * 4 ≤ P * 4 + 0 * D → 1 * D + 2 * N * 2 ≤ 2 * P * 2 + 0 * D
    over P N D h = omega arith

-- x - 1/2 is exact for x from 1/2 to 1
pub minus_half : (f : Format) (x half : Float) (a : Fraction) → T (fits f x) → T (fits f half) → Equal (value x) a → Equal (value half) (ratio 1 2) → ratio 1 2 ≤ℚ a → a ≤ℚ ratio 1 1
    → Equal (value (sub f x half)) (a -ℚ ratio 1 2)
minus_half f x half a fx fy e d l r =
    sterbenz_of f x half a (ratio 1 2) fx fy e d (across_double (ratio 1 2) a (under (num⁺ a) (num⁻ a) a.den (≤ℚ-parts (ratio 1 2) a l)))
    (across_double a (ratio 1 2) (over (num⁺ a) (num⁻ a) a.den (≤ℚ-parts a (ratio 1 1) r)))
  where
    under : (P N D : ℕ) → 1 * D + N * 2 ≤ P * 2 + 0 * D → 1 * D + 2 * N * 2 ≤ 2 * P * 2 + 0 * D
    under P N D h = omega arith

    over : (P N D : ℕ) → P * 1 + 0 * D ≤ 1 * D + N * 1 → P * 2 + 2 * 0 * D ≤ 2 * 1 * D + N * 2
    over P N D h = omega arith
