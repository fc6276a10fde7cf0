-- THE OPERATIONS ON FINITE FLOATS, each against the exact result of its operands: negation, sum, difference, product, quotient.
-- A quantum is the format's smallest positive value, and U = 2 ^ low f of them are 1. `Quanta U x p n` says that x is finite and is p - n
-- quanta. `NearParts U x p n W r` says that x is finite and at most r quanta from (p - n) / W. Assumes nothing.
use mathlib.Core.Path.{◌≡◌, refl, sym, ap, subst}
use mathlib.Core.Bool.{Bool, true, false, not, cond, ◌&&◌}
use Prim.Native.Nat.{ℕ, zero, suc, ◌+◌, ◌-◌, ◌*◌, ◌^◌, ◌≤◌, ◌<◌}
use native.Mathlib.Nat.{mul-le-mul_right, le_of_mul-le-mul_right, eq_of_mul-eq-mul_right, mul-pos, pow-suc, add-sub_of_le, le_of_lt}
use native.Mathlib.Omega.{arith}
use lib.Dec.{T, ltb, eqb, ltb→lt, nltb→le, eqb→eq}
use lib.Pow.{pow_pos}
use lib.Ieee.{Float, nan, inf, fin, Format, prec, emax, low, up, down, unlike, round, sum, neg, add, sub, mul, div}
use lib.Ieee.Fits.{down_pos}
use lib.Ieee.Exact.{HasValue}
use lib.Ieee.Scale.{grid}
use Rattle.exact.proofs.Close.{Close, flip, times, cancel}
use Rattle.exact.proofs.Defined.{first_pos}
use Rattle.rounding.proofs.Rounding.{half_binade, no_overflow, round_value}

-- ---- signed numbers
-- ±a / c, negative where s is true, is (p - n) / W
abbrev pub Signed : Bool → ℕ → ℕ → ℕ → ℕ → ℕ → Type 0
Signed false a c p n W = a * W + n * c ≡ p * c
Signed true a c p n W = a * W + p * c ≡ n * c

abbrev pub Quanta : ℕ → Float → ℕ → ℕ → Type 0
Quanta U nan p n = ⊥
Quanta U (inf s) p n = ⊥
Quanta U (fin s m e) p n = Signed s (m * up e) (down e) p n U

pub record NearParts (U : ℕ) (x : Float) (p n W r : ℕ) : Type 0 where
  pub plus : ℕ
  pub minus : ℕ
  pub quanta : Quanta U x plus minus
  pub close : Close (plus * W + n * U) (minus * W + p * U) (r * W)

pub of_value : (x : Float) (s : Bool) (g U : ℕ) → HasValue x s g U → Quanta U x (cond s 0 g) (cond s g 0)
of_value nan s g U v = v
of_value (inf t) s g U v = v
of_value (fin t m e) s g U v = subst (λ (b : Bool). Signed b (m * up e) (down e) (cond s 0 g) (cond s g 0) U) (sym v.0) (go s)
  where
    go : (s : Bool) → Signed s (m * up e) (down e) (cond s 0 g) (cond s g 0) U
    go false = omega (arith, v.1)
    go true = omega (arith, v.1)

-- ---- ONE ROUNDING of (p - n) / W, which is at most M / W in size: where that is at most 2 ^ (prec + k + 1) quanta the result is finite and at most 2 ^ k quanta away
pub round_near : (f : Format) (s : Bool) (num den p n W M k : ℕ) → 0 < den → 0 < W → Signed s num den p n W → Close p n M
    → M * 2 ^ low f ≤ 2 ^ (prec f + suc k) * W → prec f + suc k ≤ low f + emax f → NearParts (2 ^ low f) (round f s num den) p n W (2 ^ k)
round_near f s num den p n W M k D P e h l r =
    let U = 2 ^ low f in
    let A = 2 ^ (prec f + suc k) in
    let g = grid f num den in
    let b : num * U ≤ A * den = less num den U W M A D P (size s e) l in
    let w = half g den num U k (half_binade f num den (suc k) D b) in
    record {
      plus = cond s 0 g;
      minus = cond s g 0;
      quanta = of_value (round f s num den) s g U (round_value f s num den (no_overflow f num den (suc k) D b r));
      close = go s e w;
    }
  where
    small : (num den p n W M : ℕ) → num * W + n * den ≡ p * den → p ≤ n + M → num * W ≤ M * den
    small num den p n W M e h = omega (arith, mul-le-mul_right den h)

    size : (s : Bool) → Signed s num den p n W → num * W ≤ M * den
    size false e = small num den p n W M e h.le
    size true e = small num den n p W M e h.ge

    less : (num den U W M A : ℕ) → 0 < den → 0 < W → num * W ≤ M * den → M * U ≤ A * W → num * U ≤ A * den
    less num den U W M A D P h l = le_of_mul-le-mul_right (omega (arith, mul-le-mul_right U h, mul-le-mul_right den l)) P

    half : (g den num U k : ℕ) → Close (g * den * 2) (num * U * 2) (den * 2 ^ suc k) → Close (g * den * 2) (num * U * 2) (den * (2 ^ k * 2))
    half g den num U k h = subst (λ (x : ℕ). Close (g * den * 2) (num * U * 2) (den * x)) (pow-suc 2 k) h

    core : (g den num U W t p n : ℕ) → 0 < den → Close (g * den * 2) (num * U * 2) (den * (t * 2)) → num * W + n * den ≡ p * den → Close (g * W + n * U) (0 * W + p * U) (t * W)
    core g den num U W t p n D h e = cancel den D (omega (arith, times W h, ap (λ (x : ℕ). x * U) e))

    go : (s : Bool) → Signed s num den p n W → Close (grid f num den * den * 2) (num * 2 ^ low f * 2) (den * (2 ^ k * 2))
        → Close (cond s 0 (grid f num den) * W + n * 2 ^ low f) (cond s (grid f num den) 0 * W + p * 2 ^ low f) (2 ^ k * W)
    go false e w = core (grid f num den) den num (2 ^ low f) W (2 ^ k) p n D w e
    go true e w = flip (core (grid f num den) den num (2 ^ low f) W (2 ^ k) n p D w e)

-- ---- negation
pub neg_quanta : (U : ℕ) (x : Float) (p n : ℕ) → Quanta U x p n → Quanta U (neg x) n p
unfolding neg
neg_quanta U nan p n h = h
neg_quanta U (inf s) p n h = h
neg_quanta U (fin false m e) p n h = h
neg_quanta U (fin true m e) p n h = h

-- ---- sum: the float is `round` of the exact signed sum
pub record RoundedSum (f : Format) (z : Float) (c p n U : ℕ) : Type 0 where
  pub sign : Bool
  pub size : ℕ
  pub is : z ≡ round f sign size c
  pub val : Signed sign size c p n U

gap : (a b c p n q m U : ℕ) → a ≤ b → a * U + n * c ≡ p * c → b * U + q * c ≡ m * c → (b - a) * U + (p + q) * c ≡ (n + m) * c
gap a b c p n q m U l h k = omega (arith, ap (λ (x : ℕ). x * U) (add-sub_of_le l))

pub sum_is : (f : Format) (s : Bool) (a : ℕ) (t : Bool) (b c p n q m U : ℕ) → Signed s a c p n U → Signed t b c q m U → RoundedSum f (sum f s a t b c) c (p + q) (n + m) U
unfolding sum
sum_is f false a false b c p n q m U h k = record { sign = false; size = a + b; is = refl; val = omega arith }
sum_is f true a true b c p n q m U h k = record { sign = true; size = a + b; is = refl; val = omega arith }
sum_is f false a true b c p n q m U h k = go (ltb a b) (ltb→lt a b) (nltb→le a b)
  where
    go : (x : Bool) → (T x → a < b) → (T (not x) → b ≤ a) → RoundedSum f (cond x (round f true (b - a) c) (round f false (a - b) c)) c (p + q) (n + m) U
    go true i j = record { sign = true; size = b - a; is = refl; val = gap a b c p n q m U (le_of_lt (i tt)) h k }
    go false i j = record { sign = false; size = a - b; is = refl; val = omega (arith, gap b a c m q n p U (j tt) k h) }
sum_is f true a false b c p n q m U h k = go (ltb a b) (ltb b a) (ltb→lt a b) (nltb→le a b) (nltb→le b a)
  where
    zero_sum : b ≤ a → a ≤ b → (a - b) * U + (n + m) * c ≡ (p + q) * c
    zero_sum u v = omega (arith, gap a b c n p m q U v h k, gap b a c q m p n U u k h)

    go : (x y : Bool) → (T x → a < b) → (T (not x) → b ≤ a) → (T (not y) → a ≤ b)
        → RoundedSum f (cond x (round f false (b - a) c) (round f (true && y) (a - b) c)) c (p + q) (n + m) U
    go true y i j l = record { sign = false; size = b - a; is = refl; val = omega (arith, gap a b c n p m q U (le_of_lt (i tt)) h k) }
    go false true i j l = record { sign = true; size = a - b; is = refl; val = omega (arith, gap b a c q m p n U (j tt) k h) }
    go false false i j l = record { sign = false; size = a - b; is = refl; val = zero_sum (j tt) (l tt) }

-- the same signed number over a larger denominator
widened : (s : Bool) (a c p n U d : ℕ) → Signed s a c p n U → Signed s (a * d) (c * d) p n U
widened false a c p n U d h = omega (arith, ap (λ (x : ℕ). x * d) h)
widened true a c p n U d h = omega (arith, ap (λ (x : ℕ). x * d) h)

widened' : (s : Bool) (a c p n U d : ℕ) → Signed s a c p n U → Signed s (a * d) (d * c) p n U
widened' false a c p n U d h = omega (arith, ap (λ (x : ℕ). x * d) h)
widened' true a c p n U d h = omega (arith, ap (λ (x : ℕ). x * d) h)

-- the sum of two floats is a rounded sum, over some denominator above 0
pub record SumOf (f : Format) (z : Float) (p n : ℕ) : Type 0 where
  pub over : ℕ
  pub over_pos : 0 < over
  pub rounded : RoundedSum f z over p n (2 ^ low f)

pub add_is : (f : Format) (x y : Float) (p n q m : ℕ) → Quanta (2 ^ low f) x p n → Quanta (2 ^ low f) y q m → SumOf f (add f x y) (p + q) (n + m)
unfolding add
add_is f nan y p n q m h g = absurd h
add_is f (inf s) y p n q m h g = absurd h
add_is f (fin s a e) nan p n q m h g = absurd g
add_is f (fin s a e) (inf t) p n q m h g = absurd g
add_is f (fin s a e) (fin t b d) p n q m h g =
    record {
      over = down e * down d;
      over_pos = mul-pos (down_pos e) (down_pos d);
      rounded =
          sum_is f s (a * up e * down d) t (b * up d * down e) (down e * down d) p n q m (2 ^ low f)
          (widened s (a * up e) (down e) p n (2 ^ low f) (down d) h) (widened' t (b * up d) (down d) q m (2 ^ low f) (down e) g);
    }

pub sub_is : (f : Format) (x y : Float) (p n q m : ℕ) → Quanta (2 ^ low f) x p n → Quanta (2 ^ low f) y q m → SumOf f (sub f x y) (p + m) (n + q)
unfolding sub
sub_is f x y p n q m h g = add_is f x (neg y) p n m q h (neg_quanta (2 ^ low f) y q m g)

summed : (f : Format) (z : Float) (p n M k : ℕ) → SumOf f z p n → Close p n M → M * 2 ^ low f ≤ 2 ^ (prec f + suc k) * 2 ^ low f → prec f + suc k ≤ low f + emax f
    → NearParts (2 ^ low f) z p n (2 ^ low f) (2 ^ k)
summed f z p n M k s h l r =
    let q = s.rounded in
    subst (λ (y : Float). NearParts (2 ^ low f) y p n (2 ^ low f) (2 ^ k)) (sym q.is)
    (round_near f q.sign q.size s.over p n (2 ^ low f) M k s.over_pos (pow_pos (low f)) q.val h l r)

pub add_near : (f : Format) (x y : Float) (p n q m M k : ℕ) → Quanta (2 ^ low f) x p n → Quanta (2 ^ low f) y q m
    → Close (p + q) (n + m) M → M * 2 ^ low f ≤ 2 ^ (prec f + suc k) * 2 ^ low f → prec f + suc k ≤ low f + emax f
    → NearParts (2 ^ low f) (add f x y) (p + q) (n + m) (2 ^ low f) (2 ^ k)
add_near f x y p n q m M k h g w l r = summed f (add f x y) (p + q) (n + m) M k (add_is f x y p n q m h g) w l r

pub sub_near : (f : Format) (x y : Float) (p n q m M k : ℕ) → Quanta (2 ^ low f) x p n → Quanta (2 ^ low f) y q m
    → Close (p + m) (n + q) M → M * 2 ^ low f ≤ 2 ^ (prec f + suc k) * 2 ^ low f → prec f + suc k ≤ low f + emax f
    → NearParts (2 ^ low f) (sub f x y) (p + m) (n + q) (2 ^ low f) (2 ^ k)
sub_near f x y p n q m M k h g w l r = summed f (sub f x y) (p + m) (n + q) M k (sub_is f x y p n q m h g) w l r

-- ---- product
product_core : (a c p n b d q m U : ℕ) → a * U + n * c ≡ p * c → b * U + m * d ≡ q * d → a * b * (U * U) + (p * m + n * q) * (c * d) ≡ (p * q + n * m) * (c * d)
product_core a c p n b d q m U h k =
    omega (arith, ap (λ (x : ℕ). x * (b * U)) h, ap (λ (x : ℕ). x * (p * c)) k, ap (λ (x : ℕ). x * (n * c)) k)

product_is : (s t : Bool) (a c p n b d q m U : ℕ) → Signed s a c p n U → Signed t b d q m U → Signed (unlike s t) (a * b) (c * d) (p * q + n * m) (p * m + n * q) (U * U)
product_is false false a c p n b d q m U h k = product_core a c p n b d q m U h k
product_is false true a c p n b d q m U h k = omega (arith, product_core a c p n b d m q U h k)
product_is true false a c p n b d q m U h k = omega (arith, product_core a c n p b d q m U h k)
product_is true true a c p n b d q m U h k = omega (arith, product_core a c n p b d m q U h k)

pub mul_near : (f : Format) (x y : Float) (p n q m M k : ℕ) → Quanta (2 ^ low f) x p n → Quanta (2 ^ low f) y q m
    → Close (p * q + n * m) (p * m + n * q) M → M * 2 ^ low f ≤ 2 ^ (prec f + suc k) * (2 ^ low f * 2 ^ low f) → prec f + suc k ≤ low f + emax f
    → NearParts (2 ^ low f) (mul f x y) (p * q + n * m) (p * m + n * q) (2 ^ low f * 2 ^ low f) (2 ^ k)
unfolding mul
mul_near f nan y p n q m M k h g w l r = absurd h
mul_near f (inf s) y p n q m M k h g w l r = absurd h
mul_near f (fin s a e) nan p n q m M k h g w l r = absurd g
mul_near f (fin s a e) (inf t) p n q m M k h g w l r = absurd g
mul_near f (fin s a e) (fin t b d) p n q m M k h g w l r =
    let U = 2 ^ low f in
    round_near f (unlike s t) (a * up e * (b * up d)) (down e * down d) (p * q + n * m) (p * m + n * q) (U * U) M k
    (mul-pos (down_pos e) (down_pos d)) (mul-pos (pow_pos (low f)) (pow_pos (low f)))
    (product_is s t (a * up e) (down e) p n (b * up d) (down d) q m U h g) w l r

-- ---- quotient, by a divisor of w quanta, w above 0
quotient_core : (a c p n b d m w U : ℕ) → 0 < U → a * U + n * c ≡ p * c → b * U + m * d ≡ (m + w) * d → a * d * w + n * (b * c) ≡ p * (b * c)
quotient_core a c p n b d m w U P h k =
    let e : b * U ≡ w * d = omega arith in
    eq_of_mul-eq-mul_right U P (a * d * w + n * (b * c)) (p * (b * c)) (omega (arith, ap (λ (x : ℕ). x * (w * d)) h, ap (λ (x : ℕ). x * (n * c)) e, ap (λ (x : ℕ). x * (p * c)) e))

quotient_is : (s : Bool) (a c p n b d m w U : ℕ) → 0 < U → Signed s a c p n U → b * U + m * d ≡ (m + w) * d → Signed s (a * d) (b * c) p n w
quotient_is false a c p n b d m w U P h k = quotient_core a c p n b d m w U P h k
quotient_is true a c p n b d m w U P h k = quotient_core a c n p b d m w U P h k

positive : (b U m w d : ℕ) → 0 < w → 0 < d → b * U + m * d ≡ (m + w) * d → 0 < b * U
positive b U m w d W D e = omega (arith, mul-pos W D)

not_negative : (b U m w d : ℕ) → 0 < w → 0 < d → b * U + (m + w) * d ≡ m * d → ⊥
not_negative b U m w d W D e = omega (arith, mul-pos W D)

same_sign : (s : Bool) → unlike s false ≡ s
same_sign true = refl
same_sign false = refl

pub div_near : (f : Format) (x y : Float) (p n m w M k : ℕ) → 0 < w → Quanta (2 ^ low f) x p n → Quanta (2 ^ low f) y (m + w) m
    → Close p n M → M * 2 ^ low f ≤ 2 ^ (prec f + suc k) * w → prec f + suc k ≤ low f + emax f
    → NearParts (2 ^ low f) (div f x y) p n w (2 ^ k)
unfolding div
div_near f nan y p n m w M k P h g i l r = absurd h
div_near f (inf s) y p n m w M k P h g i l r = absurd h
div_near f (fin s a e) nan p n m w M k P h g i l r = absurd g
div_near f (fin s a e) (inf t) p n m w M k P h g i l r = absurd g
div_near f (fin s a e) (fin true b d) p n m w M k P h g i l r = absurd (not_negative (b * up d) (2 ^ low f) m w (down d) P (down_pos d) g)
div_near f (fin s a e) (fin false b d) p n m w M k P h g i l r = go (eqb b 0) (eqb→eq b 0)
  where
    b_pos : 0 < b * up d
    b_pos = first_pos (b * up d) (2 ^ low f) (positive (b * up d) (2 ^ low f) m w (down d) P (down_pos d) g)

    not_zero : (b U : ℕ) → 0 < b * U → b ≡ 0 → ⊥
    not_zero b U h e = let k : b * U ≡ 0 * U = ap (λ (x : ℕ). x * U) e in omega arith

    go : (z : Bool) → (T z → b ≡ 0)
        → NearParts (2 ^ low f) (cond z (cond (eqb a 0) nan (inf (unlike s false))) (round f (unlike s false) (a * up e * down d) (b * up d * down e))) p n w (2 ^ k)
    go true z = absurd (not_zero b (up d) b_pos (z tt))
    go false z =
        subst (λ (v : Bool). NearParts (2 ^ low f) (round f v (a * up e * down d) (b * up d * down e)) p n w (2 ^ k)) (sym (same_sign s))
        (round_near f s (a * up e * down d) (b * up d * down e) p n w M k (mul-pos b_pos (down_pos e)) P
        (quotient_is s (a * up e) (down e) p n (b * up d) (down d) m w (2 ^ low f) (pow_pos (low f)) h g) i l r)

-- ---- a float has one value
pub quanta_same : (U : ℕ) (x : Float) (p n q m : ℕ) → Quanta U x p n → Quanta U x q m → p + m ≡ q + n
quanta_same U nan p n q m h k = absurd h
quanta_same U (inf s) p n q m h k = absurd h
quanta_same U (fin s a e) p n q m h k = unique s (a * up e) (down e) (down_pos e) h k
  where
    unique : (s : Bool) (a c : ℕ) → 0 < c → Signed s a c p n U → Signed s a c q m U → p + m ≡ q + n
    unique false a c C h k = eq_of_mul-eq-mul_right c C (p + m) (q + n) (omega arith)
    unique true a c C h k = eq_of_mul-eq-mul_right c C (p + m) (q + n) (omega arith)
