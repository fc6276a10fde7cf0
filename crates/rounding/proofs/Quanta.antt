-- A FINITE FLOAT OF A FORMAT IS A WHOLE NUMBER OF QUANTA, c * 2 ^ j of them with c < 2 ^ prec f, and what that says of its value as a fraction.
-- A quantum is the format's smallest positive value, and U = 2 ^ low f of them are 1. `HasQuanta U a p n` says that the fraction a is p - n quanta,
-- multiplied across; `Quanta U x p n` (Operations) says the same of a float. Between the two, and between HasQuanta and Equal. Assumes nothing.
use mathlib.Core.Path.{◌≡◌, refl, sym, ap, subst, subst₂, ◌∙◌}
use mathlib.Core.Bool.{Bool, true, false, cond, ◌&&◌}
use Prim.Native.Nat.{ℕ, zero, suc, ◌+◌, ◌-◌, ◌*◌, ◌%◌, ◌^◌, ◌≤◌, ◌<◌}
use native.Mathlib.Nat.{lt_irrefl, mul-le-mul_right, mul-lt-mul_of_pos_right, eq_of_mul-eq-mul_right, add-sub_of_le, lt_of_not-le, not-le_of_lt, le_of_suc-le-suc}
use native.Mathlib.Omega.{arith}
use lib.IntN.{ℤ, pos, negsuc}
use lib.Dec.{T, leb, ltb, eqb, leb→le, ltb→lt}
use lib.Pow.{pow_pos, pow-add, pow-lt}
use lib.Ieee.{Float, nan, inf, fin, Format, prec, emax, low, up, down, fits}
use lib.Ieee.Fits.{down_pos, and_l, and_r}
use lib.Ieee.Scale.{finite, overflow}
use Rattle.exact.specs.Fraction.{Fraction, Defined, whole, signed, ◌+ℚ◌, ◌-ℚ◌, ◌≤ℚ◌}
use Rattle.exact.specs.Value.{value, Equal}
use Rattle.exact.proofs.Parts.{num⁺, num⁻, signed⁺, signed⁻, OneSided, up as nonnegative, down as nonpositive, sum_parts, difference_parts}
use Rattle.exact.proofs.Order.{≤ℚ-parts, parts_equal, equal⁺, equal⁻}
use Rattle.rounding.proofs.Operations.{Signed, Quanta}

-- ---- quanta of a signed fraction, of a float, and of its value
abbrev pub HasQuanta : ℕ → Fraction → ℕ → ℕ → Type 0
HasQuanta U a p n = num⁺ a * U + n * a.den ≡ num⁻ a * U + p * a.den

pub signed_quanta : (U : ℕ) (s : Bool) (a c p n : ℕ) → Signed s a c p n U → HasQuanta U (signed s a c) p n
signed_quanta U s a c p n h = subst₂ (λ (P N : ℕ). P * U + n * c ≡ N * U + p * c) (sym (signed⁺ s a)) (sym (signed⁻ s a)) (go s h)
  where
    go : (s : Bool) → Signed s a c p n U → cond s 0 a * U + n * c ≡ cond s a 0 * U + p * c
    go false h = omega arith
    go true h = omega arith

pub quanta_signed : (U : ℕ) (s : Bool) (a c p n : ℕ) → HasQuanta U (signed s a c) p n → Signed s a c p n U
quanta_signed U s a c p n h = go s (subst₂ (λ (P N : ℕ). P * U + n * c ≡ N * U + p * c) (signed⁺ s a) (signed⁻ s a) h)
  where
    go : (s : Bool) → cond s 0 a * U + n * c ≡ cond s a 0 * U + p * c → Signed s a c p n U
    go false h = omega arith
    go true h = omega arith

pub quanta_defined : (U : ℕ) (x : Float) (p n : ℕ) → Quanta U x p n → Defined (value x)
unfolding value
quanta_defined U nan p n h = absurd h
quanta_defined U (inf s) p n h = absurd h
quanta_defined U (fin s m e) p n h = down_pos e

pub quanta_value : (U : ℕ) (x : Float) (p n : ℕ) → Quanta U x p n → HasQuanta U (value x) p n
unfolding value
quanta_value U nan p n h = absurd h
quanta_value U (inf s) p n h = absurd h
quanta_value U (fin s m e) p n h = signed_quanta U s (m * up e) (down e) p n h

pub value_quanta : (U : ℕ) (x : Float) (p n : ℕ) → Defined (value x) → HasQuanta U (value x) p n → Quanta U x p n
unfolding value
value_quanta U nan p n d h = absurd (lt_irrefl 0 d)
value_quanta U (inf s) p n d h = absurd (lt_irrefl 0 d)
value_quanta U (fin s m e) p n d h = quanta_signed U s (m * up e) (down e) p n h

-- ---- quanta of a sum and of a difference
pub sum_quanta : (U : ℕ) (a b : Fraction) (p n q m : ℕ) → HasQuanta U a p n → HasQuanta U b q m → HasQuanta U (a +ℚ b) (p + q) (n + m)
sum_quanta U a b p n q m h k = core (num⁺ a) (num⁻ a) a.den (num⁺ b) (num⁻ b) b.den (num⁺ (a +ℚ b)) (num⁻ (a +ℚ b)) h k (sum_parts a b)
  where
    core : (P N D Q M E S R : ℕ) → P * U + n * D ≡ N * U + p * D → Q * U + m * E ≡ M * U + q * E → S + (N * E + M * D) ≡ R + (P * E + Q * D)
        → S * U + (n + m) * (D * E) ≡ R * U + (p + q) * (D * E)
    core P N D Q M E S R h k e = omega (arith, ap (λ (z : ℕ). z * E) h, ap (λ (z : ℕ). z * D) k, ap (λ (z : ℕ). z * U) e)

pub difference_quanta : (U : ℕ) (a b : Fraction) (p n q m : ℕ) → HasQuanta U a p n → HasQuanta U b q m → HasQuanta U (a -ℚ b) (p + m) (n + q)
difference_quanta U a b p n q m h k = core (num⁺ a) (num⁻ a) a.den (num⁺ b) (num⁻ b) b.den (num⁺ (a -ℚ b)) (num⁻ (a -ℚ b)) h k (difference_parts a b)
  where
    core : (P N D Q M E S R : ℕ) → P * U + n * D ≡ N * U + p * D → Q * U + m * E ≡ M * U + q * E → S + (N * E + Q * D) ≡ R + (P * E + M * D)
        → S * U + (n + q) * (D * E) ≡ R * U + (p + m) * (D * E)
    core P N D Q M E S R h k e = omega (arith, ap (λ (z : ℕ). z * E) h, ap (λ (z : ℕ). z * D) k, ap (λ (z : ℕ). z * U) e)

-- ---- equal fractions have equal quanta, and fractions of equal quanta are equal
pub same_quanta : (U : ℕ) (a b : Fraction) (p n : ℕ) → 0 < U → Defined a → Defined b → HasQuanta U a p n → HasQuanta U b p n → Equal a b
same_quanta U a b p n P d e h k =
    parts_equal d e
    (eq_of_mul-eq-mul_right U P (num⁺ a * b.den + num⁻ b * a.den) (num⁺ b * a.den + num⁻ a * b.den) (core (num⁺ a) (num⁻ a) a.den (num⁺ b) (num⁻ b) b.den h k))
  where
    core : (P N D Q M E : ℕ) → P * U + n * D ≡ N * U + p * D → Q * U + n * E ≡ M * U + p * E → (P * E + M * D) * U ≡ (Q * D + N * E) * U
    core P N D Q M E h k = omega (arith, ap (λ (z : ℕ). z * E) h, ap (λ (z : ℕ). z * D) k)

pub equal_quanta : (U : ℕ) (a b : Fraction) (p n : ℕ) → Equal a b → HasQuanta U b p n → HasQuanta U a p n
equal_quanta U a b p n e h =
    eq_of_mul-eq-mul_right b.den e.right (num⁺ a * U + n * a.den) (num⁻ a * U + p * a.den)
    (core (num⁺ a) (num⁻ a) a.den (num⁺ b) (num⁻ b) b.den (equal⁺ e) (equal⁻ e) h)
  where
    core : (P N D Q M E : ℕ) → P * E ≡ Q * D → N * E ≡ M * D → Q * U + n * E ≡ M * U + p * E → (P * U + n * D) * E ≡ (N * U + p * D) * E
    core P N D Q M E h k e = omega (arith, ap (λ (z : ℕ). z * U) h, ap (λ (z : ℕ). z * U) k, ap (λ (z : ℕ). z * D) e)

-- the value of a float, by its quanta; and the quanta of a float, by its value
pub equal_of_quanta : (U : ℕ) (x : Float) (a : Fraction) (p n : ℕ) → 0 < U → Defined a → Quanta U x p n → HasQuanta U a p n → Equal (value x) a
equal_of_quanta U x a p n P d h k = same_quanta U (value x) a p n P (quanta_defined U x p n h) d (quanta_value U x p n h) k

pub quanta_of_equal : (U : ℕ) (x : Float) (a : Fraction) (p n : ℕ) → Equal (value x) a → HasQuanta U a p n → Quanta U x p n
quanta_of_equal U x a p n e h = value_quanta U x p n e.left (equal_quanta U (value x) a p n e h)

-- ---- A FLOAT OF THE FORMAT is ± significand * 2 ^ shift quanta, with at most prec f digits in the significand
pub record InFormat (f : Format) (x : Float) : Type 0 where
  pub negative : Bool
  pub significand : ℕ
  pub shift : ℕ
  pub digits : significand < 2 ^ prec f
  pub range : significand * 2 ^ shift < overflow f
  pub quanta : Quanta (2 ^ low f) x (cond negative 0 (significand * 2 ^ shift)) (cond negative (significand * 2 ^ shift) 0)

sized : (s : Bool) (a c g U : ℕ) → a * U ≡ g * c → Signed s a c (cond s 0 g) (cond s g 0) U
sized false a c g U h = omega arith
sized true a c g U h = omega arith

pow_le : (i j : ℕ) → 2 ^ i ≤ 2 ^ j → i ≤ j
pow_le i j h = le_of_suc-le-suc (lt_of_not-le (λ (g : suc j ≤ i). not-le_of_lt (pow-lt g) h))

nonzero : (f : Format) (s : Bool) (m : ℕ) (e : ℤ) → m < 2 ^ prec f → down e ≤ 2 ^ low f → m * up e < 2 ^ suc (emax f) * down e → InFormat f (fin s m e)
nonzero f s m (pos k) d l r =
    record {
      negative = s;
      significand = m;
      shift = k + low f;
      digits = d;
      range =
          subst₂ (λ (u v : ℕ). m * u < v) (sym (pow-add 2 k (low f))) (sym (pow-add 2 (low f) (suc (emax f))))
          (scaled m (2 ^ k) (2 ^ low f) (2 ^ suc (emax f)) (mul-lt-mul_of_pos_right r (pow_pos (low f))));
      quanta = sized s (m * 2 ^ k) 1 (m * 2 ^ (k + low f)) (2 ^ low f) (subst (λ (u : ℕ). m * 2 ^ k * 2 ^ low f ≡ m * u * 1) (sym (pow-add 2 k (low f))) (whole m (2 ^ k) (2 ^ low f)));
    }
  where
    scaled : (m u U t : ℕ) → m * u * U < t * 1 * U → m * (u * U) < U * t
    scaled m u U t h = omega arith

    whole : (m u U : ℕ) → m * u * U ≡ m * (u * U) * 1
    whole m u U = omega arith
nonzero f s m (negsuc k) d l r =
    let j = low f - suc k in
    let p : 2 ^ low f ≡ 2 ^ suc k * 2 ^ j = ap (λ (z : ℕ). 2 ^ z) (sym (add-sub_of_le (pow_le (suc k) (low f) l))) ∙ pow-add 2 (suc k) j in
    record {
      negative = s;
      significand = m;
      shift = j;
      digits = d;
      range = subst (λ (v : ℕ). m * 2 ^ j < v) (sym (pow-add 2 (low f) (suc (emax f)))) (scaled m (2 ^ suc k) (2 ^ j) (2 ^ low f) (2 ^ suc (emax f)) p (mul-lt-mul_of_pos_right r (pow_pos j)));
      quanta = sized s (m * 1) (2 ^ suc k) (m * 2 ^ j) (2 ^ low f) (whole m (2 ^ suc k) (2 ^ j) (2 ^ low f) p);
    }
  where
    scaled : (m c u U t : ℕ) → U ≡ c * u → m * 1 * u < t * c * u → m * u < U * t
    scaled m c u U t e h = omega (arith, ap (λ (z : ℕ). z * t) e)

    whole : (m c u U : ℕ) → U ≡ c * u → m * 1 * U ≡ m * u * c
    whole m c u U e = omega (arith, ap (λ (z : ℕ). m * z) e)

pub in_format : (f : Format) (x : Float) → T (fits f x) → T (finite x) → InFormat f x
unfolding fits
in_format f nan h t = absurd t
in_format f (inf s) h t = absurd t
in_format f (fin s zero e) h t =
    record {
      negative = s;
      significand = 0;
      shift = 0;
      digits = pow_pos (prec f);
      range = pow_pos (low f + suc (emax f));
      quanta = sized s (0 * up e) (down e) 0 (2 ^ low f) (nothing (up e) (2 ^ low f) (down e));
    }
  where
    nothing : (u U c : ℕ) → 0 * u * U ≡ 0 * c
    nothing u U c = omega arith
in_format f (fin s (suc m) e) h t =
    let a = eqb (suc m % 2) 1 in
    let b = ltb (suc m) (2 ^ prec f) in
    let c = leb (down e) (2 ^ low f) in
    let d = ltb (suc m * up e) (2 ^ suc (emax f) * down e) in
    let abc = and_l (a && b && c) d h in
    nonzero f s (suc m) e (ltb→lt (suc m) (2 ^ prec f) (and_r a b (and_l (a && b) c abc))) (leb→le (down e) (2 ^ low f) (and_r (a && b) c abc))
    (ltb→lt (suc m * up e) (2 ^ suc (emax f) * down e) (and_r (a && b && c) d h))

-- its quanta, on one side of 0
pub record QuantaOf (U : ℕ) (x : Float) : Type 0 where
  pub plus : ℕ
  pub minus : ℕ
  pub quanta : Quanta U x plus minus
  pub one_sided : OneSided plus minus

pub quanta_of : (f : Format) (x : Float) → T (fits f x) → T (finite x) → QuantaOf (2 ^ low f) x
quanta_of f x h t =
    let w = in_format f x h t in
    let g = w.significand * 2 ^ w.shift in
    record { plus = cond w.negative 0 g; minus = cond w.negative g 0; quanta = w.quanta; one_sided = side w.negative g }
  where
    side : (s : Bool) (g : ℕ) → OneSided (cond s 0 g) (cond s g 0)
    side false g = nonnegative refl
    side true g = nonpositive refl

-- where the value is not negative they are significand * 2 ^ shift
pub nonnegative_quanta : (f : Format) (x : Float) (w : InFormat f x) → whole (pos 0) ≤ℚ value x → Quanta (2 ^ low f) x (w.significand * 2 ^ w.shift) 0
nonnegative_quanta f x w h =
    let g = w.significand * 2 ^ w.shift in
    let P = cond w.negative 0 g in
    let N = cond w.negative g 0 in
    value_quanta (2 ^ low f) x g 0 (quanta_defined (2 ^ low f) x P N w.quanta)
    (core w.negative (num⁺ (value x)) (num⁻ (value x)) (value x).den g (2 ^ low f) (quanta_value (2 ^ low f) x P N w.quanta) (≤ℚ-parts (whole (pos 0)) (value x) h))
  where
    core : (s : Bool) (P N D g U : ℕ) → P * U + cond s g 0 * D ≡ N * U + cond s 0 g * D → 0 * D + N * 1 ≤ P * 1 + 0 * D → P * U + 0 * D ≡ N * U + g * D
    core false P N D g U e h = e
    core true P N D g U e h = let k : N ≤ P = omega arith in omega (arith, mul-le-mul_right U k)
