-- HOW ERRORS AND BOUNDS GO THROUGH THE OPERATIONS, over naturals alone: what the operands' errors come to in a sum, a product and a quotient,
-- how bounds of exact values go through them, and what one rounding adds. A float is p - n quanta, U of which are 1. An exact fraction
-- is (P - N) / D. A primed letter is the negative part of the bound beside it. Assumes nothing.
use mathlib.Core.Path.{◌≡◌, refl, sym, ap, subst}
use Prim.Native.Nat.{ℕ, suc, ◌+◌, ◌-◌, ◌*◌, ◌^◌, ◌≤◌, ◌<◌}
use native.Mathlib.Nat.{mul-le-mul_right, le_of_mul-le-mul_right}
use native.Mathlib.Omega.{arith}
use lib.Ieee.{Float, Format, prec, low}
use Rattle.exact.proofs.Close.{ring, semiring, Close, Split, less, more, split, flip, times, cancel, loosen, recast, chain, product}
use Rattle.rounding.proofs.Operations.{NearParts}

-- |p - n| as a number
abbrev gap : ℕ → ℕ → ℕ
gap p n = (p - n) + (n - p)

gap_within : (p n : ℕ) → Close p n (gap p n)
gap_within p n = omega arith

gap_le : (p n v : ℕ) → Close p n v → gap p n ≤ v
gap_le p n v h = omega arith

scaled : (p n t v : ℕ) → Close (p * t) (n * t) v → gap p n * t ≤ v
scaled p n t v h = go (split p n)
  where
    go : Split p n → gap p n * t ≤ v
    go (less k e) = let a : gap p n ≡ k = omega arith in omega (arith, ap (λ (x : ℕ). x * t) a, ap (λ (x : ℕ). x * t) e)
    go (more k e) = let a : gap p n ≡ k = omega arith in omega (arith, ap (λ (x : ℕ). x * t) a, ap (λ (x : ℕ). x * t) e)

-- (p - n) / W is within t quanta of (P - N) / D
abbrev pub Propagated : ℕ → ℕ → ℕ → ℕ → ℕ → ℕ → ℕ → ℕ → Type 0
Propagated U p n W P N D t = Close (p * D * U + N * W * U) (n * D * U + P * W * U) (t * W * D)

-- ---- one rounding more
join : (U z z' p n W P N D t r : ℕ) → 0 < W → Close (z * W + n * U) (z' * W + p * U) (r * W) → Propagated U p n W P N D t → Close (z * D + N * U) (z' * D + P * U) ((t + r) * D)
join U z z' p n W P N D t r w h k = cancel W w (omega (arith, times D h))

sized : (U p n W P N D t m : ℕ) → Propagated U p n W P N D t → Close (P * U) (N * U) (m * D) → Close (p * (D * U)) (n * (D * U)) ((m + t) * W * D)
sized U p n W P N D t m h k = omega (arith, times W k)

fits : (U g W D m t A : ℕ) → 0 < W → 0 < D → g * (D * U) ≤ (m + t) * W * D → m + t ≤ A → g * U ≤ A * W
fits U g W D m t A w d h l = le_of_mul-le-mul_right (omega (arith, mul-le-mul_right (W * D) l)) d

pub rounded_near : (f : Format) (z : Float) (p n W P N D m t k e : ℕ) → 0 < W → 0 < D
    → ((M : ℕ) → Close p n M → M * 2 ^ low f ≤ 2 ^ (prec f + suc k) * W → NearParts (2 ^ low f) z p n W (2 ^ k))
    → Propagated (2 ^ low f) p n W P N D t → Close (P * 2 ^ low f) (N * 2 ^ low f) (m * D) → m + t ≤ 2 ^ (prec f + suc k) → t + 2 ^ k ≤ e → NearParts (2 ^ low f) z P N D e
rounded_near f z p n W P N D m t k e w d op pr mag l le =
    let U = 2 ^ low f in
    let r = op (gap p n) (gap_within p n) (fits U (gap p n) W D m t (2 ^ (prec f + suc k)) w d (scaled p n (D * U) ((m + t) * W * D) (sized U p n W P N D t m pr mag)) l) in
    record {
      plus = r.plus;
      minus = r.minus;
      quanta = r.quanta;
      close = loosen (join U r.plus r.minus p n W P N D t (2 ^ k) w r.close pr) (mul-le-mul_right D le);
    }

-- ---- sums
pub sum_error : (U x x' p n d a y y' q m c b P N : ℕ)
    → Close (x * d + n * U) (x' * d + p * U) (a * d) → Close (y * c + m * U) (y' * c + q * U) (b * c)
    → P + (n * c + m * d) ≡ N + (p * c + q * d) → Propagated U (x + y) (x' + y') U P N (d * c) (a + b)
sum_error U x x' p n d a y y' q m c b P N h k e = simp ring (omega (arith, simp ring at (times (c * U) h), simp ring at (times (d * U) k), simp ring at (ap (λ (z : ℕ). z * (U * U)) e)))

-- ---- products: t quanta with A b + a B ≤ t U, where A bounds the first float and B the second exact factor
pub product_error : (U x x' p n d a y y' q m c b A B t : ℕ) → Close (x * d + n * U) (x' * d + p * U) (a * d) → Close (y * c + m * U) (y' * c + q * U) (b * c)
    → Close x x' A → Close (q * U) (m * U) (B * c) → A * b + a * B ≤ t * U
    → Propagated U (x * y + x' * y') (x * y' + x' * y) (U * U) (p * q + n * m) (p * m + n * q) (d * c) t
product_error U x x' p n d a y y' q m c b A B t h k i j l =
    let E₁ = (x * y + x' * y') * (d * c) * U in
    let E₂ = (x * y' + x' * y) * (d * c) * U in
    let C₁ = (x * m + x' * q) * (d * U * U) in
    let C₂ = (x * q + x' * m) * (d * U * U) in
    let F₁ = (p * m + n * q) * (U * U) * U in
    let F₂ = (p * q + n * m) * (U * U) * U in
    let K = d * c * U in
    let u : Close (E₁ + C₁) (E₂ + C₂) (A * b * K) = recast (times (d * U) (product i k)) (simp semiring) (simp semiring) (simp semiring) in
    let v : Close (C₂ + F₁) (C₁ + F₂) (a * B * K) = recast (times U (product h j)) (simp semiring) (simp semiring) (simp semiring) in
    loosen (chain E₁ E₂ C₁ C₂ F₁ F₂ (A * b * K) (a * B * K) u v) (grow (A * b) (a * B) K d c U t refl l)
  where
    grow : (r s K d c U t : ℕ) → K ≡ d * c * U → r + s ≤ t * U → r * K + s * K ≤ t * (U * U) * (d * c)
    grow r s K d c U t e l = simp ring (omega (arith, simp ring at (mul-le-mul_right (d * c * U) l), simp ring at (ap (λ (z : ℕ). r * z + s * z) e)))

-- ---- quotients by a float of w quanta: t quanta with a U + C b ≤ t w, where C bounds the exact quotient (p c) / (d β)
pub quotient_error : (U x x' p n d a w β c b C t : ℕ) → 0 < c → Close (x * d + n * U) (x' * d + p * U) (a * d) → Close (w * c) (β * U) (b * c)
    → Close (p * c * U) (n * c * U) (C * (d * β)) → a * U + C * b ≤ t * w
    → Propagated U x x' w (p * c) (n * c) (d * β) t
quotient_error U x x' p n d a w β c b C t cp h k i l =
    let E₁ = x * (d * β) * U in
    let E₂ = x' * (d * β) * U in
    let C₁ = n * U * (β * U) in
    let C₂ = p * U * (β * U) in
    let F₁ = n * c * w * U in
    let F₂ = p * c * w * U in
    let u : Close (E₁ + C₁) (E₂ + C₂) (a * U * (d * β)) = recast (times (β * U) h) (simp semiring) (simp semiring) (simp semiring) in
    let v : Close (C₂ + F₁) (C₁ + F₂) (C * b * (d * β)) = cancel c cp (recast (product i (flip k)) (simp semiring) (simp semiring) (simp semiring)) in
    loosen (chain E₁ E₂ C₁ C₂ F₁ F₂ (a * U * (d * β)) (C * b * (d * β)) u v) (grow (a * U) (C * b) (d * β) t w l)
  where
    grow : (r s K t w : ℕ) → r + s ≤ t * w → r * K + s * K ≤ t * w * K
    grow r s K t w l = omega (arith, mul-le-mul_right K l)

-- ---- bounds of an exact value: (l - l') / U ≤ (p - n) / d ≤ (h - h') / U
abbrev pub AtLeast : ℕ → ℕ → ℕ → ℕ → ℕ → ℕ → Type 0
AtLeast U p n d l l' = l * d + n * U ≤ p * U + l' * d

abbrev pub AtMost : ℕ → ℕ → ℕ → ℕ → ℕ → ℕ → Type 0
AtMost U p n d h h' = p * U + h' * d ≤ h * d + n * U

pub magnitude_close : (U p n d l l' h h' m : ℕ) → AtLeast U p n d l l' → AtMost U p n d h h' → l' ≤ l + m → h ≤ h' + m → Close (p * U) (n * U) (m * d)
magnitude_close U p n d l l' h h' m a b i j = omega (arith, mul-le-mul_right d i, mul-le-mul_right d j)

-- the float's own size
pub float_size : (U x x' p n d e m : ℕ) → 0 < d → Close (x * d + n * U) (x' * d + p * U) (e * d) → Close (p * U) (n * U) (m * d) → Close x x' (m + e)
float_size U x x' p n d e m D h k = cancel d D (omega arith)

pub sum_at_least : (U p n d q m c P N l l' k k' L L' : ℕ) → AtLeast U p n d l l' → AtLeast U q m c k k' → P + (n * c + m * d) ≡ N + (p * c + q * d)
    → L + (l' + k') ≤ L' + (l + k) → AtLeast U P N (d * c) L L'
sum_at_least U p n d q m c P N l l' k k' L L' a b e i =
    simp ring (omega (arith, simp ring at (mul-le-mul_right c a), simp ring at (mul-le-mul_right d b), simp ring at (ap (λ (z : ℕ). z * U) e), simp ring at (mul-le-mul_right (d * c) i)))

pub sum_at_most : (U p n d q m c P N h h' k k' H H' : ℕ) → AtMost U p n d h h' → AtMost U q m c k k' → P + (n * c + m * d) ≡ N + (p * c + q * d)
    → H' + (h + k) ≤ H + (h' + k') → AtMost U P N (d * c) H H'
sum_at_most U p n d q m c P N h h' k k' H H' a b e i =
    simp ring (omega (arith, simp ring at (mul-le-mul_right c a), simp ring at (mul-le-mul_right d b), simp ring at (ap (λ (z : ℕ). z * U) e), simp ring at (mul-le-mul_right (d * c) i)))

-- λ ≤ α ≤ η, λ β ≤ γ and η β ≤ γ give α β ≤ γ, each a difference
abbrev pub ProductAtMost : ℕ → ℕ → ℕ → ℕ → ℕ → ℕ → Type 0
ProductAtMost a a' b b' g g' = a * b + a' * b' + g' ≤ g + (a * b' + a' * b)

corner : (a a' l l' h h' b b' g g' : ℕ) → l + a' ≤ a + l' → a + h' ≤ h + a' → ProductAtMost l l' b b' g g' → ProductAtMost h h' b b' g g' → ProductAtMost a a' b b' g g'
corner a a' l l' h h' b b' g g' x y u v = go (split b b')
  where
    down : (k : ℕ) → b' ≡ b + k → ProductAtMost l l' b (b + k) g g' → ProductAtMost a a' b (b + k) g g'
    down k e u = omega (arith, mul-le-mul_right k x)

    rise : (k : ℕ) → b ≡ b' + k → ProductAtMost h h' (b' + k) b' g g' → ProductAtMost a a' (b' + k) b' g g'
    rise k e u = omega (arith, mul-le-mul_right k y)

    go : Split b b' → ProductAtMost a a' b b' g g'
    go (less k e) = subst (λ (z : ℕ). ProductAtMost a a' b z g g') (sym e) (down k e (subst (λ (z : ℕ). ProductAtMost l l' b z g g') e u))
    go (more k e) = subst (λ (z : ℕ). ProductAtMost a a' z b' g g') (sym e) (rise k e (subst (λ (z : ℕ). ProductAtMost h h' z b' g g') e v))

below_times : (a a' b b' g g' c : ℕ) → ProductAtMost a a' b b' g g' → ProductAtMost (a * c) (a' * c) b b' (g * c) (g' * c)
below_times a a' b b' g g' c h = simp ring (omega (arith, simp ring at (mul-le-mul_right c h)))

below_swap : (a a' b b' g g' c : ℕ) → ProductAtMost a a' b b' g g' → ProductAtMost (b * c) (b' * c) a a' (g * c) (g' * c)
below_swap a a' b b' g g' c h = simp ring (omega (arith, simp ring at (mul-le-mul_right c h)))

-- the product of a number l - l' and an exact value between (k - k') / U and (j - j') / U
edge : (U l l' q m c k k' j j' G G' : ℕ) → AtLeast U q m c k k' → AtMost U q m c j j' → ProductAtMost k k' l l' G G' → ProductAtMost j j' l l' G G'
    → ProductAtMost (q * U) (m * U) l l' (G * c) (G' * c)
edge U l l' q m c k k' j j' G G' a b x y =
    corner (q * U) (m * U) (k * c) (k' * c) (j * c) (j' * c) l l' (G * c) (G' * c) a b (below_times k k' l l' G G' c x) (below_times j j' l l' G G' c y)

off : (U p n d q m c H H' : ℕ) → 0 < U → ProductAtMost (p * U) (n * U) (q * U) (m * U) (H * U * c * d) (H' * U * c * d) → AtMost U (p * q + n * m) (p * m + n * q) (d * c) H H'
off U p n d q m c H H' P g = le_of_mul-le-mul_right (simp ring (omega (arith, simp ring at g))) P

-- the product of two exact values is at most each bound that its four corners keep
pub product_at_most : (U p n d l l' h h' q m c k k' j j' H H' : ℕ) → 0 < U → AtLeast U p n d l l' → AtMost U p n d h h' → AtLeast U q m c k k' → AtMost U q m c j j'
    → ProductAtMost k k' l l' (H * U) (H' * U) → ProductAtMost j j' l l' (H * U) (H' * U) → ProductAtMost k k' h h' (H * U) (H' * U) → ProductAtMost j j' h h' (H * U) (H' * U)
    → AtMost U (p * q + n * m) (p * m + n * q) (d * c) H H'
product_at_most U p n d l l' h h' q m c k k' j j' H H' P a b x y r s t u =
    let low = below_swap (q * U) (m * U) l l' (H * U * c) (H' * U * c) d (edge U l l' q m c k k' j j' (H * U) (H' * U) x y r s) in
    let high = below_swap (q * U) (m * U) h h' (H * U * c) (H' * U * c) d (edge U h h' q m c k k' j j' (H * U) (H' * U) x y t u) in
    off U p n d q m c H H' P (corner (p * U) (n * U) (l * d) (l' * d) (h * d) (h' * d) (q * U) (m * U) (H * U * c * d) (H' * U * c * d) a b low high)

-- a bound from below is one from above of what is negated
pub least→most : (U p n d l l' : ℕ) → AtLeast U p n d l l' → AtMost U n p d l' l
least→most U p n d l l' h = omega arith

pub most→least : (U p n d h h' : ℕ) → AtMost U p n d h h' → AtLeast U n p d h' h
most→least U p n d h h' k = omega arith

pub product_at_least : (U p n d l l' h h' q m c k k' j j' L L' : ℕ) → 0 < U → AtLeast U p n d l l' → AtMost U p n d h h' → AtLeast U q m c k k' → AtMost U q m c j j'
    → ProductAtMost k k' h' h (L' * U) (L * U) → ProductAtMost j j' h' h (L' * U) (L * U) → ProductAtMost k k' l' l (L' * U) (L * U) → ProductAtMost j j' l' l (L' * U) (L * U)
    → AtLeast U (p * q + n * m) (p * m + n * q) (d * c) L L'
product_at_least U p n d l l' h h' q m c k k' j j' L L' P a b x y r s t u =
    turned U p n d q m c L L' (product_at_most U n p d h' h l' l q m c k k' j j' L' L P (most→least U p n d h h' b) (least→most U p n d l l' a) x y r s t u)
  where
    turned : (U p n d q m c L L' : ℕ) → AtMost U (n * q + p * m) (n * m + p * q) (d * c) L' L → AtLeast U (p * q + n * m) (p * m + n * q) (d * c) L L'
    turned U p n d q m c L L' h = omega arith

-- ---- a quotient by a positive exact value
quotient_last : (U p n d c β h h' H H' : ℕ) → 0 < U → AtMost U p n d h h' → ProductAtMost (β * U) (0 * U) H' H (h' * U * c) (h * U * c) → AtMost U (p * c) (n * c) (d * β) H H'
quotient_last U p n d c β h h' H H' P a g =
    let k : H' * β + h * c ≤ h' * c + H * β = le_of_mul-le-mul_right (omega arith) P in
    simp ring (omega (arith, simp ring at (mul-le-mul_right c a), simp ring at (mul-le-mul_right d k)))

pub quotient_at_most : (U p n d h h' β c k k' j j' H H' : ℕ) → 0 < U → AtMost U p n d h h' → AtLeast U β 0 c k k' → AtMost U β 0 c j j'
    → ProductAtMost k k' H' H (h' * U) (h * U) → ProductAtMost j j' H' H (h' * U) (h * U) → AtMost U (p * c) (n * c) (d * β) H H'
quotient_at_most U p n d h h' β c k k' j j' H H' P a x y r s = quotient_last U p n d c β h h' H H' P a (edge U H' H β 0 c k k' j j' (h' * U) (h * U) x y r s)

pub quotient_at_least : (U p n d l l' β c k k' j j' L L' : ℕ) → 0 < U → AtLeast U p n d l l' → AtLeast U β 0 c k k' → AtMost U β 0 c j j'
    → ProductAtMost k k' L L' (l * U) (l' * U) → ProductAtMost j j' L L' (l * U) (l' * U) → AtLeast U (p * c) (n * c) (d * β) L L'
quotient_at_least U p n d l l' β c k k' j j' L L' P a x y r s =
    most→least U (n * c) (p * c) (d * β) L' L (quotient_at_most U n p d l' l β c k k' j j' L' L P (least→most U p n d l l' a) x y r s)

-- ---- the float of one exact value against another, by the bounds of the two
exchange_le : (U x x' P N D e Q M C h h' k k' δ : ℕ) → (x * D + N * U) * C ≤ (x' * D + P * U) * C + e * D * C → (P * U + h' * D) * C ≤ (h * D + N * U) * C → (k * C + M * U) * D ≤ (Q * U + k' * C) * D
    → (h + k') * (D * C) ≤ (h' + k + δ) * (D * C) → (x * C + M * U) * D ≤ (x' * C + Q * U) * D + (e + δ) * C * D
exchange_le U x x' P N D e Q M C h h' k k' δ p q r s = simp ring (omega (arith, simp ring at p, simp ring at q, simp ring at r, simp ring at s))

exchange_ge : (U x x' P N D e Q M C l l' j j' δ : ℕ) → (x' * D + P * U) * C ≤ (x * D + N * U) * C + e * D * C → (l * D + N * U) * C ≤ (P * U + l' * D) * C → (Q * U + j' * C) * D ≤ (j * C + M * U) * D
    → (j + l') * (D * C) ≤ (j' + l + δ) * (D * C) → (x' * C + Q * U) * D ≤ (x * C + M * U) * D + (e + δ) * C * D
exchange_ge U x x' P N D e Q M C l l' j j' δ p q r s = simp ring (omega (arith, simp ring at p, simp ring at q, simp ring at r, simp ring at s))

pub exchange : (U x x' P N D e Q M C l l' h h' k k' j j' δ : ℕ) → 0 < D → Close (x * D + N * U) (x' * D + P * U) (e * D)
    → AtLeast U P N D l l' → AtMost U P N D h h' → AtLeast U Q M C k k' → AtMost U Q M C j j' → h + k' ≤ h' + k + δ → j + l' ≤ j' + l + δ
    → Close (x * C + M * U) (x' * C + Q * U) ((e + δ) * C)
exchange U x x' P N D e Q M C l l' h h' k k' j j' δ d w a b i o u v =
    cancel D d
    (record {
      le = exchange_le U x x' P N D e Q M C h h' k k' δ (mul3 (x * D + N * U) (x' * D + P * U) (e * D) C w.le) (mul-le-mul_right C b) (mul-le-mul_right D i) (mul-le-mul_right (D * C) u);
      ge = exchange_ge U x x' P N D e Q M C l l' j j' δ (mul3 (x' * D + P * U) (x * D + N * U) (e * D) C w.ge) (mul-le-mul_right C a) (mul-le-mul_right D o) (mul-le-mul_right (D * C) v);
    })
  where
    mul3 : (a b c C : ℕ) → a ≤ b + c → a * C ≤ b * C + c * C
    mul3 a b c C h = omega (arith, mul-le-mul_right C h)
