-- A POLYNOMIAL WITH NONNEGATIVE COEFFICIENTS, by Horner's rule: from 0 up it grows, and up to z by no more than its slope at z. Where c + x g has y for x and g' for g,
-- y g' - x g = (y - x) g' + x (g' - g), so a bound of g's slope gives one of the whole. Assumes nothing.
use mathlib.Core.Path.{◌≡◌, refl, ap}
use mathlib.Core.List.{List, [], ◌∷◌}
use Prim.Native.Nat.{ℕ, zero, suc}
use Rattle.exact.specs.Fraction.{Fraction, ◌+ℚ◌, ◌*ℚ◌}
use Rattle.series.specs.Horner.{hornerℚ}
use Rattle.series.proofs.Nonnegative.{Quotient, fraction, natural, ◌⊞◌, ◌⊠◌, ◌≼◌, ≼_refl, ≼_trans, ≼-more, ⊞-mono, ⊠-mono, ⊞-comm, ⊞-assoc, ⊞-assoc', ⊠-comm, ⊠-assoc, ⊠-assoc', expand, collect}

-- ---- its value, and its slope
unfoldable pub value_at : List Quotient → Quotient → Quotient
value_at [] x = natural 0
value_at (c ∷ []) x = c
value_at (c ∷ d ∷ cs) x = c ⊞ x ⊠ value_at (d ∷ cs) x

unfoldable pub slope_at : List Quotient → Quotient → Quotient
unfolding value_at
slope_at [] z = natural 0
slope_at (c ∷ []) z = natural 0
slope_at (c ∷ d ∷ cs) z = value_at (d ∷ cs) z ⊞ z ⊠ slope_at (d ∷ cs) z

-- t k, t (k + 1), .. : n coefficients
unfoldable pub quotients : (ℕ → Quotient) → ℕ → ℕ → List Quotient
quotients t k zero = []
quotients t k (suc n) = t k ∷ quotients t (suc k) n

-- as fractions
unfoldable pub fractions : List Quotient → List Fraction
fractions [] = []
fractions (c ∷ cs) = fraction c ∷ fractions cs

pub value_fraction : (cs : List Quotient) (x : Quotient) → hornerℚ (fractions cs) (fraction x) ≡ fraction (value_at cs x)
unfolding hornerℚ fractions value_at
value_fraction [] x = refl
value_fraction (c ∷ []) x = refl
value_fraction (c ∷ d ∷ cs) x = ap (λ (y : Fraction). fraction c +ℚ fraction x *ℚ y) (value_fraction (d ∷ cs) x)

-- ---- THE SLOPE OF A PRODUCT: by h more in x and by h l more in g
pub product_slope : {x y g' m z : Quotient} (h g l : Quotient) → y ≼ x ⊞ h → g' ≼ g ⊞ h ⊠ l → g' ≼ m → x ≼ z → y ⊠ g' ≼ x ⊠ g ⊞ h ⊠ (m ⊞ z ⊠ l)
product_slope {x} {y} {g'} {m} {z} h g l i j k b =
    let first : x ⊠ g' ≼ x ⊠ g ⊞ h ⊠ (z ⊠ l) =
    ≼_trans (⊠-mono (≼_refl x) j)
    (≼_trans (expand' x g (h ⊠ l)) (⊞-mono (≼_refl (x ⊠ g)) (≼_trans (swap x h l) (⊠-mono (≼_refl h) (⊠-mono b (≼_refl l)))))) in
    ≼_trans (⊠-mono i (≼_refl g'))
    (≼_trans (expand x h g')
    (≼_trans (⊞-mono first (⊠-mono (≼_refl h) k))
    (≼_trans (⊞-assoc (x ⊠ g) (h ⊠ (z ⊠ l)) (h ⊠ m)) (⊞-mono (≼_refl (x ⊠ g)) (≼_trans (⊞-comm (h ⊠ (z ⊠ l)) (h ⊠ m)) (collect' h m (z ⊠ l)))))))
  where
    expand' : (c a b : Quotient) → c ⊠ (a ⊞ b) ≼ c ⊠ a ⊞ c ⊠ b
    expand' c a b = ≼_trans (⊠-comm c (a ⊞ b)) (≼_trans (expand a b c) (⊞-mono (⊠-comm a c) (⊠-comm b c)))

    collect' : (c a b : Quotient) → c ⊠ a ⊞ c ⊠ b ≼ c ⊠ (a ⊞ b)
    collect' c a b = ≼_trans (⊞-mono (⊠-comm c a) (⊠-comm c b)) (≼_trans (collect a b c) (⊠-comm (a ⊞ b) c))

    swap : (a b c : Quotient) → a ⊠ (b ⊠ c) ≼ b ⊠ (a ⊠ c)
    swap a b c = ≼_trans (⊠-assoc' a b c) (≼_trans (⊠-mono (⊠-comm a b) (≼_refl c)) (⊠-assoc b a c))

-- ---- IT GROWS, by no more than its slope
pub value_grows : (cs : List Quotient) {x y : Quotient} → x ≼ y → value_at cs x ≼ value_at cs y
unfolding value_at
value_grows [] h = ≼_refl (natural 0)
value_grows (c ∷ []) h = ≼_refl c
value_grows (c ∷ d ∷ cs) h = ⊞-mono (≼_refl c) (⊠-mono h (value_grows (d ∷ cs) h))

pub value_slope : (cs : List Quotient) (x y h z : Quotient) → x ≼ z → y ≼ z → y ≼ x ⊞ h → value_at cs y ≼ value_at cs x ⊞ h ⊠ slope_at cs z
unfolding value_at slope_at
value_slope [] x y h z a b k = ≼-more (natural 0) (h ⊠ natural 0)
value_slope (c ∷ []) x y h z a b k = ≼-more c (h ⊠ natural 0)
value_slope (c ∷ d ∷ cs) x y h z a b k =
    let g = value_at (d ∷ cs) in
    ≼_trans (⊞-mono (≼_refl c) (product_slope h (g x) (slope_at (d ∷ cs) z) k (value_slope (d ∷ cs) x y h z a b k) (value_grows (d ∷ cs) b) a))
    (⊞-assoc' c (x ⊠ g x) (h ⊠ (g z ⊞ z ⊠ slope_at (d ∷ cs) z)))
