-- ONE COMPARISON FINDS THE LARGER of the height so far and a spike: the height so far is +0 or a number above 0, so the maximum's tests for a NaN and for two zeros change nothing. Assumes nothing.
use mathlib.Core.Logic.{◌⊎◌, inl, inr}
use mathlib.Core.Path.{◌≡◌, refl, sym, ap, subst}
use mathlib.Core.Bool.{Bool, true, false, cond, false≢true}
use Prim.Native.Nat.{ℕ, zero, suc, ◌*◌, ◌<◌}
use native.Mathlib.Omega.{arith}
use lib.Dec.{ltb}
use lib.Ieee.{Float, nan, inf, fin, up, down, of_bits, is_nan, lt, eq}
use borrow.Author.Tests.{ltb-true, lt-ltb, le-ltb, ne_eqb}
use Rattle.exact.specs.Binary32.{zero₃₂}
use Rattle.math.specs.Formulas.{unsigned_zero, max_of}
use Rattle.taps.specs.Formula.{raised_to}

-- +0, or a number above 0: no NaN, no -0
abbrev pub Raised : Float → Type 0
Raised h = (h ≡ zero₃₂) ⊎ (lt zero₃₂ h ≡ true)

-- a spike that is a NaN raises nothing
nan_raises_nothing : (h : Float) → raised_to h nan ≡ h
unfolding lt
nan_raises_nothing nan = refl
nan_raises_nothing (inf s) = refl
nan_raises_nothing (fin s m e) = refl

-- ---- the order of floats
flip : (a b : ℕ) → ltb a b ≡ true → ltb b a ≡ false
flip a b h = let l = ltb-true a b h in le-ltb b a (omega arith)

pub asymmetric : (x y : Float) → lt x y ≡ true → lt y x ≡ false
unfolding lt
asymmetric nan y h = absurd (false≢true h)
asymmetric (inf s) nan h = refl
asymmetric (inf true) (inf true) h = refl
asymmetric (inf true) (inf false) h = refl
asymmetric (inf false) (inf t) h = absurd (false≢true h)
asymmetric (inf true) (fin t n d) h = refl
asymmetric (inf false) (fin t n d) h = absurd (false≢true h)
asymmetric (fin s m e) nan h = refl
asymmetric (fin s m e) (inf true) h = absurd (false≢true h)
asymmetric (fin s m e) (inf false) h = refl
asymmetric (fin false m e) (fin false n d) h = flip (m * up e * down d) (n * up d * down e) h
asymmetric (fin false m e) (fin true n d) h = absurd (false≢true h)
asymmetric (fin true m e) (fin false n d) h = refl
asymmetric (fin true m e) (fin true n d) h = flip (n * up d * down e) (m * up e * down d) h

above : (a b c k : ℕ) → a < b * c → 0 * 1 * k < b * 1
above a zero c k h = omega arith
above a (suc b) c k h = omega arith

-- what is above a number above 0 is above 0
above_zero : (x y : Float) → lt zero₃₂ x ≡ true → lt x y ≡ true → lt zero₃₂ y ≡ true
unfolding lt of_bits
above_zero nan y h k = absurd (false≢true k)
above_zero (inf true) y h k = absurd (false≢true h)
above_zero (inf false) nan h k = absurd (false≢true k)
above_zero (inf false) (inf t) h k = absurd (false≢true k)
above_zero (inf false) (fin t n d) h k = absurd (false≢true k)
above_zero (fin s m e) nan h k = absurd (false≢true k)
above_zero (fin s m e) (inf t) h k = k
above_zero (fin true m e) (fin t n d) h k = absurd (false≢true h)
above_zero (fin false m e) (fin true n d) h k = absurd (false≢true k)
above_zero (fin false m e) (fin false n d) h k =
    lt-ltb (0 * 1 * down d) (n * up d * 1) (above (m * up e * down d) (n * up d) (down e) (down d) (ltb-true (m * up e * down d) (n * up d * down e) k))

-- ---- a height so far
pub raised_zero : Raised zero₃₂
raised_zero = inl refl

pub raised_above : (h v : Float) → Raised h → lt h v ≡ true → Raised v
raised_above h v (inl e) k = inr (subst (λ x. lt x v ≡ true) e k)
raised_above h v (inr l) k = inr (above_zero h v l k)

positive_unsigned : (h : Float) → lt zero₃₂ h ≡ true → eq h zero₃₂ ≡ false
unfolding lt eq of_bits
positive_unsigned nan l = refl
positive_unsigned (inf s) l = refl
positive_unsigned (fin true m e) l = absurd (false≢true l)
positive_unsigned (fin false m e) l =
    let p = ltb-true (0 * 1 * down e) (m * up e * 1) l in
    simp (ne_eqb (m * up e * 1) (0 * 1 * down e) (λ q. omega arith))

unsigned : (h : Float) → Raised h → unsigned_zero h ≡ h
unfolding eq of_bits
unsigned h (inl e) = simp e
unsigned h (inr l) = simp (positive_unsigned h l)

number : (h : Float) → Raised h → is_nan h ≡ false
unfolding is_nan lt of_bits
number nan (inl e) = absurd (false≢true (ap is_nan (sym e)))
number nan (inr l) = absurd (false≢true l)
number (inf s) r = refl
number (fin s m e) r = refl

-- ---- the larger of it and a spike
pub larger : (h v : Float) → Raised h → raised_to h v ≡ max_of h v
unfolding max_of is_nan
larger h v r = go v (number h r) (asymmetric v h) (unsigned h r)
  where
    tests : (c d : Bool) (v : Float) {u : Float} → (c ≡ true → d ≡ false) → u ≡ h → cond d v h ≡ cond c h (cond d v u)
    tests true true v k e = absurd (false≢true (sym (k refl)))
    tests true false v k e = refl
    tests false true v k e = refl
    tests false false v k e = sym e

    go : (v : Float) → is_nan h ≡ false → (lt v h ≡ true → lt h v ≡ false) → unsigned_zero h ≡ h → raised_to h v ≡ max_of h v
    go nan n k u = simp (n, nan_raises_nothing h)
    go (inf s) n k u = simp (n, tests (lt (inf s) h) (lt h (inf s)) (inf s) k u)
    go (fin s m e) n k u = simp (n, tests (lt (fin s m e) h) (lt h (fin s m e)) (fin s m e) k u)

pub either : (b : Bool) {x y : Float} → (b ≡ true → Raised x) → Raised y → Raised (cond b x y)
either true h k = h refl
either false h k = k
