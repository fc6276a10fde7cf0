-- THE TWO ENDS OF AN ANALYSIS, and what an application cites. An input is a float of the format that lies between two constants: it stands for its
-- own value, with no error (`input`). A result is a distance between fractions (`result`). `bounded` goes from the one to the other: the
-- inputs' bounds, an expression, and one computed test (`certified`) give `Within`. Assumes nothing.
use mathlib.Core.Path.{◌≡◌, ap}
use mathlib.Core.Bool.{Bool, ◌&&◌}
use Prim.Native.Nat.{ℕ, zero, suc, ◌+◌, ◌*◌, ◌^◌, ◌≤◌, ◌<◌}
use native.Mathlib.Nat.{mul-le-mul_right, le_of_mul-le-mul_right}
use native.Mathlib.Omega.{arith}
use lib.IntN.{ℤ}
use lib.Signed.{le_z}
use lib.Dec.{T, leb, leb→le}
use lib.Pow.{pow_pos}
use lib.Ieee.{Float, Format, low, fits, le}
use lib.Ieee.Fits.{and_l, and_r}
use lib.Ieee.Scale.{finite}
use Rattle.exact.specs.Fraction.{Fraction, ratio}
use Rattle.exact.specs.Value.{value, Within, Equal}
use Rattle.exact.proofs.Close.{ring, Close, times, cancel}
use Rattle.exact.proofs.Parts.{part⁺, part⁻, num⁺, num⁻, le_z_parts}
use Rattle.exact.proofs.Order.{≤ℚ-parts, close_within, le_value, between_finite, equal⁺, equal⁻}
use Rattle.rounding.proofs.Quanta.{quanta_of, quanta_value, quanta_defined}
use Rattle.exact.proofs.Defined.{value_defined}
use Rattle.rounding.proofs.Analyser as A
use Rattle.rounding.proofs.Analyser.{Bound, Expr, Approximates, Lower, Upper, Near, Facts, eval_float, eval_exact, analyse, certified, constant_of}
use Rattle.rounding.proofs.StepLeaves.{constant_sound}
use Rattle.rounding.proofs.Soundness.{sound}

-- ---- A RESULT: |x - A| ≤ r / s
pub result : (f : Format) (x : Float) (A : Fraction) (b : Bound) (r s : ℕ) → 0 < s → Approximates f x A b → b.err * s ≤ r * 2 ^ low f → Within (value x) A (ratio r s)
result f x A b r s S h l =
    let U = 2 ^ low f in
    let n = h.near in
    let d = quanta_defined U x n.plus n.minus n.quanta in
    close_within d h.defined S
    (rescaled U n.plus n.minus (num⁺ (value x)) (num⁻ (value x)) (value x).den (num⁺ A) (num⁻ A) A.den b.err r s (pow_pos (low f)) (quanta_value U x n.plus n.minus n.quanta) n.close l)
  where
    across : (U x x' P N D Q M E e : ℕ) → P * U + x' * D ≡ N * U + x * D → Close (x * E + M * U) (x' * E + Q * U) (e * E) → Close ((P * E + M * D) * U) ((N * E + Q * D) * U) (e * (D * E))
    across U x x' P N D Q M E e i h = simp ring (omega (arith, simp ring at (times D h), simp ring at (ap (λ (z : ℕ). z * E) i)))

    rescaled : (U x x' P N D Q M E e r s : ℕ) → 0 < U → P * U + x' * D ≡ N * U + x * D → Close (x * E + M * U) (x' * E + Q * U) (e * E) → e * s ≤ r * U
        → Close ((P * E + M * D) * s) ((N * E + Q * D) * s) (r * (D * E))
    rescaled U x x' P N D Q M E e r s u i h l =
        core (P * E + M * D) (N * E + Q * D) U e (D * E) r s u (across U x x' P N D Q M E e i h) l
      where
        core : (X Y U e K r s : ℕ) → 0 < U → Close (X * U) (Y * U) (e * K) → e * s ≤ r * U → Close (X * s) (Y * s) (r * K)
        core X Y U e K r s P h l = cancel U P (simp ring (omega (arith, simp ring at (times s h), simp ring at (mul-le-mul_right K l))))

-- ---- AN INPUT between two constants
unfoldable pub range : Format → Float → Float → Bound
unfolding constant_of
range f lo hi = record { lo = (constant_of f lo).bound.lo; hi = (constant_of f hi).bound.hi; err = 0 }

-- what lies above a constant is at least its quanta, and what lies below one is at most its quanta
above : (U P N D Q M E l l' : ℕ) → 0 < E → Q * D + N * E ≤ P * E + M * D → l * E + M * U ≤ Q * U + l' * E → l * D + N * U ≤ P * U + l' * D
above U P N D Q M E l l' e o h = le_of_mul-le-mul_right (simp ring (omega (arith, simp ring at (mul-le-mul_right U o), simp ring at (mul-le-mul_right D h)))) e

beneath : (U P N D Q M E l l' : ℕ) → 0 < E → P * E + M * D ≤ Q * D + N * E → Q * U + l' * E ≤ l * E + M * U → P * U + l' * D ≤ l * D + N * U
beneath U P N D Q M E l l' e o h = le_of_mul-le-mul_right (simp ring (omega (arith, simp ring at (mul-le-mul_right U o), simp ring at (mul-le-mul_right D h)))) e

-- a float of the format stands for its value with no error
pub own_near : (f : Format) (x : Float) → T (fits f x) → T (finite x) → Near (2 ^ low f) x (value x) 0
own_near f x t h =
    let q = quanta_of f x t h in
    record { plus = q.plus; minus = q.minus; quanta = q.quanta; close = none q.plus q.minus (num⁺ (value x)) (num⁻ (value x)) (value x).den (2 ^ low f) (quanta_value (2 ^ low f) x q.plus q.minus q.quanta) }
  where
    none : (p n P N D U : ℕ) → P * U + n * D ≡ N * U + p * D → Close (p * D + N * U) (n * D + P * U) (0 * D)
    none p n P N D U e = omega arith

pub input : (f : Format) (x lo hi : Float) → T (fits f x) → T (constant_of f lo).ok → T (constant_of f hi).ok → T (le lo x) → T (le x hi) → Approximates f x (value x) (range f lo hi)
unfolding range
input f x lo hi t a b l h =
    let U = 2 ^ low f in
    let u = constant_sound f lo a in
    let v = constant_sound f hi b in
    let flo = (value_defined lo).0 u.defined in
    let fhi = (value_defined hi).0 v.defined in
    let fx = between_finite lo x hi flo fhi l h in
    let n = own_near f x t fx in
    record {
      defined = quanta_defined U x n.plus n.minus n.quanta;
      near = n;
      lower = above U (num⁺ (value x)) (num⁻ (value x)) (value x).den (num⁺ (value lo)) (num⁻ (value lo)) (value lo).den (part⁺ (constant_of f lo).bound.lo) (part⁻ (constant_of f lo).bound.lo) u.defined
          (≤ℚ-parts (value lo) (value x) ((le_value lo x flo fx).0 l)) u.lower;
      upper = beneath U (num⁺ (value x)) (num⁻ (value x)) (value x).den (num⁺ (value hi)) (num⁻ (value hi)) (value hi).den (part⁺ (constant_of f hi).bound.hi) (part⁻ (constant_of f hi).bound.hi) v.defined
          (≤ℚ-parts (value x) (value hi) ((le_value x hi fx fhi).0 h)) v.upper;
    }

-- ---- an exact value that is equal, and looser bounds
pub equal_near : (f : Format) (x : Float) (A B : Fraction) (e : ℕ) → Equal A B → Near (2 ^ low f) x A e → Near (2 ^ low f) x B e
equal_near f x A B e q n =
    record {
      plus = n.plus;
      minus = n.minus;
      quanta = n.quanta;
      close =
          cancel A.den q.left
          (core n.plus n.minus (num⁺ A) (num⁻ A) A.den (num⁺ B) (num⁻ B) B.den (times B.den n.close) (ap (λ (z : ℕ). z * 2 ^ low f) (equal⁺ q)) (ap (λ (z : ℕ). z * 2 ^ low f) (equal⁻ q)));
    }
  where
    core : (p n P N D Q M E : ℕ) → Close ((p * D + N * 2 ^ low f) * E) ((n * D + P * 2 ^ low f) * E) (e * D * E) → P * E * 2 ^ low f ≡ Q * D * 2 ^ low f → N * E * 2 ^ low f ≡ M * D * 2 ^ low f
        → Close ((p * E + M * 2 ^ low f) * D) ((n * E + Q * 2 ^ low f) * D) (e * E * D)
    core p n P N D Q M E h i j = plain (2 ^ low f) h i j
      where
        plain : (U : ℕ) → Close ((p * D + N * U) * E) ((n * D + P * U) * E) (e * D * E) → P * E * U ≡ Q * D * U → N * E * U ≡ M * D * U → Close ((p * E + M * U) * D) ((n * E + Q * U) * D) (e * E * D)
        plain U h i j = simp ring (omega (arith, simp ring at h, simp ring at i, simp ring at j))

-- a float of the format that is equal to A stands for it with no error
pub exact_input : (f : Format) (x : Float) (A : Fraction) (lo hi : ℤ) → T (fits f x) → Equal (value x) A → Lower (2 ^ low f) A lo → Upper (2 ^ low f) A hi
    → Approximates f x A (record { lo = lo; hi = hi; err = 0 })
exact_input f x A lo hi t e l h = record { defined = e.right; near = equal_near f x (value x) A 0 e (own_near f x t ((value_defined x).0 e.left)); lower = l; upper = h }

-- b allows whatever a does
unfoldable pub covers : Bound → Bound → Bool
covers a b = le_z b.lo a.lo && le_z a.hi b.hi && leb a.err b.err

pub relax : (f : Format) (x : Float) (A : Fraction) (a b : Bound) → Approximates f x A a → T (covers a b) → Approximates f x A b
unfolding covers
relax f x A a b h t =
    let t₁ = le_z b.lo a.lo in
    let t₂ = le_z a.hi b.hi in
    let t₃ = leb a.err b.err in
    let n = h.near in
    record {
      defined = h.defined;
      near = record { plus = n.plus; minus = n.minus; quanta = n.quanta; close = wider n.close (leb→le a.err b.err (and_r (t₁ && t₂) t₃ t)) };
      lower = lower_relax (num⁺ A) (num⁻ A) A.den (part⁺ a.lo) (part⁻ a.lo) (part⁺ b.lo) (part⁻ b.lo) h.lower (le_z_parts b.lo a.lo (and_l t₁ t₂ (and_l (t₁ && t₂) t₃ t)));
      upper = upper_relax (num⁺ A) (num⁻ A) A.den (part⁺ a.hi) (part⁻ a.hi) (part⁺ b.hi) (part⁻ b.hi) h.upper (le_z_parts a.hi b.hi (and_r t₁ t₂ (and_l (t₁ && t₂) t₃ t)));
    }
  where
    U : ℕ
    U = 2 ^ low f

    wider : {x y : ℕ} → Close x y (a.err * A.den) → a.err ≤ b.err → Close x y (b.err * A.den)
    wider {x} {y} h i = omega (arith, mul-le-mul_right A.den i)

    lower_relax : (p n d l l' k k' : ℕ) → l * d + n * U ≤ p * U + l' * d → k + l' ≤ l + k' → k * d + n * U ≤ p * U + k' * d
    lower_relax p n d l l' k k' h i = omega (arith, mul-le-mul_right d i)

    upper_relax : (p n d l l' k k' : ℕ) → p * U + l' * d ≤ l * d + n * U → l + k' ≤ k + l' → p * U + k' * d ≤ k * d + n * U
    upper_relax p n d l l' k k' h i = omega (arith, mul-le-mul_right d i)

-- ---- WHAT AN APPLICATION CITES
pub bounded : (f : Format) (ρ : ℕ → Float) (σ : ℕ → Fraction) (β : ℕ → Bound) → ((i : ℕ) → Approximates f (ρ i) (σ i) (β i)) → (e : Expr) → Facts f σ e → (r s : ℕ) → 0 < s
    → T (certified f β e r s) → Within (value (eval_float f ρ e)) (eval_exact σ e) (ratio r s)
unfolding certified
bounded f ρ σ β v e k r s S t =
    let a = analyse f β e in
    let b = leb (a.bound.err * s) (r * 2 ^ low f) in
    result f (eval_float f ρ e) (eval_exact σ e) a.bound r s S (sound f ρ σ β v e k (and_l a.ok b t)) (leb→le (a.bound.err * s) (r * 2 ^ low f) (and_r a.ok b t))

-- the same in stages: the bound that one analysis ends in, rounded outward to c, is an input of the next
unfoldable pub concludes : Format → (ℕ → Bound) → Expr → Bound → Bool
unfolding analyse covers
concludes f β e c = (analyse f β e).ok && covers (analyse f β e).bound c

pub concluded : (f : Format) (ρ : ℕ → Float) (σ : ℕ → Fraction) (β : ℕ → Bound) → ((i : ℕ) → Approximates f (ρ i) (σ i) (β i)) → (e : Expr) → Facts f σ e → (c : Bound)
    → T (concludes f β e c) → Approximates f (eval_float f ρ e) (eval_exact σ e) c
unfolding concludes
concluded f ρ σ β v e k c t =
    let a = analyse f β e in
    relax f (eval_float f ρ e) (eval_exact σ e) a.bound c (sound f ρ σ β v e k (and_l a.ok (covers a.bound c) t)) (and_r a.ok (covers a.bound c) t)

-- one input, or two, or three
unfoldable pub one : {X : Type 0} → X → ℕ → X
one x i = x

unfoldable pub two : {X : Type 0} → X → X → ℕ → X
two x y zero = x
two x y (suc i) = y

unfoldable pub three : {X : Type 0} → X → X → X → ℕ → X
three x y z zero = x
three x y z (suc zero) = y
three x y z (suc (suc i)) = z

pub one_input : (f : Format) (x : Float) (A : Fraction) (a : Bound) → Approximates f x A a → (i : ℕ) → Approximates f (one x i) (one A i) (one a i)
unfolding one
one_input f x A a h i = h

pub two_inputs : (f : Format) (x y : Float) (A B : Fraction) (a b : Bound) → Approximates f x A a → Approximates f y B b → (i : ℕ) → Approximates f (two x y i) (two A B i) (two a b i)
unfolding two
two_inputs f x y A B a b h k zero = h
two_inputs f x y A B a b h k (suc i) = k

pub three_inputs : (f : Format) (x y z : Float) (A B C : Fraction) (a b c : Bound) → Approximates f x A a → Approximates f y B b → Approximates f z C c
    → (i : ℕ) → Approximates f (three x y z i) (three A B C i) (three a b c i)
unfolding three
three_inputs f x y z A B C a b c h k l zero = h
three_inputs f x y z A B C a b c h k l (suc zero) = k
three_inputs f x y z A B C a b c h k l (suc (suc i)) = l
