-- THE ORDER OF TWO FINITE FLOATS, by their quanta: x is p - n and y is q - m of them. Assumes nothing.
use mathlib.Core.Path.{ap}
use mathlib.Core.Bool.{Bool, true, false, not}
use Prim.Native.Nat.{ℕ, ◌+◌, ◌*◌, ◌≤◌, ◌<◌}
use native.Mathlib.Nat.{mul-pos, mul-le-mul_right, mul-lt-mul_of_pos_right, le_of_mul-le-mul_right, lt_of_mul-lt-mul_right}
use native.Mathlib.Omega.{arith}
use lib.Dec.{T, ltb→lt, nltb→le}
use lib.Ieee.{Float, nan, inf, fin, up, down, lt, below}
use lib.Ieee.Fits.{down_pos}
use Rattle.exact.proofs.Close.{ring}
use Rattle.rounding.proofs.Operations.{Signed, Quanta}

less : (s t : Bool) (a c p n b d q m U : ℕ) → 0 < U → 0 < c → 0 < d → Signed s a c p n U → Signed t b d q m U → T (below s (a * d) t (b * c)) → p + m < q + n
less false false a c p n b d q m U P C D h k t =
    lt_of_mul-lt-mul_right (c * d) (simp ring (omega (arith, simp ring at (mul-lt-mul_of_pos_right (ltb→lt (a * d) (b * c) t) P), simp ring at (ap (λ (z : ℕ). z * d) h), simp ring at (ap (λ (z : ℕ). z * c) k))))
less false true a c p n b d q m U P C D h k t = absurd t
less true false a c p n b d q m U P C D h k t =
    lt_of_mul-lt-mul_right (c * d) (simp ring (omega (arith, simp ring at (mul-lt-mul_of_pos_right (ltb→lt 0 (a * d + b * c) t) P), simp ring at (ap (λ (z : ℕ). z * d) h), simp ring at (ap (λ (z : ℕ). z * c) k))))
less true true a c p n b d q m U P C D h k t =
    lt_of_mul-lt-mul_right (c * d) (simp ring (omega (arith, simp ring at (mul-lt-mul_of_pos_right (ltb→lt (b * c) (a * d) t) P), simp ring at (ap (λ (z : ℕ). z * d) h), simp ring at (ap (λ (z : ℕ). z * c) k))))

not_less : (s t : Bool) (a c p n b d q m U : ℕ) → 0 < c → 0 < d → Signed s a c p n U → Signed t b d q m U → T (not (below s (a * d) t (b * c))) → q + n ≤ p + m
not_less false false a c p n b d q m U C D h k t =
    le_of_mul-le-mul_right (simp ring (omega (arith, simp ring at (mul-le-mul_right U (nltb→le (a * d) (b * c) t)), simp ring at (ap (λ (z : ℕ). z * d) h), simp ring at (ap (λ (z : ℕ). z * c) k)))) (mul-pos C D)
not_less false true a c p n b d q m U C D h k t =
    le_of_mul-le-mul_right (simp ring (omega (arith, simp ring at (ap (λ (z : ℕ). z * d) h), simp ring at (ap (λ (z : ℕ). z * c) k)))) (mul-pos C D)
not_less true false a c p n b d q m U C D h k t =
    le_of_mul-le-mul_right (simp ring (omega (arith, simp ring at (mul-le-mul_right U (nltb→le 0 (a * d + b * c) t)), simp ring at (ap (λ (z : ℕ). z * d) h), simp ring at (ap (λ (z : ℕ). z * c) k)))) (mul-pos C D)
not_less true true a c p n b d q m U C D h k t =
    le_of_mul-le-mul_right (simp ring (omega (arith, simp ring at (mul-le-mul_right U (nltb→le (b * c) (a * d) t)), simp ring at (ap (λ (z : ℕ). z * d) h), simp ring at (ap (λ (z : ℕ). z * c) k)))) (mul-pos C D)

pub lt_quanta : (U : ℕ) (x y : Float) (p n q m : ℕ) → 0 < U → Quanta U x p n → Quanta U y q m → T (lt x y) → p + m < q + n
unfolding lt
lt_quanta U nan y p n q m P h k t = absurd h
lt_quanta U (inf s) y p n q m P h k t = absurd h
lt_quanta U (fin s a e) nan p n q m P h k t = absurd k
lt_quanta U (fin s a e) (inf r) p n q m P h k t = absurd k
lt_quanta U (fin s a e) (fin r b d) p n q m P h k t = less s r (a * up e) (down e) p n (b * up d) (down d) q m U P (down_pos e) (down_pos d) h k t

pub nlt_quanta : (U : ℕ) (x y : Float) (p n q m : ℕ) → Quanta U x p n → Quanta U y q m → T (not (lt x y)) → q + n ≤ p + m
unfolding lt
nlt_quanta U nan y p n q m h k t = absurd h
nlt_quanta U (inf s) y p n q m h k t = absurd h
nlt_quanta U (fin s a e) nan p n q m h k t = absurd k
nlt_quanta U (fin s a e) (inf r) p n q m h k t = absurd k
nlt_quanta U (fin s a e) (fin r b d) p n q m h k t = not_less s r (a * up e) (down e) p n (b * up d) (down d) q m U (down_pos e) (down_pos d) h k t
