-- THE FADE'S HEIGHT IS WITHIN 1 / 262,144 OF ITS EXACT HEIGHT, whatever the end below 1, a subnormal one too: below the end t / end is at most 1, and a quotient
-- of two stored numbers is rounded once. The float comparison is the exact one. Assumes nothing.
use mathlib.Core.Path.{◌≡◌}
use mathlib.Core.Bool.{Bool, true, false, cond}
use Prim.Native.Nat.{ℕ, zero, suc, ◌+◌, ◌*◌, ◌^◌, ◌≤◌, ◌<◌}
use native.Mathlib.Nat.{mul-le-mul_right, lt_of_mul-lt-mul_right, lt_irrefl}
use native.Mathlib.Omega.{arith}
use lib.IntN.{ℤ, pos, negsuc}
use lib.Dec.{T, lit<}
use lib.Ieee.{Float, binary32, of_bits, fits, lt}
use lib.Ieee.Fits.{cond-fits, div-fits}
use lib.Ieee.Bits.{of_bits-fits}
use Rattle.exact.specs.Fraction.{Fraction, ratio, over, ltℚ, ◌/ℚ◌, ◌≤ℚ◌}
use Rattle.exact.specs.Value.{value, Within}
use Rattle.exact.specs.Binary32.{◌⊘◌, zero₃₂, one₃₂}
use Rattle.exact.proofs.Parts.{num⁺, num⁻, part⁺, part⁻, scale⁺, scale⁻}
use Rattle.exact.proofs.Defined.{value_defined, choice_is}
use Rattle.exact.proofs.Order.{≤ℚ-parts, ltℚ_parts, equal_within, equal_refl, lt_value, le_value}
use Rattle.rounding.proofs.Quanta.{quanta_value}
use Rattle.rounding.proofs.Analyser.{Approximates, Lower, Upper, Facts, eval_float, eval_exact}
use Rattle.rounding.proofs.Inputs.{range, two, two_inputs, bounded}
use Rattle.curve.specs.Curve.{position_of, drawn_of, Drawn}
use Rattle.curve.proofs.Positions.{Level, position_level, level_finite}
use Rattle.curve.proofs.Clamped.{drawn_near}
use Rattle.settings.specs.declared.Fade.{Fade}
use Rattle.settings.proofs.Ranges.{FadeRange}
use Rattle.fade.specs.Formula.{fade_level_of, fade_height_of}
use Rattle.fade.specs.Exact.{fadeℚ, fade_heightℚ}
use Rattle.curve.proofs.LevelInput.{unit, level_input}
use Rattle.fade.proofs.Rise.{rise, ends, rise_ok}

-- ---- 0 ≤ P < E: then E is at least one quantum, and P / E lies from 0 to 1
least_end : (P N D Q M E p n U : ℕ) → 0 < U → N * 1 ≤ P * 1 → P * E + M * D < Q * D + N * E → Q * U + n * E ≡ M * U + p * E → 1 * E + M * U ≤ Q * U + 0 * E
least_end P N D Q M E p n U u h l e =
    let a : M < Q = lt_of_mul-lt-mul_right D (omega (arith, mul-le-mul_right E h)) in
    let b : n < p = lt_of_mul-lt-mul_right E (omega (arith, mul-le-mul_right U a)) in
    omega (arith, mul-le-mul_right E b)

record Part (A : Fraction) : Type 0 where
  low : Lower (2 ^ 149) A (pos 0)
  high : Upper (2 ^ 149) A (pos (2 ^ 149))

part_of : (A : Fraction) (n : ℤ) (d : ℕ) → 0 < d → num⁻ A * 1 ≤ num⁺ A * 1 → num⁺ A * d + part⁻ n * A.den < part⁺ n * A.den + num⁻ A * d → Part (over A n d)
part_of A n zero d h l = absurd (lt_irrefl 0 d)
part_of A (negsuc n) (suc d) D h l = absurd (none (num⁺ A) (num⁻ A) A.den h l)
  where
    none : (P N E : ℕ) → N * 1 ≤ P * 1 → P * suc d + suc n * E < 0 * E + N * suc d → ⊥
    none P N E h l = omega (arith, mul-le-mul_right (suc d) h)
part_of A (pos n) (suc d) D h l =
    record {
      low = rw (scale⁺ A.num (suc d), scale⁻ A.num (suc d)) (below (num⁺ A) (num⁻ A) A.den (2 ^ 149) h);
      high = rw (scale⁺ A.num (suc d), scale⁻ A.num (suc d)) (above (num⁺ A) (num⁻ A) A.den (2 ^ 149) l);
    }
  where
    below : (P N E U : ℕ) → N * 1 ≤ P * 1 → 0 * (E * n) + N * suc d * U ≤ P * suc d * U + 0 * (E * n)
    below P N E U h = omega (arith, mul-le-mul_right (suc d * U) h)

    above : (P N E U : ℕ) → P * suc d + 0 * E < n * E + N * suc d → P * suc d * U + 0 * (E * n) ≤ U * (E * n) + N * suc d * U
    above P N E U l = omega (arith, mul-le-mul_right U l)

-- ---- below the end
from_zero : (x : Float) → Level x → ratio 0 1 ≤ℚ value x
unfolding value of_bits
from_zero x h = (le_value zero₃₂ x tt (level_finite x h)).0 h.from

end_input : (x e : Float) → Level x → Level e → T (ltℚ (value x) (value e)) → Approximates binary32 e (value e) ends
unfolding ends unit range value of_bits
end_input x e h k l =
    let i = level_input e k in
    let n = i.near in
    record {
      defined = i.defined;
      near = n;
      lower = least_end (num⁺ (value x)) (num⁻ (value x)) (value x).den (num⁺ (value e)) (num⁻ (value e)) (value e).den n.plus n.minus (2 ^ 149) (lit< tt)
          (omega (arith, ≤ℚ-parts (ratio 0 1) (value x) (from_zero x h))) (ltℚ_parts (value x) (value e) l) (quanta_value (2 ^ 149) e n.plus n.minus n.quanta);
      upper = i.upper;
    }

rising : (x e : Float) → Level x → Level e → T (ltℚ (value x) (value e)) → Within (value (x ⊘ e)) (value x /ℚ value e) (ratio 1 262144)
unfolding rise two eval_float eval_exact Facts
rising x e h k l =
    let p =
    part_of (value x) (value e).num (value e).den ((value_defined e).1 (level_finite e k)) (omega (arith, ≤ℚ-parts (ratio 0 1) (value x) (from_zero x h))) (ltℚ_parts (value x) (value e) l) in
    bounded binary32 (two x e) (two (value x) (value e)) (two unit ends) (two_inputs binary32 x e (value x) (value e) unit ends (level_input x h) (end_input x e h k l)) rise ((tt, tt), p.low, p.high) 1 262144 (lit< tt) rise_ok

-- ---- the level
one_within : Within (value one₃₂) (ratio 1 1) (ratio 1 262144)
unfolding value of_bits
one_within = equal_within (equal_refl (lit< tt)) (lit< tt)

pub fade_level_near : (f : Fade) → FadeRange f → (x : Float) → Level x → Within (value (fade_level_of f x)) (fadeℚ (value f.end) (value x)) (ratio 1 262144)
unfolding fade_level_of fadeℚ
fade_level_near f r x h =
    let e = f.end in
    let d = (value_defined x).1 (level_finite x h) in
    rw (choice_is (value x) (value e) d ((value_defined e).1 (level_finite e r.end)), lt_value x e (level_finite x h) (level_finite e r.end))
    (go (ltℚ (value x) (value e)) (rising x e h r.end))
  where
    go : (b : Bool) → (T b → Within (value (x ⊘ f.end)) (value x /ℚ value f.end) (ratio 1 262144)) → Within (value (cond b (x ⊘ f.end) one₃₂)) (cond b (value x /ℚ value f.end) (ratio 1 1)) (ratio 1 262144)
    go true k = k tt
    go false k = one_within

level_fits : (f : Fade) (x : Float) → T (fits binary32 (fade_level_of f x))
unfolding fade_level_of
level_fits f x = cond-fits binary32 (lt x f.end) (x ⊘ f.end) one₃₂ (div-fits binary32 x f.end) (of_bits-fits binary32 0x3f80_0000)

-- ---- THE THEOREM
pub fade_drawn : (f : Fade) → FadeRange f → (t : Float) → T (fits binary32 t) → Drawn (fade_height_of f t).height (fade_heightℚ f t) (ratio 1 262144)
unfolding fade_height_of fade_heightℚ drawn_of
fade_drawn f r t h =
    let x = position_of t in
    drawn_near (fade_level_of f x) (fadeℚ (value f.end) (value x)) 1 262144 (level_fits f x) (fade_level_near f r x (position_level t h))
