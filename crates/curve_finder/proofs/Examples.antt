-- ENDS THAT ARE NEAR A LEVEL, AND NOT. A row is a sustain byte, a curve byte, the bits of a wanted level, and whether the end is near it, by Python's fractions.
-- The first is farther by 2 ^ -33, and the difference made in f32 is 1/512; the fifth is just 1/512 away, and the sixth has the next f32. Assumes nothing.
use mathlib.Core.Path.{◌≡◌, refl, sym, subst}
use mathlib.Core.Bool.{Bool, true, false, ◌&&◌, beq}
use mathlib.Core.List.{List, [], ◌∷◌}
use Prim.Native.Nat.{ℕ}
use lib.Dec.{T, lit<}
use lib.IntN.{pos, ◌*ℤ◌}
use lib.Signed.{le_z, le_z_yes}
use lib.Ieee.{Float, binary32, of_bits, to_bits, of_int, add, sub, mul, div, neg, lt}
use lib.Ieee.Fits.{and_i, and_l, and_r}
use lib.Ieee.Scale.{finite}
use Rattle.exact.specs.Fraction.{Fraction, ratio, ◌+ℚ◌}
use Rattle.exact.specs.Value.{value}
use Rattle.exact.specs.Binary32.{◌⊖◌, bits}
use Rattle.exact.proofs.Defined.{value_defined}
use Rattle.lists.proofs.Rows.{all_pass}
use Rattle.settings.specs.Settings.{byte_of}
use Rattle.envelope_settings.specs.Formula.{slope_of, sloped, sustain_end_of}
use Rattle.curve_finder.specs.Promises.{Near, Tells}

-- ---- a test of two fractions that computes, and tells
at_most : Fraction → Fraction → Bool
at_most a b = le_z (a.num *ℤ pos b.den) (b.num *ℤ pos a.den)

nearℚ : Fraction → Fraction → Bool
nearℚ a b = at_most a (b +ℚ ratio 1 512) && at_most b (a +ℚ ratio 1 512)

near_tells : (x y : Float) → T (finite x) → T (finite y) → Tells (nearℚ (value x) (value y)) (Near x y)
unfolding nearℚ at_most
near_tells x y f g = record { passed = λ e. near (subst (λ (b : Bool). T b) (sym e) tt); failed = λ e h. subst (λ (b : Bool). T b) e (test h) }
  where
    below : Bool
    below = at_most (value x) (value y +ℚ ratio 1 512)

    above : Bool
    above = at_most (value y) (value x +ℚ ratio 1 512)

    near : T (below && above) → Near x y
    near t =
        record {
          left = (value_defined x).1 f;
          right = (value_defined y).1 g;
          bound = lit< tt;
          below = le_z_yes (and_l below above t);
          above = le_z_yes (and_r below above t);
        }

    test : Near x y → T (below && above)
    test h = and_i below above h.below.le h.above.le

-- ---- the rows
rows : List (ℕ × ℕ × ℕ × Bool)
rows =
    (1, 14, 0x3b1c_3855, false) ∷ (1, 15, 0x3b1c_3855, true) ∷ (0, 254, 0x3f80_0000, false)
    ∷ (0, 255, 0x3f80_0000, true) ∷ (255, 0, 0x3b00_0000, true) ∷ (255, 0, 0x3b00_0001, false)
    ∷ (0, 127, 0x8000_0000, true) ∷ (0, 128, 0x3b80_8081, true) ∷ (0, 128, 0x3c00_8081, false)
    ∷ (0, 129, 0x3c00_8081, false) ∷ (100, 80, 0x3e80_0000, false) ∷ (100, 81, 0x3e80_0000, true)
    ∷ (100, 82, 0x3e80_0000, false) ∷ (128, 127, 0x3f00_0000, true) ∷ (200, 195, 0x3f66_6666, true)
    ∷ (200, 194, 0x3f66_6666, false) ∷ (254, 254, 0x3f7f_7fff, true) ∷ []

row : ℕ × ℕ × ℕ × Bool → Bool
row r = beq (nearℚ (value (sustain_end_of r.0 r.1)) (value (bits r.2))) r.3

near_agrees : T (all_pass row rows)
unfolding all_pass row rows nearℚ at_most value sustain_end_of sloped slope_of byte_of of_bits of_int add sub mul div neg lt
near_agrees = tt

-- ---- the difference of the first row, in f32, is 1/512
rounded_difference : to_bits binary32 (bits 0x3b1c_3855 ⊖ sustain_end_of 1 14) ≡ 0x3b00_0000
unfolding sustain_end_of sloped slope_of byte_of to_bits of_bits of_int add sub mul div neg lt
rounded_difference = refl
