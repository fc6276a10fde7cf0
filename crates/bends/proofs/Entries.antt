-- THE CHART OF BENDS: what one computed test over the 256 curve bytes says of each bend. It is near its power, and lies from 1/4 to 4. Assumes nothing.
use mathlib.Core.Path.{◌≡◌, refl, ap, subst⁻¹, ◌∙◌}
use mathlib.Core.Bool.{Bool, true, false, ◌&&◌}
use mathlib.Core.List.{List, []}
use Prim.Native.Nat.{ℕ, ◌+◌, ◌-◌, ◌*◌, ◌/◌, ◌%◌, ◌^◌, ◌<◌}
use native.Mathlib.Omega.{arith}
use lib.ListN.{get_or}
use lib.Dec.{T, leb, leb→le, ltb, ltb→lt}
use lib.Ieee.{Float, nan, inf, fin, binary32, up, down, of_bits, of_int, fits, le, lt, eq, add, sub, mul, div}
use lib.Ieee.Fits.{and_l, and_r, mul-fits}
use Rattle.exact.specs.Value.{value}
use Rattle.exact.specs.Binary32.{bits, quarter₃₂}
use Rattle.series.specs.Horner.{horner}
use Rattle.math.specs.Formulas.{clamp_of}
use Rattle.floor.specs.Formula.{floor_of, fract_of}
use Rattle.exp2.specs.Formula.{exp2_scale, exp2_coefficients, exp2_within, exp2_of}
use Rattle.lists.specs.Listed.{listed}
use Rattle.lists.proofs.Elements.{listed_at}
use Rattle.lists.proofs.Every.{every, each}
use Rattle.bends.specs.Formula.{bend_of, chart_of, parts, Charted}

-- ---- the test of an entry k of byte c: it is near its power
low : ℕ → ℕ → ℕ → ℕ → Bool
low n c a b = leb (((n - 1) * b) ^ 64 * 2 ^ c) ((n * a) ^ 64 * 2 ^ 128)

high : ℕ → ℕ → ℕ → ℕ → Bool
high n c a b = leb ((n * a) ^ 64 * 2 ^ 128) (((n + 1) * b) ^ 64 * 2 ^ c)

near : ℕ → Float → Bool
near c nan = false
near c (inf s) = false
near c (fin true m e) = false
near c (fin false m e) = ltb 0 (down e) && (low parts c (m * up e) (down e) && high parts c (m * up e) (down e))

-- and it lies from 1/4 to 4
abbrev pub four₃₂ : Float
four₃₂ = bits 0x4080_0000

ranges : Float → Bool
ranges k = le quarter₃₂ k && le k four₃₂

entry : ℕ → Float → Bool
entry c k = near c k && ranges k

all_charted : T (every (λ c. entry c (bend_of c)) 256)
unfolding every entry near low high ranges bend_of le lt eq exp2_of exp2_within clamp_of floor_of fract_of exp2_scale exp2_coefficients horner value of_bits of_int add sub mul div
all_charted = tt

-- ---- what it says of each entry
tested : (c : ℕ) → c < 256 → T (entry c (bend_of c))
tested c h = each (λ c. entry c (bend_of c)) 256 c all_charted h

near_charted : (c : ℕ) (k : Float) → T (near c k) → k ≡ bend_of c → Charted c k
unfolding near low high value
near_charted c nan t e = absurd t
near_charted c (inf s) t e = absurd t
near_charted c (fin true m x) t e = absurd t
near_charted c (fin false m x) t e =
    let a = m * up x in
    let b = down x in
    let u = and_r (ltb 0 b) (low parts c a b && high parts c a b) t in
    record {
      is = e;
      num = a;
      den = b;
      holds = refl;
      near =
          record {
            defined = ltb→lt 0 b (and_l (ltb 0 b) (low parts c a b && high parts c a b) t);
            below = leb→le _ _ (and_l (low parts c a b) (high parts c a b) u);
            above = leb→le _ _ (and_r (low parts c a b) (high parts c a b) u);
          };
    }

pub charted_as : (c : ℕ) {k : Float} → c < 256 → k ≡ bend_of c → Charted c k
unfolding entry
charted_as c h e = near_charted c _ (subst⁻¹ (λ (x : Float). T (near c x)) e (and_l (near c (bend_of c)) (ranges (bend_of c)) (tested c h))) e

pub charted : (c : ℕ) → c < 256 → Charted c (bend_of c)
charted c h = charted_as c h refl

-- What stands at the place of byte c: row i of the chart, number c % 16.
pub at_its_place : (i c : ℕ) {rows : List (List Float)} {k : Float} → rows ≡ chart_of → c < 256 → c / 16 ≡ i → k ≡ get_or (get_or rows i []) (c % 16) nan → Charted c k
unfolding chart_of
at_its_place i c e h r g =
    charted_as c h
    (g ∙ ap (λ (t : List (List Float)). get_or (get_or t i []) (c % 16) nan) e ∙ ap (λ (t : List Float). get_or t (c % 16) nan) (listed_at (λ i. listed bend_of (16 * i) 16) [] 0 16 i (omega arith)) ∙
    listed_at bend_of nan (16 * (0 + i)) 16 (c % 16) (omega arith) ∙ ap bend_of (omega arith))

in_range : (c : ℕ) → c < 256 → T (ranges (bend_of c))
unfolding entry
in_range c h = and_r (near c (bend_of c)) (ranges (bend_of c)) (tested c h)

pub bend_from_quarter : (c : ℕ) → c < 256 → T (le quarter₃₂ (bend_of c))
unfolding ranges
bend_from_quarter c h = and_l (le quarter₃₂ (bend_of c)) (le (bend_of c) four₃₂) (in_range c h)

pub bend_to_four : (c : ℕ) → c < 256 → T (le (bend_of c) four₃₂)
unfolding ranges
bend_to_four c h = and_r (le quarter₃₂ (bend_of c)) (le (bend_of c) four₃₂) (in_range c h)

pub bend_holds : (c : ℕ) → T (fits binary32 (bend_of c))
unfolding bend_of exp2_of exp2_within
bend_holds c = mul-fits binary32 _ _
