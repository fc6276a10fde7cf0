-- WHERE THE SUSTAIN ENDS is a level, for all 65,536 pairs of a sustain byte and its curve. Below 0 the slope takes a part of the level away; above 0 it adds
-- a part of what the level leaves to 1, and s ⊕ (1 ⊖ s) is at most 1 for every byte. Two computed tests over 256 bytes, and rounding keeps
-- the order. Assumes nothing.
use mathlib.Core.Bool.{Bool, true, false, cond, ◌&&◌}
use Prim.Native.Nat.{ℕ, ◌<◌}
use lib.Dec.{T}
use lib.Ieee.{Float, binary32, of_bits, of_int, fits, lt, le, add, sub, mul, div, neg}
use lib.Ieee.Fits.{and_l, and_r, add-fits, sub-fits, mul-fits}
use Rattle.exact.specs.Binary32.{◌⊕◌, ◌⊖◌, ◌⊗◌, zero₃₂, one₃₂}
use Rattle.exact.proofs.Order.{le_trans}
use Rattle.rounding.proofs.Monotone.{unsigned, unsigned_finite, le_self, add_mono, add_unsigned, mul_to_left, mul_unsigned}
use Rattle.lists.proofs.Every.{every, each}
use Rattle.curve.proofs.Positions.{Level}
use Rattle.settings.specs.Settings.{byte_of}
use Rattle.envelope_settings.specs.Formula.{slope_of, sloped, sustain_end_of}
use Rattle.settings.proofs.Bytes.{unit, unit_unsigned, unit_size, unit_to_one, from_zero, byte_unit, byte_holds}

-- what a level leaves to 1
abbrev rest : Float → Float
rest s = one₃₂ ⊖ s

leaves : ℕ → Bool
leaves b = unit (rest (byte_of b)) && unit (byte_of b ⊕ rest (byte_of b))

all_leave : T (every leaves 256)
unfolding every leaves unit byte_of of_bits of_int add sub div neg
all_leave = tt

-- the part that a slope k takes: 1 + k below 0, and k itself from 0 up
abbrev part : Float → Bool
part k = cond (lt k zero₃₂) (unit (one₃₂ ⊕ k)) (unit k)

all_parts : T (every (λ c. part (slope_of c)) 256)
unfolding every unit slope_of byte_of of_bits of_int add sub mul div lt neg
all_parts = tt

-- ---- a part of x is at most x
part_of : (x k : Float) → T (unsigned x) → T (fits binary32 x) → T (unit k) → T (le (x ⊗ k) x)
part_of x k u t h = mul_to_left binary32 x k u (unit_unsigned k h) t (unit_size k h)

part_unsigned : (x k : Float) → T (unsigned x) → T (fits binary32 x) → T (unit k) → T (unsigned (x ⊗ k))
part_unsigned x k u t h = mul_unsigned binary32 x k x u (unit_unsigned k h) (unsigned_finite x u) (part_of x k u t h)

-- what is at most a float that is at most 1
level_under : (x y : Float) → T (fits binary32 x) → T (unsigned x) → T (le x y) → T (unit y) → Level x
unfolding of_bits
level_under x y t u l h = record { holds = t; from = from_zero x u; to = le_trans x y one₃₂ l (unit_to_one y h) }

below : (s k : Float) → T (unit s) → T (fits binary32 s) → T (unit k) → Level (s ⊗ k)
below s k v t h =
    let u = unit_unsigned s v in
    level_under (s ⊗ k) s (mul-fits binary32 s k) (part_unsigned s k u t h) (part_of s k u t h) v

above : (s k : Float) → T (unsigned s) → T (unit (rest s)) → T (unit (s ⊕ rest s)) → T (unit k) → Level (s ⊕ rest s ⊗ k)
above s k u v l h =
    let r = rest s in
    let t = sub-fits binary32 one₃₂ s in
    let ur = unit_unsigned r v in
    let p = part_unsigned r k ur t h in
    let m = add_mono binary32 s (r ⊗ k) s r u p u ur (le_self s u) (part_of r k ur t h) in
    level_under (s ⊕ r ⊗ k) (s ⊕ r) (add-fits binary32 s (r ⊗ k)) (add_unsigned binary32 s (r ⊗ k) (s ⊕ r) u p (unsigned_finite (s ⊕ r) (unit_unsigned (s ⊕ r) l)) m) m l

pub sustain_end_level : (s c : ℕ) → s < 256 → c < 256 → Level (sustain_end_of s c)
unfolding sustain_end_of sloped leaves
sustain_end_level s c hs hc = go (lt (slope_of c) zero₃₂) (each (λ c. part (slope_of c)) 256 c all_parts hc)
  where
    x : Float
    x = byte_of s

    k : Float
    k = slope_of c

    l : T (leaves s)
    l = each leaves 256 s all_leave hs

    go : (b : Bool) → T (cond b (unit (one₃₂ ⊕ k)) (unit k)) → Level (cond b (x ⊗ (one₃₂ ⊕ k)) (x ⊕ rest x ⊗ k))
    go true h = below x (one₃₂ ⊕ k) (byte_unit s hs) (byte_holds s) h
    go false h = above x k (unit_unsigned x (byte_unit s hs)) (and_l (unit (rest x)) (unit (x ⊕ rest x)) l) (and_r (unit (rest x)) (unit (x ⊕ rest x)) l) h
