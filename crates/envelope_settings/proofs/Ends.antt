-- THE ENDS OF AN ENVELOPE'S STRETCHES are in order from 0 to at most 2, for all bytes. A width is at most the sum it is part of, so its share of the total
-- is at most 1; at most 1/2 where twice the width is at most the total. Either attack and decay are both at most 1/2, and then each
-- has half at most; or the total is at least 1, and then the held part has half at most, and so has the smaller of the two. Which of the ends are at 0 is told by the bytes. Assumes nothing.
use mathlib.Core.Path.{◌≡◌, refl, sym, ap, ◌∙◌}
use mathlib.Core.Logic.{◌⊎◌, inl, inr}
use mathlib.Core.Bool.{Bool, false, ◌&&◌}
use Prim.Native.Nat.{ℕ, zero, suc, ◌*◌, ◌≤◌, ◌<◌}
use native.Mathlib.Nat.{mul-le-mul_right, le_of_mul-le-mul_right}
use native.Mathlib.Omega.{arith}
use lib.Dec.{T, eqb, eqb→eq, eqb-suc-zero, not_T}
use lib.Ieee.{Float, binary32, of_bits, of_int, fits, lt, le, eq, add, div, round}
use lib.Ieee.Bits.{is_false}
use lib.Ieee.Fits.{add-fits, div-fits}
use lib.Ieee.Positive.{num, den, den_pos, positive}
use Rattle.exact.specs.Binary32.{◌⊕◌, ◌⊘◌, bits, zero₃₂, half₃₂, one₃₂}
use Rattle.exact.proofs.Close.{ring}
use Rattle.exact.proofs.Order.{le_trans}
use Rattle.rounding.proofs.Monotone.{unsigned, unsigned_finite, le_cross, le_self, le_either, positive_above, add_mono, add_unsigned, add_from_left, add_from_right, div_at_most, div_at_least, div_nothing, div_unsigned}
use Rattle.lists.proofs.Every.{every, each}
use Rattle.settings.specs.Settings.{byte_of}
use Rattle.envelope_settings.specs.Formula.{total_of, first_of, second_of, third_of}
use Rattle.settings.proofs.Bytes.{unit_unsigned, unit_to_one, from_zero, byte_unit, byte_holds}

-- ---- a width: no sign, at most 1, and twice it is exact
record Width (x : Float) : Type 0 where
  holds : T (fits binary32 x)
  plain : T (unsigned x)
  to : T (le x one₃₂)
  twice : num (x ⊕ x) * den x ≡ 2 * num x * den (x ⊕ x)

abbrev doubles : ℕ → Bool
doubles b = eqb (num (byte_of b ⊕ byte_of b) * den (byte_of b)) (2 * num (byte_of b) * den (byte_of b ⊕ byte_of b))

all_double : T (every doubles 256)
unfolding every byte_of of_bits of_int add div
all_double = tt

byte_width : (b : ℕ) → b < 256 → Width (byte_of b)
byte_width b h =
    let x = byte_of b in
    record {
      holds = byte_holds b;
      plain = unit_unsigned x (byte_unit b h);
      to = unit_to_one x (byte_unit b h);
      twice = eqb→eq (num (x ⊕ x) * den x) (2 * num x * den (x ⊕ x)) (each doubles 256 b all_double h);
    }

half_width : Width half₃₂
unfolding of_bits add fits le lt eq
half_width = record { holds = tt; plain = tt; to = tt; twice = refl }

-- ---- sums with no sign, and a bound of them
record Under (x hi : Float) : Type 0 where
  plain : T (unsigned x)
  top : T (unsigned hi)
  to : T (le x hi)

width_under : {x : Float} → Width x → Under x one₃₂
unfolding of_bits
width_under w = record { plain = w.plain; top = tt; to = w.to }

sum_under : {x y p q : Float} → Under x p → Under y q → T (unsigned (p ⊕ q)) → Under (x ⊕ y) (p ⊕ q)
sum_under {x} {y} {p} {q} h k t =
    let m = add_mono binary32 x y p q h.plain k.plain h.top k.top h.to k.to in
    record { plain = add_unsigned binary32 x y (p ⊕ q) h.plain k.plain (unsigned_finite (p ⊕ q) t) m; top = t; to = m }

-- ---- the total of attack, decay, the held half and release, and what it is at least
abbrev held : Float → Float → Float
held a d = a ⊕ d ⊕ half₃₂

abbrev total : Float → Float → Float → Float
total a d r = held a d ⊕ r

abbrev four₃₂ : Float
four₃₂ = bits 0x4080_0000

record Divisor (t : Float) : Type 0 where
  plain : T (unsigned t)
  above : T (positive t)

record Total (a d r : Float) : Type 0 where
  is : Divisor (total a d r)
  both_plain : T (unsigned (a ⊕ d))
  held_plain : T (unsigned (held a d))
  attack : T (le a (a ⊕ d))
  decay : T (le d (a ⊕ d))
  both : T (le (a ⊕ d) (total a d r))
  half : T (le half₃₂ (total a d r))
  rest : T (le (held a d) (total a d r))
  most : T (le (total a d r) four₃₂)

totals : {a d r : Float} → Width a → Width d → Width r → Total a d r
unfolding of_bits add fits le lt eq
totals {a} {d} {r} ha hd hr =
    let s₁ = sum_under (width_under ha) (width_under hd) tt in
    let s₂ = sum_under s₁ (width_under half_width) tt in
    let s₃ = sum_under s₂ (width_under hr) tt in
    let t = total a d r in
    let l = add_from_left binary32 (held a d) r s₂.plain hr.plain (add-fits binary32 (a ⊕ d) half₃₂) in
    let h = le_trans half₃₂ (held a d) t (add_from_right binary32 (a ⊕ d) half₃₂ s₁.plain tt tt) l in
    record {
      is = record { plain = s₃.plain; above = positive_above half₃₂ t tt tt s₃.plain h };
      both_plain = s₁.plain;
      held_plain = s₂.plain;
      attack = add_from_left binary32 a d ha.plain hd.plain ha.holds;
      decay = add_from_right binary32 a d ha.plain hd.plain hd.holds;
      both = le_trans (a ⊕ d) (held a d) t (add_from_left binary32 (a ⊕ d) half₃₂ s₁.plain tt (add-fits binary32 a d)) l;
      half = h;
      rest = l;
      most = s₃.to;
    }

-- ---- a share of the total t is at most 1, and at most 1/2 where twice the width is at most t
share_under : {x t q : Float} → Width x → Divisor t → T (unsigned q) → T (le (x ⊘ t) q) → Under (x ⊘ t) q
share_under {x} {t} {q} w p u h = record { plain = div_unsigned binary32 x t q w.plain p.above (unsigned_finite q u) h; top = u; to = h }

share : {x t : Float} → Width x → Divisor t → T (le x t) → Under (x ⊘ t) one₃₂
unfolding of_bits fits
share {x} {t} w p h = share_under w p tt (div_at_most binary32 x t one₃₂ w.plain p.above tt tt (core (num x) (den x) (num t) (den t) (le_cross x t w.plain p.plain h)))
  where
    core : (a c b d : ℕ) → a * d ≤ b * c → a * d * 1 ≤ 1 * 1 * (b * c)
    core a c b d h = omega arith

half_share : {x t : Float} → Width x → T (unsigned (x ⊕ x)) → Divisor t → T (le (x ⊕ x) t) → Under (x ⊘ t) half₃₂
unfolding of_bits fits
half_share {x} {t} w v p h =
    share_under w p tt
    (div_at_most binary32 x t half₃₂ w.plain p.above tt tt (core (num x) (den x) (num t) (den t) (num (x ⊕ x)) (den (x ⊕ x)) (den_pos (x ⊕ x)) w.twice (le_cross (x ⊕ x) t v p.plain h)))
  where
    core : (a c b d n m : ℕ) → 0 < m → n * c ≡ 2 * a * m → n * d ≤ b * m → a * d * 2 ≤ 1 * 1 * (b * c)
    core a c b d n m M e h = le_of_mul-le-mul_right (simp ring (omega (arith, simp ring at (mul-le-mul_right c h), simp ring at (ap (λ (z : ℕ). z * d) e)))) M

-- ---- the ends, by the shares of attack, decay and the held half
abbrev first : Float → Float → Float
first a t = a ⊘ t

abbrev second : Float → Float → Float → Float
second a d t = first a t ⊕ d ⊘ t

abbrev third : Float → Float → Float → Float
third a d t = second a d t ⊕ half₃₂ ⊘ t

abbrev pub two₃₂ : Float
two₃₂ = bits 0x4000_0000

pub record Ends (a d t : Float) : Type 0 where
  pub from : T (le zero₃₂ (first a t))
  pub first_second : T (le (first a t) (second a d t))
  pub second_third : T (le (second a d t) (third a d t))
  pub to : T (le (third a d t) two₃₂)

-- shares of at most p, q and o
ends_by : {a d t p q o : Float} → Under (a ⊘ t) p → Under (d ⊘ t) q → Under (half₃₂ ⊘ t) o → T (unsigned (p ⊕ q)) → T (unsigned (p ⊕ q ⊕ o)) → T (le (p ⊕ q ⊕ o) two₃₂) → Ends a d t
unfolding of_bits
ends_by {a} {d} {t} {p} {q} {o} x y z u v l =
    let s = sum_under x y u in
    let w = sum_under s z v in
    record {
      from = from_zero (a ⊘ t) x.plain;
      first_second = add_from_left binary32 (a ⊘ t) (d ⊘ t) x.plain y.plain (div-fits binary32 a t);
      second_third = add_from_left binary32 (second a d t) (half₃₂ ⊘ t) s.plain z.plain (add-fits binary32 (a ⊘ t) (d ⊘ t));
      to = le_trans (third a d t) (p ⊕ q ⊕ o) two₃₂ w.to l;
    }

-- a width w that is part of attack and decay together: with the held half it is at most the total
beside : {a d r w : Float} → Total a d r → Width w → T (le w (a ⊕ d)) → T (le (w ⊕ half₃₂) (total a d r))
unfolding of_bits add le lt eq
beside {a} {d} {r} {w} t h l =
    le_trans (w ⊕ half₃₂) (held a d) (total a d r)
    (add_mono binary32 w half₃₂ (a ⊕ d) half₃₂ h.plain tt t.both_plain tt l (le_self half₃₂ tt)) t.rest

twice_plain : {w : Float} → Width w → T (unsigned (w ⊕ w))
unfolding of_bits add
twice_plain h = (sum_under (width_under h) (width_under h) tt).plain

-- it has half the total at most where it is at most 1/2
narrow : {a d r w : Float} → Total a d r → Width w → T (le w (a ⊕ d)) → T (le w half₃₂) → Under (w ⊘ total a d r) half₃₂
unfolding of_bits add
narrow {a} {d} {r} {w} t h l k =
    half_share h (twice_plain h) t.is
    (le_trans (w ⊕ w) (w ⊕ half₃₂) (total a d r)
    (add_mono binary32 w w w half₃₂ h.plain h.plain h.plain tt (le_self w h.plain) k) (beside t h l))

-- and the held half has half the total at most where it is at least 1/2
wide : {a d r w : Float} → Total a d r → Width w → T (le w (a ⊕ d)) → T (le half₃₂ w) → Under (half₃₂ ⊘ total a d r) half₃₂
unfolding of_bits add
wide {a} {d} {r} {w} t h l k =
    half_share half_width tt t.is
    (le_trans (half₃₂ ⊕ half₃₂) (w ⊕ half₃₂) (total a d r)
    (add_mono binary32 half₃₂ half₃₂ w half₃₂ tt tt h.plain tt k (le_self half₃₂ tt)) (beside t h l))

-- the smaller of attack and decay has half the total at most
wide_ends : {a d r : Float} → Total a d r → Width a → Width d → Under (half₃₂ ⊘ total a d r) half₃₂ → Ends a d (total a d r)
unfolding of_bits add le lt eq
wide_ends {a} {d} {r} t ha hd z = go (le_either a d ha.plain hd.plain)
  where
    s : Float
    s = total a d r

    x : Under (a ⊘ s) one₃₂
    x = share ha t.is (le_trans a (a ⊕ d) s t.attack t.both)

    y : Under (d ⊘ s) one₃₂
    y = share hd t.is (le_trans d (a ⊕ d) s t.decay t.both)

    smaller : {w : Float} → Width w → T (le (w ⊕ w) (a ⊕ d)) → Under (w ⊘ s) half₃₂
    smaller {w} h k = half_share h (twice_plain h) t.is (le_trans (w ⊕ w) (a ⊕ d) s k t.both)

    go : T (le a d) ⊎ T (le d a) → Ends a d s
    go (inl h) = ends_by (smaller ha (add_mono binary32 a a a d ha.plain ha.plain ha.plain hd.plain (le_self a ha.plain) h)) y z tt tt tt
    go (inr h) = ends_by x (smaller hd (add_mono binary32 d d a d hd.plain hd.plain ha.plain hd.plain h (le_self d hd.plain))) z tt tt tt

width_ends : {a d r : Float} → Width a → Width d → Width r → Ends a d (total a d r)
unfolding of_bits add le lt eq
width_ends {a} {d} {r} ha hd hr = go (le_either a half₃₂ ha.plain tt) (le_either d half₃₂ hd.plain tt)
  where
    t : Total a d r
    t = totals ha hd hr

    go : T (le a half₃₂) ⊎ T (le half₃₂ a) → T (le d half₃₂) ⊎ T (le half₃₂ d) → Ends a d (total a d r)
    go (inl h) (inl k) = ends_by (narrow t ha t.attack h) (narrow t hd t.decay k) (share half_width t.is t.half) tt tt tt
    go (inl h) (inr k) = wide_ends t ha hd (wide t hd t.decay k)
    go (inr h) k = wide_ends t ha hd (wide t ha t.attack h)

-- ---- for bytes
pub ends : (a d r : ℕ) → a < 256 → d < 256 → r < 256 → Ends (byte_of a) (byte_of d) (total_of a d r)
unfolding total_of
ends a d r ha hd hr = width_ends (byte_width a ha) (byte_width d hd) (byte_width r hr)

-- ---- A SHARE IS NOTHING where its byte is 0, and at least 2^-10 where it isn't: a byte above 0 is at least 2^-8, and the total is at most 4
-- 2^-10 and 2^-8
abbrev least : Float
least = bits 0x3a80_0000

abbrev some : Float
some = bits 0x3b80_0000

some_share : {x t : Float} → Width x → Divisor t → T (le t four₃₂) → T (le some x) → T (le least (x ⊘ t))
unfolding of_bits fits
some_share {x} {t} w p h k =
    div_at_least binary32 x t least w.plain p.above tt tt (core (num x) (den x) (num t) (den t) (le_cross some x tt w.plain k) (le_cross t four₃₂ p.plain tt h))
  where
    core : (a c b d : ℕ) → 1 * c ≤ a * 256 → b * 1 ≤ 4 * d → 1 * (b * c) ≤ a * d * 1024
    core a c b d h k = simp ring (omega (arith, simp ring at (mul-le-mul_right (4 * d) h), simp ring at (mul-le-mul_right c k)))

all_some : T (every (λ k. le some (byte_of (suc k))) 255)
unfolding every byte_of of_bits of_int div le lt eq
all_some = tt

no_share : (t : Float) → T (positive t) → byte_of 0 ⊘ t ≡ zero₃₂
unfolding byte_of of_bits of_int div round
no_share t p = div_nothing binary32 (byte_of 0) t tt refl p

-- ---- WHICH ENDS ARE AT 0: the first where the attack's byte is 0, the second where the decay's is too, the third never
above_zero : (y : Float) → T (le least y) → le y zero₃₂ ≡ false
unfolding of_bits
above_zero y h = is_false (le y zero₃₂) (not_T (le y zero₃₂) (λ k. unfold le lt eq in le_trans least y zero₃₂ h k))

byte_share : (k : ℕ) {t : Float} → suc k < 256 → Divisor t → T (le t four₃₂) → T (le least (byte_of (suc k) ⊘ t))
byte_share k h p m = some_share (byte_width (suc k) h) p m (each (λ k. le some (byte_of (suc k))) 255 k all_some (omega arith))

first_tested : (a : ℕ) (t : Float) → a < 256 → Divisor t → T (le t four₃₂) → le (byte_of a ⊘ t) zero₃₂ ≡ eqb a 0
unfolding of_bits le lt eq
first_tested zero t h p m = rw (no_share t p.above) refl
first_tested (suc k) t h p m = above_zero (byte_of (suc k) ⊘ t) (byte_share k h p m) ∙ sym (eqb-suc-zero k)

second_tested : (a d : ℕ) (t : Float) → a < 256 → d < 256 → Divisor t → T (le t four₃₂) → T (unsigned (byte_of a ⊘ t)) → T (unsigned (byte_of d ⊘ t)) → le (second (byte_of a) (byte_of d) t) zero₃₂ ≡ (eqb a 0 && eqb d 0)
unfolding of_bits add le lt eq
second_tested zero zero t ha hd p m u v = rw (no_share t p.above) refl
second_tested zero (suc k) t ha hd p m u v =
    above_zero (second (byte_of 0) (byte_of (suc k)) t)
    (le_trans least (byte_of (suc k) ⊘ t) (second (byte_of 0) (byte_of (suc k)) t) (byte_share k hd p m) (add_from_right binary32 (byte_of 0 ⊘ t) (byte_of (suc k) ⊘ t) u v (div-fits binary32 (byte_of (suc k)) t))) ∙
    sym (eqb-suc-zero k)
second_tested (suc k) d t ha hd p m u v =
    above_zero (second (byte_of (suc k)) (byte_of d) t)
    (le_trans least (byte_of (suc k) ⊘ t) (second (byte_of (suc k)) (byte_of d) t) (byte_share k ha p m) (add_from_left binary32 (byte_of (suc k) ⊘ t) (byte_of d ⊘ t) u v (div-fits binary32 (byte_of (suc k)) t))) ∙
    sym (ap (λ (z : Bool). z && eqb d 0) (eqb-suc-zero k))

pub record AtZero (a d r : ℕ) : Type 0 where
  pub first : le (first_of a d r) zero₃₂ ≡ eqb a 0
  pub second : le (second_of a d r) zero₃₂ ≡ (eqb a 0 && eqb d 0)
  pub third : le (third_of a d r) zero₃₂ ≡ false

pub at_zero : (a d r : ℕ) → a < 256 → d < 256 → r < 256 → AtZero a d r
unfolding total_of first_of second_of third_of of_bits le lt eq
at_zero a d r ha hd hr =
    record {
      first = first_tested a s ha t.is t.most;
      second = second_tested a d s ha hd t.is t.most u v;
      third = above_zero (third x y s) (le_trans least (half₃₂ ⊘ s) (third x y s) (some_share half_width t.is t.most tt) (add_from_right binary32 (second x y s) (half₃₂ ⊘ s) both (share half_width t.is t.half).plain (div-fits binary32 half₃₂ s)));
    }
  where
    x : Float
    x = byte_of a

    y : Float
    y = byte_of d

    s : Float
    s = total_of a d r

    t : Total x y (byte_of r)
    t = totals (byte_width a ha) (byte_width d hd) (byte_width r hr)

    u : T (unsigned (x ⊘ s))
    u = (share (byte_width a ha) t.is (le_trans x (x ⊕ y) s t.attack t.both)).plain

    v : T (unsigned (y ⊘ s))
    v = (share (byte_width d hd) t.is (le_trans y (x ⊕ y) s t.decay t.both)).plain

    both : T (unsigned (second x y s))
    both = let e = ends a d r ha hd hr in add_unsigned binary32 (x ⊘ s) (y ⊘ s) two₃₂ u v tt (le_trans (second x y s) (third x y s) two₃₂ e.second_third e.to)
