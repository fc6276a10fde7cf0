-- WHAT ONE STEP COSTS. In units of 2 ^ -29: where the level of the walk in binary32 lies within e units of the exact one, the next lies within e + 162. The rounded difference
-- costs 32, the limit 97 and the last sum 33; the targets lie within 1,184 of each other, and e is at least that. Assumes nothing.
use mathlib.Core.Path.{sym, subst}
use mathlib.Core.Logic.{◌⊎◌, inl, inr}
use mathlib.Core.Bool.{Bool, true, false, not, cond}
use Prim.Native.Nat.{ℕ, ◌+◌, ◌-◌, ◌*◌, ◌^◌, ◌≤◌}
use native.Mathlib.Nat.{mul-pos, mul-le-mul_right}
use native.Mathlib.Omega.{arith}
use lib.IntN.{ℤ, pos, negsuc}
use lib.Signed.{le_z_yes}
use lib.Dec.{T, lit<, lit≤}
use lib.Ieee.{Float, binary32, neg, fits, lt}
use lib.Ieee.Fits.{add-fits, sub-fits, neg-fits, cond-fits}
use lib.Ieee.Scale.{finite}
use Rattle.exact.specs.Fraction.{Fraction, Defined, ratio, absℚ, negℚ, minℚ, ◌+ℚ◌, ◌-ℚ◌, ◌≤ℚ◌}
use Rattle.exact.specs.Value.{value, Equal, Within}
use Rattle.exact.specs.Binary32.{◌⊕◌, ◌⊖◌}
use Rattle.exact.proofs.Defined.{value_defined}
use Rattle.exact.proofs.Order.{≤ℚ-parts, parts-≤ℚ, ≤ℚ-trans, ≤ℚ-total, sum_raise_left, AtMost, at_most_refl, at_most_trans, at_most_equal, equal_refl, equal_sym, equal_at_most, equal_within, within_sym, within_negate, within_triangle, within_loosen, within_equal_left, within_equal_right, lt_at_most, nlt_at_most}
use Rattle.exact.proofs.Inequality.{minus_at_most}
use Rattle.exact.proofs.Lipschitz.{upward, downward, before_best, min_is_min, max_is_max, abs_is_max, whole_over}
use Rattle.rounding.proofs.UnitRoundoff.{neg_value, add_relative}
use Rattle.rounding.proofs.Relative.{relative_absolute}
use Rattle.rounding.proofs.Analyser.{Bound, Expr, var, plus, minus, Approximates, analyse, certified, plain, eval_float, eval_exact}
use Rattle.rounding.proofs.Soundness.{plainly}
use Rattle.rounding.proofs.Inputs.{own_near, covers, two, two_inputs, bounded, concludes, concluded, result}
use Rattle.rounding.proofs.OwnRange.{own_range}
use Rattle.math.specs.Formulas.{clamp_of}
use Rattle.lfo_shapes.proofs.ShapeError.{InRange}
use Rattle.walk.specs.Exact.{heldℚ}
use Rattle.walk.proofs.HeldStep.{negate_at_most, plus_at_most, plus_within, there, step_within, held_inside, held_range, step_above, step_below}
use Rattle.walk.proofs.MostError.{Limited}

-- ---- distances in units of 1 / s
pub units_loosen : {a b : Fraction} (r t s : ℕ) → r ≤ t → Within a b (ratio r s) → Within a b (ratio t s)
units_loosen r t s l h = within_loosen h h.bound (parts-≤ℚ (ratio r s) (ratio t s) (core s l))
  where
    core : (s : ℕ) → r ≤ t → r * s + 0 * s ≤ t * s + 0 * s
    core s l = omega (arith, mul-le-mul_right s l)

pub units_chain : {a b c : Fraction} (r t s : ℕ) → Within a b (ratio r s) → Within b c (ratio t s) → Within a c (ratio (r + t) s)
units_chain r t s h k = within_loosen (within_triangle h k) h.bound (parts-≤ℚ (ratio r s +ℚ ratio t s) (ratio (r + t) s) (core s))
  where
    core : (s : ℕ) → (r * s + t * s) * s + 0 * (s * s) ≤ (r + t) * (s * s) + 0 * s
    core s = omega arith

-- ---- a number near one that lies from a to b
least : {x A q : Fraction} (a : Fraction) → Defined A → Within x A q → a ≤ℚ A → a -ℚ q ≤ℚ x
least {x} {A} {q} a D w l = minus_at_most a q x w.bound (≤ℚ-trans a A (x +ℚ q) D l w.above)

most : {x A q : Fraction} (b : Fraction) → Defined A → Within x A q → A ≤ℚ b → x ≤ℚ b +ℚ q
most {x} {A} {q} b D w l = sum_raise_left x A b q D w.below l

-- ---- THE CLAMP to -m..m, for an m that is not negative
held_high : {m x : Fraction} → AtMost (ratio 0 1) m → AtMost m x → Equal m (heldℚ m x)
unfolding heldℚ
held_high {m} {x} z h =
    let M = h.left in
    let X = h.right in
    let i = max_is_max (negℚ m) (minℚ m x) M (mul-pos M X) in
    let j = min_is_min m x M X in
    at_most_equal (at_most_trans (before_best upward j (at_most_refl M) h) i.right) (before_best downward i (at_most_trans (negate_at_most z) z) j.left)

held_low : (m x : Fraction) → AtMost x (negℚ m) → Equal (negℚ m) (heldℚ m x)
unfolding heldℚ
held_low m x h =
    let M = h.right in
    let X = h.left in
    let i = max_is_max (negℚ m) (minℚ m x) M (mul-pos M X) in
    let j = min_is_min m x M X in
    at_most_equal i.left (before_best downward i (at_most_refl M) (at_most_trans j.right h))

pub clamp_held : (m x : Float) → T (finite m) → T (finite x) → AtMost (ratio 0 1) (value m) → Equal (value (clamp_of (neg m) m x)) (heldℚ (value m) (value x))
unfolding clamp_of
clamp_held m x M X z = go (lt x (neg m)) (lt m x) (λ t. below (lt_at_most x (neg m) X (negated_finite m M) t)) (λ t. above (nlt_at_most x (neg m) X (negated_finite m M) t)) (lt_at_most m x M X) (nlt_at_most m x M X)
  where
    negated_finite : (m : Float) → T (finite m) → T (finite (neg m))
    negated_finite m M = (value_defined (neg m)).0 (subst (λ (a : Fraction). Defined a) (sym (neg_value m)) ((value_defined m).1 M))

    below : AtMost (value x) (value (neg m)) → AtMost (value x) (negℚ (value m))
    below h = subst (λ (a : Fraction). AtMost (value x) a) (neg_value m) h

    above : AtMost (value (neg m)) (value x) → AtMost (negℚ (value m)) (value x)
    above h = subst (λ (a : Fraction). AtMost a (value x)) (neg_value m) h

    go : (a b : Bool) → (T a → AtMost (value x) (negℚ (value m))) → (T (not a) → AtMost (negℚ (value m)) (value x)) → (T b → AtMost (value m) (value x)) → (T (not b) → AtMost (value x) (value m))
        → Equal (value (cond a (neg m) (cond b m x))) (heldℚ (value m) (value x))
    go true b i j k l = subst (λ (a : Fraction). Equal a (heldℚ (value m) (value x))) (sym (neg_value m)) (held_low (value m) (value x) (i tt))
    go false true i j k l = held_high z (k tt)
    go false false i j k l = equal_sym (held_inside (j tt) (l tt))

clamp_fits : (m x : Float) → T (fits binary32 m) → T (fits binary32 x) → T (fits binary32 (clamp_of (neg m) m x))
unfolding clamp_of
clamp_fits m x f g = cond-fits binary32 (lt x (neg m)) (neg m) (cond (lt m x) m x) (neg-fits binary32 m f) (cond-fits binary32 (lt m x) m x f g)

-- ---- THE TWO ROUNDINGS. A level lies from -3 * 2 ^ -13 to 1 + 3 * 2 ^ -13, so a move is at most 1 + 2 ^ -10
abbrev lowest : ℤ
lowest = negsuc (3 * 2 ^ 136 - 1)

abbrev highest : ℤ
highest = pos (2 ^ 149 + 3 * 2 ^ 136)

level_bound : Bound
level_bound = record { lo = lowest; hi = highest; err = 0 }

-- a float of the format from lo to hi quanta
own : (x : Float) (lo hi : ℤ) → T (fits binary32 x) → Defined (value x) → whole_over (2 ^ 149) lo ≤ℚ value x → value x ≤ℚ whole_over (2 ^ 149) hi → Approximates binary32 x (value x) (record { lo = lo; hi = hi; err = 0 })
own x lo hi f d l h =
    record { defined = d; near = own_near binary32 x f ((value_defined x).0 d); lower = ≤ℚ-parts (whole_over (2 ^ 149) lo) (value x) l; upper = ≤ℚ-parts (value x) (whole_over (2 ^ 149) hi) h }

difference : Expr
difference = minus (var 0) (var 1)

move_bound : Bound
move_bound = record { lo = negsuc (2 ^ 149 + 2 ^ 139 - 2 ^ 125 - 1); hi = pos (2 ^ 149 + 2 ^ 139 - 2 ^ 125); err = 2 ^ 125 }

difference_ok : T (concludes binary32 (two level_bound level_bound) difference move_bound)
unfolding concludes covers analyse difference level_bound move_bound two
difference_ok = tt

move_bounded : (t l : Float) → Approximates binary32 t (value t) level_bound → Approximates binary32 l (value l) level_bound → Approximates binary32 (t ⊖ l) (value t -ℚ value l) move_bound
unfolding difference two eval_float eval_exact plain
move_bounded t l h k =
    concluded binary32 (two t l) (two (value t) (value l)) (two level_bound level_bound) (two_inputs binary32 t l (value t) (value l) level_bound level_bound h k) difference (plainly binary32 (two (value t) (value l)) difference tt) move_bound difference_ok

abbrev far_bound : Bound
far_bound = record { lo = negsuc (2 ^ 149 + 2 ^ 139 - 1); hi = pos (2 ^ 149 + 2 ^ 139); err = 0 }

sum : Expr
sum = plus (var 0) (var 1)

sum_ok : T (certified binary32 (two level_bound far_bound) sum 1 1)
unfolding certified analyse sum level_bound two
sum_ok = tt

sum_finite : (l h : Float) → Approximates binary32 l (value l) level_bound → Approximates binary32 h (value h) far_bound → T (finite (l ⊕ h))
unfolding sum two eval_float eval_exact plain
sum_finite l h i j =
    (value_defined (l ⊕ h)).0
    (bounded binary32 (two l h) (two (value l) (value h)) (two level_bound far_bound) (two_inputs binary32 l h (value l) (value h) level_bound far_bound i j) sum (plainly binary32 (two (value l) (value h)) sum tt) 1 1 (lit< tt) sum_ok).left

-- ---- A LEVEL OF THE WALK and the exact one, e units apart
pub record Walked (l : Float) (L : Fraction) (e : ℕ) : Type 0 where
  pub holds : T (fits binary32 l)
  pub near : Within (value l) L (ratio e (2 ^ 29))
  pub inside : InRange L

-- the largest distance of a walk, after 864 steps; that of its targets; and what a step adds
abbrev pub largest : ℕ
largest = 141152

abbrev pub target_error : ℕ
target_error = 1184

abbrev pub step_cost : ℕ
step_cost = 162

level_input : (l : Float) (L : Fraction) (e : ℕ) → e ≤ largest → Walked l L e → Approximates binary32 l (value l) level_bound
unfolding level_bound
level_input l L e k w =
    let q = ratio largest (2 ^ 29) in
    let n = units_loosen e largest (2 ^ 29) k w.near in
    let a = negℚ (ratio 1 262144) in
    let b = ratio 262145 262144 in
    own l lowest highest w.holds n.left
    (≤ℚ-trans (whole_over (2 ^ 149) lowest) (a -ℚ q) (value l) (lit< tt) (le_z_yes tt) (least a n.right n w.inside.from))
    (≤ℚ-trans (value l) (b +ℚ q) (whole_over (2 ^ 149) highest) (lit< tt) (most b n.right n w.inside.to) (le_z_yes tt))

target_input : (t : Float) → T (fits binary32 t) → Defined (value t) → InRange (value t) → Approximates binary32 t (value t) level_bound
unfolding level_bound
target_input t f d r =
    own t lowest highest f d
    (≤ℚ-trans (whole_over (2 ^ 149) lowest) (negℚ (ratio 1 262144)) (value t) (lit< tt) (le_z_yes tt) r.from)
    (≤ℚ-trans (value t) (ratio 262145 262144) (whole_over (2 ^ 149) highest) (lit< tt) r.to (le_z_yes tt))

plus_equal : {a b : Fraction} (c : Fraction) → Defined c → Equal a b → Equal (c +ℚ a) (c +ℚ b)
plus_equal c C e = at_most_equal (plus_at_most c C (equal_at_most e)) (plus_at_most c C (equal_at_most (equal_sym e)))

-- the longest move, 1 + 2 ^ -10, and what no move reaches, 1 + 2 ^ -9
abbrev longest : Fraction
longest = ratio 1025 1024

abbrev beyond : Fraction
beyond = ratio 513 512

move_range : (t l : Float) → Approximates binary32 (t ⊖ l) (value t -ℚ value l) move_bound → AtMost (negℚ longest) (value (t ⊖ l)) × AtMost (value (t ⊖ l)) longest
unfolding move_bound
move_range t l h =
    let x = t ⊖ l in
    let w = own_range binary32 x (value t -ℚ value l) move_bound (sub-fits binary32 t l) h in
    let a = whole_over (2 ^ 149) (negsuc (2 ^ 149 + 2 ^ 139 - 1)) in
    let b = whole_over (2 ^ 149) (pos (2 ^ 149 + 2 ^ 139)) in (
      record { left = lit< tt; right = w.defined; le = ≤ℚ-trans (negℚ longest) a (value x) (lit< tt) (le_z_yes tt) (parts-≤ℚ a (value x) w.lower) },
      record { left = w.defined; right = lit< tt; le = ≤ℚ-trans (value x) b longest (lit< tt) (parts-≤ℚ (value x) b w.upper) (le_z_yes tt) },
    )

move_near : (t l : Float) → Approximates binary32 (t ⊖ l) (value t -ℚ value l) move_bound → Within (value (t ⊖ l)) (value t -ℚ value l) (ratio 32 (2 ^ 29))
unfolding move_bound
move_near t l h = result binary32 (t ⊖ l) (value t -ℚ value l) move_bound 32 (2 ^ 29) (lit< tt) h (lit≤ tt)

-- the held move is that of the values, and no longer
held_input : (m x : Float) → T (fits binary32 m) → T (fits binary32 x) → AtMost (ratio 0 1) (value m) → AtMost (negℚ longest) (value x) → AtMost (value x) longest → Approximates binary32 (clamp_of (neg m) m x) (value (clamp_of (neg m) m x)) far_bound
held_input m x f g z l u =
    let h = clamp_of (neg m) m x in
    let e = clamp_held m x ((value_defined m).0 z.right) ((value_defined x).0 l.right) z in
    let r = held_range z l u (record { left = lit< tt; right = lit< tt; le = le_z_yes tt }) (record { left = lit< tt; right = lit< tt; le = le_z_yes tt }) in
    own h (negsuc (2 ^ 149 + 2 ^ 139 - 1)) (pos (2 ^ 149 + 2 ^ 139)) (clamp_fits m x f g) e.left
    (≤ℚ-trans (whole_over (2 ^ 149) (negsuc (2 ^ 149 + 2 ^ 139 - 1))) (negℚ longest) (value h) (lit< tt) (le_z_yes tt) (at_most_trans r.0 (equal_at_most (equal_sym e))).le)
    (≤ℚ-trans (value h) longest (whole_over (2 ^ 149) (pos (2 ^ 149 + 2 ^ 139))) (lit< tt) (at_most_trans (equal_at_most e) r.1).le (le_z_yes tt))

-- ---- the exact steps from values e apart, by moves from 32 units off
exact_steps : (t l x : Fraction) (m : Float) (S L M : Fraction) (e : ℕ) → Within t S (ratio target_error (2 ^ 29)) → Within l L (ratio e (2 ^ 29)) → Within x (t -ℚ l) (ratio 32 (2 ^ 29)) → AtMost (negℚ longest) x → AtMost x longest
    → Limited m M → target_error ≤ e → e ≤ largest → Within (l +ℚ heldℚ (value m) x) (L +ℚ heldℚ M (S -ℚ L)) (ratio (e + 129) (2 ^ 29))
exact_steps t l x m S L M e tn ln xn lo hi lim a b = go (≤ℚ-total M beyond)
  where
    W : ℕ
    W = 2 ^ 29

    X : Fraction
    X = S -ℚ L

    toward : Within (l +ℚ x) (L +ℚ X) (ratio (e + 129) W)
    toward =
        let i : Within l l (ratio 0 W) = equal_within (equal_refl ln.left) (lit< tt) in
        let j = within_equal_right (there l t ln.left tn.left) (plus_within i xn) in
        units_loosen (32 + target_error) (e + 129) W (omega arith) (within_equal_right (equal_sym (there L S ln.right tn.right)) (units_chain 32 target_error W j tn))

    go : (M ≤ℚ beyond) ⊎ (beyond ≤ℚ M) → Within (l +ℚ heldℚ (value m) x) (L +ℚ heldℚ M (S -ℚ L)) (ratio (e + 129) W)
    go (inl c) =
        let n = lim.near c in
        step_within l x (value m) L X M (ratio (e + 129) W) ln.left xn.left n.left ln.right (mul-pos tn.right ln.right) n.right toward
        (units_loosen (e + 97) (e + 129) W (omega arith) (plus_within ln n)) (units_loosen (e + 97) (e + 129) W (omega arith) (plus_within ln (within_negate n)))
    go (inr c) =
        let k = lim.beyond c in
        let u : AtMost beyond M = record { left = lit< tt; right = lim.exact.right; le = c } in
        let p = held_inside (at_most_trans (negate_at_most k) lo) (at_most_trans hi k) in
        let q = ratio 262144 W in
        let w = units_loosen (32 + (target_error + e)) 262144 W (omega arith) (units_chain 32 (target_error + e) W xn (plus_within tn (within_negate ln))) in
        let X₁ : AtMost (negℚ beyond) X = record { left = lit< tt; right = w.right; le = ≤ℚ-trans (negℚ beyond) (negℚ longest -ℚ q) X (lit< tt) (le_z_yes tt) (least (negℚ longest) w.left (within_sym w) lo.le) } in
        let X₂ : AtMost X beyond = record { left = w.right; right = lit< tt; le = ≤ℚ-trans X (longest +ℚ q) beyond (lit< tt) (most longest w.left (within_sym w) hi.le) (le_z_yes tt) } in
        let r = held_inside (at_most_trans (negate_at_most u) X₁) (at_most_trans X₂ u) in
        within_equal_left (plus_equal l ln.left (equal_sym p)) (within_equal_right (plus_equal L ln.right (equal_sym r)) toward)

-- ---- the last sum: it lies near the exact level, which is at most 1 + 2 ^ -18
abs_within : {a b : Fraction} → AtMost (negℚ (negℚ b)) b → AtMost (negℚ b) a → AtMost a b → AtMost (absℚ a) b
abs_within {a} {b} e l h = before_best downward (abs_is_max a h.left) h (at_most_trans (negate_at_most l) e)

last_sum : (l h : Float) (A : Fraction) (r : ℕ) → T (fits binary32 l) → T (fits binary32 h) → T (finite (l ⊕ h)) → Within (value l +ℚ value h) A (ratio r (2 ^ 29)) → InRange A → r ≤ 262144
    → Within (value (l ⊕ h)) (value l +ℚ value h) (ratio 33 (2 ^ 29))
last_sum l h A r f g t n i k =
    let a = value l +ℚ value h in
    let q = ratio 262144 (2 ^ 29) in
    let w = units_loosen r 262144 (2 ^ 29) k n in
    let lo = negℚ (ratio 1 262144) in
    let hi = ratio 262145 262144 in
    let u : AtMost (negℚ longest) a = record { left = lit< tt; right = w.left; le = ≤ℚ-trans (negℚ longest) (lo -ℚ q) a (lit< tt) (le_z_yes tt) (least lo w.right w i.from) } in
    let v : AtMost a longest = record { left = w.left; right = lit< tt; le = ≤ℚ-trans a (hi +ℚ q) longest (lit< tt) (most hi w.right w i.to) (le_z_yes tt) } in
    within_loosen (relative_absolute longest 1 (2 ^ 24) (add_relative binary32 l h f g t) (lit< tt) (abs_within (record { left = lit< tt; right = lit< tt; le = le_z_yes tt }) u v).le) (lit< tt) (le_z_yes tt)

-- the exact level stays where the shapes lie
step_inside : (S L M : Fraction) → AtMost (ratio 0 1) M → Defined S → Defined L → InRange S → InRange L → InRange (L +ℚ heldℚ M (S -ℚ L))
step_inside S L M z ds dl s l =
    let lo = negℚ (ratio 1 262144) in
    let hi = ratio 262145 262144 in
    record {
      from = (step_above {L = L} {T = S} {a = lo} z (record { left = lit< tt; right = dl; le = l.from }) (record { left = lit< tt; right = ds; le = s.from })).le;
      to = (step_below {L = L} {T = S} {b = hi} z (record { left = dl; right = lit< tt; le = l.to }) (record { left = ds; right = lit< tt; le = s.to })).le;
    }

-- ---- THE STEP
pub step_near : (t l m : Float) (S L M : Fraction) (e : ℕ) → T (fits binary32 t) → Within (value t) S (ratio target_error (2 ^ 29)) → InRange (value t) → InRange S → Walked l L e → Limited m M → target_error ≤ e → e ≤ largest
    → Walked (l ⊕ clamp_of (neg m) m (t ⊖ l)) (L +ℚ heldℚ M (S -ℚ L)) (e + step_cost)
step_near t l m S L M e f tn tr Sr w lim a b =
    let x = t ⊖ l in
    let h = clamp_of (neg m) m x in
    let ln = w.near in
    let lv = level_input l L e b w in
    let mb = move_bounded t l (target_input t f tn.left tr) lv in
    let r = move_range t l mb in
    let eq = clamp_held m x ((value_defined m).0 lim.rounded.right) ((value_defined x).0 r.1.left) lim.rounded in
    let z =
    within_equal_left (plus_equal (value l) ln.left (equal_sym eq)) (exact_steps (value t) (value l) (value x) m S L M e tn ln (move_near t l mb) r.0 r.1 lim a b) in
    let n = sum_finite l h lv (held_input m x lim.holds (sub-fits binary32 t l) lim.rounded r.0 r.1) in
    let i = step_inside S L M lim.exact tn.right ln.right Sr w.inside in
    let y = last_sum l h (L +ℚ heldℚ M (S -ℚ L)) (e + 129) w.holds (clamp_fits m x lim.holds (sub-fits binary32 t l)) n z i (room e b) in
    record { holds = add-fits binary32 l h; near = units_loosen (33 + (e + 129)) (e + step_cost) (2 ^ 29) (sum_of e) (units_chain 33 (e + 129) (2 ^ 29) y z); inside = i }
  where
    room : (e : ℕ) → e ≤ largest → e + 129 ≤ 262144
    room e h = omega arith

    sum_of : (e : ℕ) → 33 + (e + 129) ≤ e + step_cost
    sum_of e = omega arith
