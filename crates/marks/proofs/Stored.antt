-- A RECORD OF MARKS HOLDS THE FIRST EIGHT OF A LIST: a push appends to the list, and at most eight are counted. Assumes nothing.
use mathlib.Core.Path.{◌≡◌, refl, ap, ◌∙◌}
use mathlib.Core.List.{List, [], ◌∷◌, ◌++◌, append-nil, append_assoc}
use mathlib.Core.Bool.{true, false}
use Prim.Native.Nat.{ℕ, zero, suc, ◌+◌, ◌-◌, ◌≤◌}
use native.Mathlib.Numerals.{add-one}
use native.Mathlib.Omega.{arith}
use lib.IntN.{pos}
use lib.Ieee.{Float, binary32, of_int, lt}
use Rattle.marks.specs.declared.Mark.{Mark}
use Rattle.marks.specs.declared.Marks.{Marks}
use Rattle.marks.specs.Marks.{count_of, max_marks, stored, pushed, pushed_all, cycle_mark, cycles_from}
use Rattle.lists.specs.Padded.{padded}

pub pushed_stored : (ks : List Mark) (k : Mark) → pushed (stored ks) k ≡ stored (ks ++ (k ∷ []))
unfolding pushed stored padded count_of
pushed_stored [] k = refl
pushed_stored (a ∷ []) k = refl
pushed_stored (a ∷ b ∷ []) k = refl
pushed_stored (a ∷ b ∷ c ∷ []) k = refl
pushed_stored (a ∷ b ∷ c ∷ d ∷ []) k = refl
pushed_stored (a ∷ b ∷ c ∷ d ∷ e ∷ []) k = refl
pushed_stored (a ∷ b ∷ c ∷ d ∷ e ∷ f ∷ []) k = refl
pushed_stored (a ∷ b ∷ c ∷ d ∷ e ∷ f ∷ g ∷ []) k = refl
pushed_stored (a ∷ b ∷ c ∷ d ∷ e ∷ f ∷ g ∷ h ∷ ks) k = refl

-- The record after one push more.
pub push_more : (ks : List Mark) (k : Mark) {m r : Marks} → m ≡ stored ks → r ≡ pushed m k → r ≡ stored (ks ++ (k ∷ []))
push_more ks k e h = h ∙ (ap (λ (z : Marks). pushed z k) e ∙ pushed_stored ks k)

-- A list is pushed by appending it.
pub pushed_all_stored : (ks ls : List Mark) → pushed_all (stored ks) ls ≡ stored (ks ++ ls)
unfolding pushed_all
pushed_all_stored ks [] = rw append-nil
pushed_all_stored ks (l ∷ ls) = ap (λ (m : Marks). pushed_all m ls) (pushed_stored ks l) ∙ (pushed_all_stored (ks ++ (l ∷ [])) ls ∙ ap stored (append_assoc ks (l ∷ []) ls))

pub push_list : (ks ls : List Mark) {m r : Marks} → m ≡ stored ks → r ≡ pushed_all m ls → r ≡ stored (ks ++ ls)
push_list ks ls e h = h ∙ (ap (λ (z : Marks). pushed_all z ls) e ∙ pushed_all_stored ks ls)

-- ---- the cycles from the one numbered c on
pub cycles_end : (turns : Float) (m : Marks) (c : ℕ) → c ≤ 255 → lt turns (of_int binary32 (pos c)) ≡ true → m ≡ pushed_all m (cycles_from turns (256 - c) c)
unfolding cycles_from pushed_all
cycles_end turns m c l e = let s : 256 - c ≡ suc (255 - c) = omega arith in simp (s, e)

pub cycles_next : (turns : Float) (m : Marks) (c : ℕ) {r : Marks} → c ≤ 255 → lt turns (of_int binary32 (pos c)) ≡ false → r ≡ pushed m (cycle_mark turns c) →
    pushed_all r (cycles_from turns (256 - (c + 1)) (c + 1)) ≡ pushed_all m (cycles_from turns (256 - c) c)
unfolding cycles_from pushed_all
cycles_next turns m c l e p = let s : 256 - c ≡ suc (256 - suc c) = omega arith in simp (add-one, p, s, e)

pub cycles_done : (turns : Float) (m : Marks) (c : ℕ) → 255 ≤ c → m ≡ pushed_all m (cycles_from turns (256 - (c + 1)) (c + 1))
unfolding cycles_from pushed_all
cycles_done turns m c l = let s : 256 - (c + 1) ≡ 0 = omega arith in simp s

-- ---- how many are stored
count_at_most : (n : ℕ) (ks : List Mark) → count_of n ks ≤ n
unfolding count_of
count_at_most zero ks = omega arith
count_at_most (suc n) [] = omega arith
count_at_most (suc n) (k ∷ ks) = omega (arith, count_at_most n ks)

pub stored_at_most : (ks : List Mark) → (stored ks).count ≤ max_marks
unfolding stored
stored_at_most ks = count_at_most max_marks ks
