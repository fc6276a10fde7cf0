-- A NUMBER'S BYTES AT THEIR PLACES, from the last place to the first. Assumes nothing.
use mathlib.Core.Path.{◌≡◌, refl, ◌∙◌}
use mathlib.Core.List.{List, [], ◌∷◌}
use Prim.Native.Nat.{ℕ, zero, suc, ◌-◌, ◌/◌, ◌%◌, ◌^◌, ◌≤◌, ◌<◌}
use native.Mathlib.Nat.{pow-suc, div-one, div-div-eq-div-mul, sub_self}
use native.Mathlib.Omega.{arith}
use lib.ListN.{length, drop, get_or, set, length-set, length-drop, drop_of_length-le}
use lib.Seq.{drop-cons}
use Rattle.inputs.specs.Inputs.{with_bytes}

-- The length stays.
pub with_length : (places : List ℕ) (n : ℕ) (block : List ℕ) → length (with_bytes places n block) ≡ length block
unfolding with_bytes
with_length [] n block = refl
with_length (p ∷ places) n block = length-set (with_bytes places n block) p (n / 256 ^ length places % 256) ∙ with_length places n block

-- ---- the turns of the loop: the places from number `left` on are put
pub none_put : (places : List ℕ) (n : ℕ) (block : List ℕ) → block ≡ with_bytes (drop (length places) places) n block
unfolding with_bytes
none_put places n block = let e : length places ≤ length places = omega arith in simp (drop_of_length-le places e)

pub none_divided : (n count : ℕ) → n ≡ n / 256 ^ (count - count)
none_divided n count = simp (sub_self count, div-one n)

-- The next place takes the lowest digit of what is left of the number.
put_place : (places : List ℕ) (k n rest : ℕ) (block before after : List ℕ) → k < length places → rest ≡ n / 256 ^ (length places - suc k) → before ≡ with_bytes (drop (suc k) places) n block →
    after ≡ set before (get_or places k 0) (rest % 256) → after ≡ with_bytes (drop k places) n block
unfolding with_bytes
put_place places k n rest block before after h er eb ea = ea ∙ simp (drop-cons places k 0 h, length-drop (suc k) places, eb, er)

pub one_put : (places : List ℕ) (left n rest : ℕ) (block before after : List ℕ) → 0 < left → left ≤ length places → rest ≡ n / 256 ^ (length places - left) → before ≡ with_bytes (drop left places) n block →
    after ≡ set before (get_or places (left - 1) 0) (rest % 256) → after ≡ with_bytes (drop (left - 1) places) n block
one_put places zero n rest block before after z h er eb ea = absurd (omega arith)
one_put places (suc k) n rest block before after z h er eb ea =
    let e : suc k - 1 ≡ k = omega arith in
    let l : k < length places = omega arith in
    rw e (put_place places k n rest block before after l er eb (rw e at ea))

pub one_divided : (n count left rest : ℕ) → 0 < left → left ≤ count → rest ≡ n / 256 ^ (count - left) → rest / 256 ≡ n / 256 ^ (count - (left - 1))
one_divided n count left rest z h e =
    let s : count - (left - 1) ≡ suc (count - left) = omega arith in
    simp (e, s, pow-suc 256 (count - left), div-div-eq-div-mul n (256 ^ (count - left)) 256)

pub all_put : (places : List ℕ) (left n : ℕ) (block after : List ℕ) → left ≤ 0 → after ≡ with_bytes (drop left places) n block → after ≡ with_bytes places n block
all_put places left n block after h ea = let z : left ≡ 0 = omega arith in rw z at ea
