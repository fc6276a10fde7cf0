-- ONE TRIAL MORE: what `note` computes is the row of the trials with one more. Assumes nothing.
use mathlib.Core.Path.{◌≡◌, refl, sym, ap, ◌∙◌}
use mathlib.Core.Bool.{Bool, true, false}
use mathlib.Core.List.{List, [], ◌∷◌, ◌++◌, append-nil, append_assoc}
use Prim.Native.Nat.{ℕ, ◌+◌, ◌≤◌}
use native.Mathlib.Nat.{le_antisymm}
use native.Mathlib.Numerals.{add-one}
use native.Mathlib.Omega.{arith}
use lib.ListN.{length, length-append}
use borrow.Author.Tests.{le-ltb}
use Rattle.lists.specs.Padded.{padded}
use Rattle.trials.specs.declared.Input.{Input}
use Rattle.trials.specs.declared.Trial.{Trial}
use Rattle.trials.specs.declared.Row.{Row}
use Rattle.trials.specs.Trials.{no_input, values_of, failed_by, failing_of, counted, row_by, row_of, numbered}
use Rattle.trials.specs.Noted.{plus_of, kept_with, noted_by, noted_of, noted_all}

-- ---- values and failing inputs of trials in a row
pub values_append : (ts us : List Trial) → values_of (ts ++ us) ≡ values_of ts + values_of us
unfolding values_of
values_append [] us = omega arith
values_append (t ∷ ts) us = let e = values_append ts us in omega arith

pub failing_append : (ts us : List Trial) → failing_of (ts ++ us) ≡ failing_of ts ++ failing_of us
unfolding failing_of
failing_append [] us = refl
failing_append (t ∷ ts) us = ap (λ (l : List Input). failed_by t.right t.input ++ l) (failing_append ts us) ∙ sym (append_assoc (failed_by t.right t.input) (failing_of ts) (failing_of us))

-- ---- one more
plus_counted : (n v : ℕ) → plus_of (counted n) v ≡ counted (n + v)
plus_counted n v = omega arith

length_more : (fs : List Input) (i : Input) → plus_of (counted (length fs)) 1 ≡ counted (length (fs ++ (i ∷ [])))
length_more fs i = let e : length (fs ++ (i ∷ [])) ≡ length fs + 1 = length-append fs (i ∷ []) in omega arith

-- An input goes to the first free place, and nowhere where there is none.
kept_more : (fs : List Input) (i : Input) → kept_with (padded no_input 3 fs) (counted (length fs)) i ≡ padded no_input 3 (fs ++ (i ∷ []))
unfolding padded kept_with
kept_more [] i = refl
kept_more (a ∷ []) i = refl
kept_more (a ∷ b ∷ []) i = refl
kept_more (a ∷ b ∷ c ∷ fs) i = let h : 3 ≤ counted (length (a ∷ b ∷ c ∷ fs)) = omega arith in simp (le-ltb (counted (length (a ∷ b ∷ c ∷ fs))) 3 h)

noted_by_lem : (right : Bool) (n v : ℕ) (fs : List Input) (i : Input) → noted_by right (row_by n fs) v i ≡ row_by (n + v) (fs ++ failed_by right i)
unfolding noted_by row_by
noted_by_lem true n v fs i = simp (plus_counted n v, append-nil fs)
noted_by_lem false n v fs i = simp (plus_counted n v, length_more fs i, kept_more fs i)

values_more : (ts : List Trial) (t : Trial) → values_of ts + t.values ≡ values_of (ts ++ (t ∷ []))
unfolding values_of
values_more ts t = let e : values_of (ts ++ (t ∷ [])) ≡ values_of ts + (t.values + 0) = values_append ts (t ∷ []) in omega arith

failing_more : (ts : List Trial) (t : Trial) → failing_of ts ++ failed_by t.right t.input ≡ failing_of (ts ++ (t ∷ []))
unfolding failing_of
failing_more ts t = ap (λ (l : List Input). failing_of ts ++ l) (sym (append-nil (failed_by t.right t.input))) ∙ sym (failing_append ts (t ∷ []))

pub noted_more : (ts : List Trial) (t : Trial) → noted_of (row_of ts) t ≡ row_of (ts ++ (t ∷ []))
unfolding noted_of row_of
noted_more ts t = noted_by_lem t.right (values_of ts) t.values (failing_of ts) t.input ∙ simp (values_more ts t, failing_more ts t)

-- ---- some more
pub noted_all_lem : (ts us : List Trial) → noted_all (row_of ts) us ≡ row_of (ts ++ us)
unfolding noted_all
noted_all_lem ts [] = rw append-nil
noted_all_lem ts (u ∷ us) = ap (λ (r : Row). noted_all r us) (noted_more ts u) ∙ (noted_all_lem (ts ++ (u ∷ [])) us ∙ ap row_of (append_assoc ts (u ∷ []) us))

-- One trial after some more.
noted_last : (row : Row) (us : List Trial) (t : Trial) → noted_all row (us ++ (t ∷ [])) ≡ noted_of (noted_all row us) t
unfolding noted_all
noted_last row [] t = refl
noted_last row (u ∷ us) t = noted_last (noted_of row u) us t

-- ---- the turns of a loop over numbered trials
pub none_noted : (row : Row) (f : ℕ → Trial) → row ≡ noted_all row (numbered f 0)
unfolding noted_all numbered
none_noted row f = refl

pub one_noted : (row : Row) (f : ℕ → Trial) (k : ℕ) {before after : Row} {t : Trial} → before ≡ noted_all row (numbered f k) → t ≡ f k → after ≡ noted_of before t → after ≡ noted_all row (numbered f (k + 1))
unfolding numbered
one_noted row f k {before} {after} {t} a b e = rw (add-one k) (e ∙ (ap (λ (r : Row). noted_of r t) a ∙ (ap (noted_of (noted_all row (numbered f k))) b ∙ sym (noted_last row (numbered f k) (f k)))))

pub all_noted : (row : Row) (f : ℕ → Trial) (k n : ℕ) {after : Row} → k ≤ n → n ≤ k → after ≡ noted_all row (numbered f k) → after ≡ noted_all row (numbered f n)
all_noted row f k n h g e = let s : k ≡ n = le_antisymm h g in rw s at e

-- ---- a row from its start
pub row_of_lem : (ts : List Trial) {none row : Row} → none ≡ row_of [] → row ≡ noted_all none ts → row ≡ row_of ts
row_of_lem ts e f = f ∙ (ap (λ (r : Row). noted_all r ts) e ∙ noted_all_lem [] ts)

pub row_of_both : (ts us : List Trial) {none row rows : Row} → none ≡ row_of [] → row ≡ noted_all none ts → rows ≡ noted_all row us → rows ≡ row_of (ts ++ us)
row_of_both ts us e f g = g ∙ (ap (λ (r : Row). noted_all r us) (row_of_lem ts e f) ∙ noted_all_lem ts us)
