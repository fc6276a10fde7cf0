-- WHAT IT MEANS THAT A ROW PASSES: something is compared, and no trial fails. Assumes nothing.
use mathlib.Core.Path.{◌≡◌, refl, sym, ◌∙◌}
use mathlib.Core.Bool.{Bool, true, false}
use mathlib.Core.List.{List, [], ◌∷◌, ◌++◌}
use mathlib.Core.Logic.{inl, inr}
use Prim.Native.Nat.{ℕ, zero, suc, ◌<◌}
use native.Mathlib.Nat.{not-suc-le-zero, eq-or-lt_of_le, le_of_suc-le-suc}
use native.Mathlib.Omega.{arith}
use lib.ListN.{length}
use borrow.Author.Tests.{ltb-true, lt-ltb, ne_eqb}
use Rattle.trials.specs.declared.Input.{Input}
use Rattle.trials.specs.declared.Trial.{Trial}
use Rattle.trials.specs.Trials.{values_of, failed_by, failing_of, counted, row_by, row_of, passes_of, numbered}
use Rattle.trials.proofs.Rows.{failing_append}

-- ---- by what the trials are
passes_by : (n : ℕ) (fs : List Input) → passes_of (row_by n fs) ≡ true → (fs ≡ []) × (0 < n)
unfolding passes_of row_by
passes_by n [] h = let l = ltb-true 0 (counted n) h in (refl, omega arith)
passes_by n (i ∷ fs) h =
    let some : counted (length (i ∷ fs)) ≡ 0 → ⊥ = λ e. omega arith in
    let wrong : false ≡ true = rw (ne_eqb (counted (length (i ∷ fs))) 0 some) at h in
    let z : ◌≡◌ {A = ℕ} 0 1 = cc in
    absurd (omega arith)

-- A row that passes compares something, and none of its trials fails.
pub passes_means : (ts : List Trial) → passes_of (row_of ts) ≡ true → (failing_of ts ≡ []) × (0 < values_of ts)
unfolding row_of
passes_means ts h = passes_by (values_of ts) (failing_of ts) h

-- And such a row passes.
pub means_passes : (ts : List Trial) → failing_of ts ≡ [] → 0 < values_of ts → passes_of (row_of ts) ≡ true
unfolding passes_of row_of row_by
means_passes ts e h = let l : 0 < counted (values_of ts) = omega arith in simp (e, lt-ltb 0 (counted (values_of ts)) l)

-- ---- each of numbered trials
both_empty : (xs ys : List Input) → xs ++ ys ≡ [] → (xs ≡ []) × (ys ≡ [])
both_empty [] ys e = (refl, e)
both_empty (x ∷ xs) ys e = let z : ◌≡◌ {A = ℕ} 0 1 = cc in absurd (omega arith)

none_failed : (b : Bool) (i : Input) → failed_by b i ++ [] ≡ [] → b ≡ true
none_failed true i e = refl
none_failed false i e = let z : ◌≡◌ {A = ℕ} 0 1 = cc in absurd (omega arith)

each_by : (f : ℕ → Trial) (n k : ℕ) → failing_of (numbered f n) ≡ [] → k < n → (f k).right ≡ true
unfolding numbered failing_of
each_by f zero k e l = absurd (not-suc-le-zero l)
each_by f (suc n) k e l =
    let parts = both_empty (failing_of (numbered f n)) (failing_of (f n ∷ [])) (sym (failing_append (numbered f n) (f n ∷ [])) ∙ e) in
    elim (eq-or-lt_of_le (le_of_suc-le-suc l)) [
      | inl q ↦ rw q (none_failed (f n).right (f n).input parts.1)
      | inr m ↦ each_by f n k parts.0 m
    ]

-- Of a row that passes each trial is right.
pub each_right : (f : ℕ → Trial) (n k : ℕ) → passes_of (row_of (numbered f n)) ≡ true → k < n → (f k).right ≡ true
each_right f n k h l = each_by f n k (passes_means (numbered f n) h).0 l
