-- WHAT IS RETURNED FOR TAPS, OR FOR MARKS, IS RETURNED FOR THOSE EQUAL TO THEM. Assumes nothing.
use mathlib.Core.Path.{◌≡◌, subst}
use mathlib.Core.List.{List}
use Prim.Native.Nat.{ℕ}
use lib.Ieee.{Float}
use Rattle.curve.specs.declared.Height.{Height}
use Rattle.taps.specs.declared.Taps.{Taps}
use Rattle.std.specs.Prelude.{Result}
use Rattle.marks.specs.declared.Marks.{Marks}
use Rattle.refusals.specs.declared.Refusal.{Refusal}
use Rattle.taps.specs.Promises.{TapsAnswered}
use Rattle.c_results.specs.declared.CountResult.{CountResult}
use Rattle.mark_numbers.specs.Results.{MarksNumbers}

pub same_marks : {found known : Result Marks Refusal} {a b : List Float} {c d : List ℕ} {r : CountResult} → found ≡ known → MarksNumbers found a b c d r → MarksNumbers known a b c d r
same_marks {a = a} {b = b} {c = c} {d = d} {r = r} e h = subst (λ (x : Result Marks Refusal). MarksNumbers x a b c d r) e h

pub same_taps : {found known : Taps} {t : Float} {h : Height} → found ≡ known → TapsAnswered found t h → TapsAnswered known t h
same_taps {t = t} {h = h} e k = subst (λ (x : Taps). TapsAnswered x t h) e k
