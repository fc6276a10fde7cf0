-- NONE IS SAID EXACTLY WHERE THERE IS NONE: of a level, and by the promise alone. Assumes nothing.
use mathlib.Core.Path.{◌≡◌, ap, subst, ◌∙◌}
use mathlib.Core.Bool.{true}
use Prim.Native.Nat.{ℕ, ◌<◌}
use native.Mathlib.Nat.{suc-ne-zero}
use lib.Ieee.{Float}
use Rattle.std.specs.Prelude.{Option, None, Some, Result, Ok, Err}
use Rattle.refusals.specs.declared.Refusal.{Refusal}
use Rattle.refusals.specs.declared.Refusal.TheVariants.{Block, Code, Strip, Level, Turns}
use Rattle.refusals.specs.Refusals.{accepted, refusal_number, check_level}
use Rattle.level.specs.Level.{is_level}
use Rattle.curve_finder.specs.declared.Search.{Search}
use Rattle.curve_finder.specs.Promises.{EndsNear, SearchPromised, CurvePromised, CurveAnswered}

-- a refusal has a number above 0
numbered : (why : Refusal) → refusal_number why ≡ accepted → ⊥
numbered Block e = suc-ne-zero 0 e
numbered Code e = suc-ne-zero 1 e
numbered Strip e = suc-ne-zero 2 e
numbered Level e = suc-ne-zero 3 e
numbered Turns e = suc-ne-zero 4 e

checked : (w : Float) → is_level w ≡ true → check_level (is_level w) accepted ≡ accepted
unfolding check_level
checked w l = rw l

-- no byte, and all tried
abbrev none_found : Result Search Refusal
none_found = Ok (record { byte = None; tried = 256 })

module _ (s : ℕ) (w : Float) (l : is_level w ≡ true) where
  pub none_said : (r : Result Search Refusal) → CurveAnswered s w r → ((c : ℕ) → c < 256 → EndsNear s w c → ⊥) → r ≡ none_found
  none_said (Ok found) a h = go found.byte found.tried a.promised
    where
      go : (b : Option ℕ) (n : ℕ) → SearchPromised s w b n → Ok (record { byte = b; tried = n }) ≡ none_found
      go (Some c) n p = absurd (h c p.byte p.ends)
      go None n p = ap (λ (k : ℕ). Ok (record { byte = None; tried = k })) p.tried
  none_said (Err why) a h = absurd (numbered why (a.refusal ∙ checked w l))

  pub none_left : (r : Result Search Refusal) → CurveAnswered s w r → r ≡ none_found → (c : ℕ) → c < 256 → EndsNear s w c → ⊥
  none_left r a e = (subst (λ (x : Result Search Refusal). CurvePromised s w x) e a.promised).none
