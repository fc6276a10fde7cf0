-- WHAT A `?` RETURNS IS THE ERROR THAT IT MET. Assumes nothing.
use mathlib.Core.Path.{◌≡◌, ap}
use Rattle.std.specs.Prelude.{Result, Ok, Err, IsErrAnd}

pub passed_on : {A E : Type 0} {e : E} {r : Result A E} → IsErrAnd r (λ d. d ≡ e) → r ≡ Err e
passed_on {r = Ok a} h = absurd h
passed_on {r = Err d} h = ap Err h
