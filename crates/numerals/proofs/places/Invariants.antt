-- `places` is `digit_count`. The loop's invariant: no number below k is the answer. Assumes nothing.
use mathlib.Core.Path.{◌≡◌}
use Prim.Native.Nat.{◌-◌}
use Rattle.numerals.specs.Spelled.{places_from, digit_count}
use Rattle.numerals.proofs.places.Given as goal

abbrev pub invariant-loop-k : goal.invariant-loop-k
invariant-loop-k l = places_from (20 - l.k) l.k l.n ≡ digit_count l.n
