-- `put_places` is `with_bytes`. The loop's invariant: the last places are put, and the number is divided as often. Assumes nothing.
use mathlib.Core.Path.{◌≡◌}
use Prim.Native.Nat.{◌≤◌, ◌-◌, ◌/◌, ◌^◌}
use lib.ListN.{length, drop}
use Rattle.inputs.specs.Inputs.{with_bytes}
use Rattle.inputs.proofs.put_places.Given as goal

abbrev pub invariant-loop-i : goal.invariant-loop-i
invariant-loop-i l =
    (l.i ≤ length l.places) × (l.rest ≡ l.bytes / 256 ^ (length l.places - l.i)) × (l.program ≡ with_bytes (drop l.i l.places) l.bytes l.initial.program)
