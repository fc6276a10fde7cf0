-- `put_bytes` is `with_bytes` at the places of `bytes_of`. Assumes nothing.
use native.Mathlib.Omega.{arith}
use lib.ListN.{length-take}
use Rattle.inputs.proofs.put_bytes.Goals as goal

pub slice_bounds-numbers-end : goal.slice_bounds-numbers-end
slice_bounds-numbers-end c = c.bytes_of-read.ensures.0

pub slice_bounds-put_places-end : goal.slice_bounds-put_places-end
slice_bounds-put_places-end c = simp length-take (omega (arith, c.bytes_of-read.ensures.0))

pub returns : goal.returns
returns c = rw (← c.bytes_of-read.ensures.1) c.put_places.ensures
