-- NO EXACT HEIGHT OF AN ENVELOPE DIVIDES BY ZERO. Assumes nothing.
use lib.Dec.{T}
use lib.Ieee.{Float, binary32, fits}
use Rattle.exact.specs.Fraction.{Defined}
use Rattle.settings.specs.declared.Envelope.{Envelope}
use Rattle.settings.proofs.Ranges.{EnvelopeRange}
use Rattle.envelope.specs.Exact.{envelope_heightℚ}
use Rattle.envelope.proofs.Distance.{envelope_drawn}

pub height_defined : (e : Envelope) → EnvelopeRange e → (t : Float) → T (fits binary32 t) → Defined (envelope_heightℚ e t)
height_defined e r t f = (envelope_drawn e r t f).near.right
