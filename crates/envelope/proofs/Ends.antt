-- THE ENDS OF AN ENVELOPE, and a position along it, lie from 0 to 2. Assumes nothing.
use lib.Ieee.{Float, of_bits, fits, le, lt, eq}
use Rattle.exact.specs.Binary32.{bits, zero₃₂, one₃₂}
use Rattle.exact.proofs.Order.{le_trans}
use Rattle.curve.proofs.Positions.{Level}
use Rattle.settings.specs.declared.Envelope.{Envelope}
use Rattle.settings.proofs.Ranges.{EnvelopeRange}
use Rattle.envelope.proofs.DivideError.{End}

pub level_end : (x : Float) → Level x → End x
unfolding le lt eq of_bits
level_end x h = record { holds = h.holds; from = h.from; to = le_trans x one₃₂ (bits 0x4000_0000) h.to tt }

pub zero_end : End zero₃₂
unfolding fits le lt eq of_bits
zero_end = record { holds = tt; from = tt; to = tt }

pub one_end : End one₃₂
unfolding fits le lt eq of_bits
one_end = record { holds = tt; from = tt; to = tt }

pub first_end : (e : Envelope) → EnvelopeRange e → End e.first
first_end e r = record { holds = r.first_holds; from = r.from; to = le_trans e.first e.second (bits 0x4000_0000) r.first_second (le_trans e.second e.third (bits 0x4000_0000) r.second_third r.to) }

pub second_end : (e : Envelope) → EnvelopeRange e → End e.second
second_end e r = record { holds = r.second_holds; from = le_trans zero₃₂ e.first e.second r.from r.first_second; to = le_trans e.second e.third (bits 0x4000_0000) r.second_third r.to }

pub third_end : (e : Envelope) → EnvelopeRange e → End e.third
third_end e r = record { holds = r.third_holds; from = le_trans zero₃₂ e.second e.third (second_end e r).from r.second_third; to = r.to }
