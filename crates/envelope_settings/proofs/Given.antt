-- WHAT BYTES GIVE AN ENVELOPE satisfies settings/proofs/Ranges.antt, for all bytes: ends in order, levels from 0 to 1, bends from 1/4 to 4. Its bends are those of the
-- chart. Assumes nothing.
use Prim.Native.Nat.{ℕ, ◌<◌}
use lib.Ieee.{binary32}
use lib.Ieee.Fits.{add-fits, div-fits}
use Rattle.bends.specs.Formula.{bend_of, Charted}
use Rattle.bends.proofs.Entries.{bend_holds, bend_from_quarter, bend_to_four, charted}
use Rattle.settings.specs.declared.Envelope.{Envelope}
use Rattle.settings.proofs.Ranges.{BendRange, EnvelopeRange}
use Rattle.settings.proofs.Bytes.{byte_level}
use Rattle.envelope_settings.specs.Formula.{first_of, second_of, third_of, envelope_of}
use Rattle.envelope_settings.proofs.Sustain.{sustain_end_level}
use Rattle.envelope_settings.proofs.Ends.{ends}

pub bend_range : (c : ℕ) → c < 256 → BendRange (bend_of c)
bend_range c h = record { holds = bend_holds c; from = bend_from_quarter c h; to = bend_to_four c h }

pub envelope_range : (a d s r ac dc sc rc : ℕ) → a < 256 → d < 256 → s < 256 → r < 256 → ac < 256 → dc < 256 → sc < 256 → rc < 256 → EnvelopeRange (envelope_of a d s r ac dc sc rc)
unfolding envelope_of first_of second_of third_of
envelope_range a d s r ac dc sc rc ha hd hs hr hac hdc hsc hrc =
    let e = ends a d r ha hd hr in
    record {
      first_holds = div-fits binary32 _ _;
      second_holds = add-fits binary32 _ _;
      third_holds = add-fits binary32 _ _;
      from = e.from;
      first_second = e.first_second;
      second_third = e.second_third;
      to = e.to;
      sustain = byte_level s hs;
      sustain_end = sustain_end_level s sc hs hsc;
      attack = bend_range ac hac;
      decay = bend_range dc hdc;
      release = bend_range rc hrc;
    }

-- Each bend of an envelope is the chart's for its curve's byte.
pub record ChartedBends (ac dc rc : ℕ) (e : Envelope) : Type 0 where
  pub attack : Charted ac e.attack_bend
  pub decay : Charted dc e.decay_bend
  pub release : Charted rc e.release_bend

pub envelope_charted : (a d s r ac dc sc rc : ℕ) → ac < 256 → dc < 256 → rc < 256 → ChartedBends ac dc rc (envelope_of a d s r ac dc sc rc)
unfolding envelope_of
envelope_charted a d s r ac dc sc rc hac hdc hrc = record { attack = charted ac hac; decay = charted dc hdc; release = charted rc hrc }
