-- `put_byte_name` puts `byte_name`. Assumes nothing.
use borrow.Author.Tests.{lt-ltb, le-ltb}
use Rattle.byte_names.specs.ByteNames.{byte_name}
use Rattle.byte_names.proofs.put_byte_name.Goals as goal

pub put_lfo_name-requires : goal.put_lfo_name-requires
put_lfo_name-requires c = tt

pub returns-then-k-lt-LFOS_END : goal.returns-then-k-lt-LFOS_END
unfolding byte_name
returns-then-k-lt-LFOS_END c = simp (lt-ltb _ _ c.if-k-lt-LFOS_END.true) c.put_lfo_name.ensures

pub put_other_name-requires : goal.put_other_name-requires
put_other_name-requires c = tt

pub returns-then-k-lt-ENVELOPES : goal.returns-then-k-lt-ENVELOPES
unfolding byte_name
returns-then-k-lt-ENVELOPES c = simp (le-ltb _ _ c.if-k-lt-LFOS_END.false, lt-ltb _ _ c.if-k-lt-ENVELOPES.true) c.put_other_name.ensures

pub put_envelope_name-requires : goal.put_envelope_name-requires
put_envelope_name-requires c = tt

pub returns-then-k-lt-ENVELOPES_END : goal.returns-then-k-lt-ENVELOPES_END
unfolding byte_name
returns-then-k-lt-ENVELOPES_END c = simp (le-ltb _ _ c.if-k-lt-LFOS_END.false, le-ltb _ _ c.if-k-lt-ENVELOPES.false, lt-ltb _ _ c.if-k-lt-ENVELOPES_END.true) c.put_envelope_name.ensures

pub put_other_name-requires-2 : goal.put_other_name-requires-2
put_other_name-requires-2 c = tt

pub returns : goal.returns
unfolding byte_name
returns c = simp (le-ltb _ _ c.if-k-lt-LFOS_END.false, le-ltb _ _ c.if-k-lt-ENVELOPES.false, le-ltb _ _ c.if-k-lt-ENVELOPES_END.false) c.put_other_name-2.ensures
