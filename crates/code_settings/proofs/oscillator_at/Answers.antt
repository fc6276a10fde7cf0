-- `oscillator_at` is `oscillator_at`. Assumes nothing.
use Rattle.code_settings.specs.Settings.{oscillator_at}
use Rattle.code_settings.proofs.oscillator_at.Goals as goal

pub returns-in-One : goal.returns-in-One
unfolding oscillator_at
returns-in-One c = simp (c.in-One.is, c.oscillator_one_from.ensures)

pub returns-in-Two : goal.returns-in-Two
unfolding oscillator_at
returns-in-Two c = simp (c.in-Two.is, c.oscillator_two_from.ensures)
