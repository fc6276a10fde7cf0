-- `oscillator_numbers` meets its contract. Assumes nothing.
use Rattle.settings_numbers.specs.Numbers.{settings_numbers, stored_settings, settings_list}
use Rattle.lists.specs.Padded.{padded}
use Rattle.settings_numbers.proofs.oscillator_numbers.Goals as goal

pub returns : goal.returns
unfolding settings_numbers stored_settings settings_list padded
returns c = simp (c.flag-2.ensures, c.flag.ensures)
