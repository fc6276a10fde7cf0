-- `one_number` meets its contract. Assumes nothing.
use mathlib.Core.Path.{refl}
use Rattle.settings_numbers.specs.Numbers.{stored_settings}
use Rattle.lists.specs.Padded.{padded}
use Rattle.settings_numbers.proofs.one_number.Goals as goal

pub returns : goal.returns
unfolding stored_settings padded
returns c = refl
