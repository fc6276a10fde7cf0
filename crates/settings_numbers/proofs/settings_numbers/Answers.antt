-- `settings_numbers` meets its contract. Assumes nothing.
use Rattle.settings_numbers.specs.Numbers.{settings_numbers, settings_list}
use Rattle.settings_numbers.proofs.settings_numbers.Goals as goal

pub returns-in-Envelope : goal.returns-in-Envelope
unfolding settings_numbers settings_list
returns-in-Envelope c = simp (c.envelope_numbers.ensures, c.in-Envelope.is)

pub returns-in-Fade : goal.returns-in-Fade
unfolding settings_numbers settings_list
returns-in-Fade c = simp (c.one_number.ensures, c.in-Fade.is)

pub returns-in-Lfo : goal.returns-in-Lfo
unfolding settings_numbers settings_list
returns-in-Lfo c = simp (c.lfo_numbers.ensures, c.in-Lfo.is)

pub returns-in-Filter : goal.returns-in-Filter
unfolding settings_numbers settings_list
returns-in-Filter c = simp (c.filter_numbers.ensures, c.in-Filter.is)

pub returns-in-Oscillator : goal.returns-in-Oscillator
unfolding settings_numbers settings_list
returns-in-Oscillator c = simp (c.oscillator_numbers.ensures, c.in-Oscillator.is)

pub returns-in-Noise : goal.returns-in-Noise
unfolding settings_numbers settings_list
returns-in-Noise c = simp (c.one_number-in-Noise.ensures, c.in-Noise.is)
