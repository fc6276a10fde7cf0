-- `settings` writes the settings of the answer. Assumes nothing.
use Rattle.c_settings.specs.Results.{settings_result, settings_after}
use Rattle.c_settings.proofs.settings.Goals as goal

pub returns-in-Ok : goal.returns-in-Ok
unfolding settings_result settings_after
returns-in-Ok c =
    let found = c.settings-answer in
    let answer = c.in-Ok.is in
    let numbers = c.settings_numbers-numbers.ensures in
    record { answer = found.result; numbers = (simp (answer, c.settings_used.ensures, numbers), simp (answer, c.copy_settings.ensures, numbers)); promised = found.ensures }

pub returns-in-Err : goal.returns-in-Err
unfolding settings_result settings_after
returns-in-Err c =
    let found = c.settings-answer in
    let answer = c.in-Err.is in
    record { answer = found.result; numbers = (simp (answer, c.refusal_number.ensures), simp answer); promised = found.ensures }
