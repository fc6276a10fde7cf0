-- SETTINGS IN A LENT ARRAY: docs/SPECIFICATION.md, "The C interface". The first places are written, and the others are as they were. Definitions only.
use Rattle.std.specs.Prelude.{List, ℕ, min, get_or, Float, Result, Ok, Err}
use Rattle.std.specs.Float.{nan}
use Rattle.lists.specs.Written.{written}
use Rattle.generator.specs.declared.Shape.{Shape}
use Rattle.refusals.specs.declared.Refusal.{Refusal}
use Rattle.refusals.specs.Refusals.{accepted, refusal_number}
use Rattle.settings_numbers.specs.declared.Numbers.{Numbers}
use Rattle.settings_numbers.specs.Numbers.{settings_numbers}
use Rattle.c_results.specs.declared.CountResult.{CountResult}

-- Setting i of a generator.
abbrev pub setting_at : Numbers → ℕ → Float
setting_at numbers i = get_or numbers.places i nan

-- How many there are: never more than there are places.
abbrev pub settings_used : Numbers → ℕ
settings_used numbers = min numbers.count 8

-- The number of settings, and what the lent array holds afterwards: they stand first, and what is behind them is as it was.
unfoldable pub settings_result : Result Shape Refusal → CountResult
settings_result (Ok s) = record { refusal = accepted; count = settings_used (settings_numbers s) }
settings_result (Err why) = record { refusal = refusal_number why; count = 0 }

unfoldable pub settings_after : Result Shape Refusal → List Float → List Float
settings_after (Ok s) before = written (setting_at (settings_numbers s)) (settings_used (settings_numbers s)) before
settings_after (Err why) before = before
