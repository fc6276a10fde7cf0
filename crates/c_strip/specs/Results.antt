-- STRIPS AS NUMBERS: docs/SPECIFICATION.md, "The C interface". The number of the answer's refusal, 0 for none; beside a refusal the steps are 0. Definitions only.
use Rattle.std.specs.Prelude.{ℕ, Result, Ok, Err}
use Rattle.refusals.specs.declared.Refusal.{Refusal}
use Rattle.refusals.specs.Refusals.{accepted, refusal_number}
use Rattle.c_results.specs.declared.StripResult.{StripResult}

unfoldable pub strip_result : Result ℕ Refusal → StripResult
strip_result (Ok n) = record { refusal = accepted; steps = n }
strip_result (Err why) = record { refusal = refusal_number why; steps = 0 }
