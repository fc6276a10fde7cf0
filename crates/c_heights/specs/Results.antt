-- HEIGHTS AS NUMBERS: docs/SPECIFICATION.md, "The C interface". The number of the answer's refusal, 0 for none; beside a refusal all else is 0. Definitions only.
use Rattle.std.specs.Prelude.{Result, Ok, Err}
use Rattle.refusals.specs.declared.Refusal.{Refusal}
use Rattle.curve.specs.declared.Height.{Height}
use Rattle.refusals.specs.Refusals.{accepted, refusal_number}
use Rattle.exact.specs.Binary32.{zero₃₂}
use Rattle.c_results.specs.declared.HeightResult.{HeightResult}

unfoldable pub height_result : Result Height Refusal → HeightResult
height_result (Ok h) = record { refusal = accepted; steps = h.steps; height = h.height }
height_result (Err why) = record { refusal = refusal_number why; steps = 0; height = zero₃₂ }
