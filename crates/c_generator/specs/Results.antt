-- THE REST LEVEL, THE SCALE AND THE ANCHOR AS NUMBERS: docs/SPECIFICATION.md, "The C interface". The number of the answer's refusal, 0 for none; beside a refusal all else
-- is 0. Definitions only.
use Rattle.std.specs.Prelude.{Bool, cond, Float, Result, Ok, Err}
use Rattle.exact.specs.Binary32.{zero₃₂}
use Rattle.generator.specs.Generator.{scale_number, scale_value}
use Rattle.generator.specs.declared.Scale.{Scale}
use Rattle.refusals.specs.declared.Refusal.{Refusal}
use Rattle.refusals.specs.Refusals.{accepted, refusal_number}
use Rattle.c_results.specs.declared.RestResult.{RestResult}
use Rattle.c_results.specs.declared.ScaleResult.{ScaleResult}
use Rattle.c_results.specs.declared.AnchoredResult.{AnchoredResult}

unfoldable pub rest_result : Result Float Refusal → RestResult
rest_result (Ok x) = record { refusal = accepted; level = x }
rest_result (Err why) = record { refusal = refusal_number why; level = zero₃₂ }

unfoldable pub scale_result : Result Scale Refusal → ScaleResult
scale_result (Ok s) = record { refusal = accepted; kind = scale_number s; number = scale_value s }
scale_result (Err why) = record { refusal = refusal_number why; kind = 0; number = zero₃₂ }

unfoldable pub anchored_result : Result Bool Refusal → AnchoredResult
anchored_result (Ok b) = record { refusal = accepted; anchored = cond b 1 0 }
anchored_result (Err why) = record { refusal = refusal_number why; anchored = 0 }
