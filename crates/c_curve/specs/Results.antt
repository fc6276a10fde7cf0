-- A CURVE BYTE AS NUMBERS: docs/SPECIFICATION.md, "The C interface". The number of the answer's refusal, 0 for none; whether a byte is found, the byte, and how many were tried. Definitions only.
use Rattle.std.specs.Prelude.{ℕ, Option, None, Some, Result, Ok, Err}
use Rattle.refusals.specs.declared.Refusal.{Refusal}
use Rattle.refusals.specs.Refusals.{accepted, refusal_number}
use Rattle.curve_finder.specs.declared.Search.{Search}
use Rattle.c_results.specs.declared.CurveResult.{CurveResult}

unfoldable pub search_result : Option ℕ → ℕ → CurveResult
search_result (Some c) n = record { refusal = accepted; found = 1; byte = c; tried = n }
search_result None n = record { refusal = accepted; found = 0; byte = 0; tried = n }

unfoldable pub curve_result : Result Search Refusal → CurveResult
curve_result (Ok search) = search_result search.byte search.tried
curve_result (Err why) = record { refusal = refusal_number why; found = 0; byte = 0; tried = 0 }
