-- GATES AND BARS IN TWO LENT ARRAYS: docs/SPECIFICATION.md, "The C interface". Definitions only.
use Rattle.std.specs.Prelude.{◌≡◌, List, ℕ, min, Float, Result, Ok, Err}
use Rattle.lists.specs.Written.{written}
use Rattle.gates.specs.declared.Gates.{Gates}
use Rattle.gates.specs.Gates.{gate_at, gates_of}
use Rattle.refusals.specs.declared.Refusal.{Refusal}
use Rattle.refusals.specs.Refusals.{answer_refusal}
use Rattle.c_results.specs.declared.CountResult.{CountResult}

-- Where gate i opens and closes.
abbrev pub gate_start : Gates → ℕ → Float
gate_start gates i = (gate_at gates i).start

abbrev pub gate_end : Gates → ℕ → Float
gate_end gates i = (gate_at gates i).end

-- How many there are: never more than there are places.
abbrev pub gates_used : Gates → ℕ
gates_used gates = min gates.count 4

-- Beside a refusal there are none, as at byte 0.
unfoldable pub gates_given : Result Gates Refusal → Gates
gates_given (Ok gates) = gates
gates_given (Err why) = gates_of 0

-- The gates or bars of an answer, in two lent arrays: where they start and where they end stands first, and what is behind that is as it was.
pub record GatesNumbers (found : Result Gates Refusal) (start₀ start₁ end₀ end₁ : List Float) (r : CountResult) : Type 0 where
  pub result : r ≡ record { refusal = answer_refusal found; count = gates_used (gates_given found) }
  pub start : start₁ ≡ written (gate_start (gates_given found)) (gates_used (gates_given found)) start₀
  pub end : end₁ ≡ written (gate_end (gates_given found)) (gates_used (gates_given found)) end₀
