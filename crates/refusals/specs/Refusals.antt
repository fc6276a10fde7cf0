-- THE REFUSALS: docs/SPECIFICATION.md, "What is offered to callers". Definitions only.
use Rattle.std.specs.Prelude.{Bool, cond, ◌&&◌, ◌||◌, ℕ, eqb, leb, Result, Ok, Err}
use Rattle.refusals.specs.declared.Refusal.{Refusal}
use Rattle.refusals.specs.declared.Refusal.TheVariants.{Block, Code, Strip, Level, Turns}

-- ---- the numbers; 0 is that of an input that is accepted
abbrev pub accepted : ℕ
accepted = 0

abbrev pub refusal_number : Refusal → ℕ
refusal_number Block = 1
refusal_number Code = 2
refusal_number Strip = 3
refusal_number Level = 4
refusal_number Turns = 5

-- of an answer of any kind
abbrev pub answer_refusal : {A : Type 0} → Result A Refusal → ℕ
answer_refusal (Ok a) = accepted
answer_refusal (Err why) = refusal_number why

-- ---- the checks: each gives its number where it fails, else what the checks after it give
-- A block has 242 bytes.
unfoldable pub check_block : ℕ → ℕ → ℕ
check_block bytes next = cond (eqb bytes 242) next 1

-- A code is at most 13.
unfoldable pub check_code : ℕ → ℕ → ℕ
check_code code next = cond (leb code 13) next 2

-- A number of turns is 6 or 8.
unfoldable pub check_turns : ℕ → ℕ → ℕ
check_turns turns next = cond (eqb turns 6 || eqb turns 8) next 5

-- A strip, or captions, are of 2 to 4,096 samples.
unfoldable pub check_length : ℕ → ℕ → ℕ
check_length n next = cond (leb 2 n && leb n 4096) next 3

-- A wanted level is one (`is_level` of crate level tells).
unfoldable pub check_level : Bool → ℕ → ℕ
check_level isOne next = cond isOne next 4
