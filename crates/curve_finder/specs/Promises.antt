-- A CURVE BYTE FOR A WANTED END: docs/SPECIFICATION.md, "A curve byte for a wanted end". Definitions only.
use Rattle.std.specs.Prelude.{◌≡◌, Bool, true, false, ℕ, ◌+◌, ◌<◌, Float, Option, None, Some, Result, Ok, Err}
use Rattle.exact.specs.Fraction.{ratio}
use Rattle.exact.specs.Value.{value, Within}
use Rattle.refusals.specs.declared.Refusal.{Refusal}
use Rattle.refusals.specs.Refusals.{accepted, answer_refusal, check_level}
use Rattle.envelope_settings.specs.Formula.{sustain_end_of}
use Rattle.level.specs.Level.{is_level}
use Rattle.curve_finder.specs.declared.Search.{Search}

-- Two floats are numbers, and what they hold differs by at most 1/512: nothing is rounded.
abbrev pub Near : Float → Float → Type 0
Near a b = Within (value a) (value b) (ratio 1 512)

-- WHAT AN ANSWER IS: with sustain byte s and curve byte c, the stored end of the sustain is near the wanted level w.
abbrev pub EndsNear : ℕ → Float → ℕ → Type 0
EndsNear s w c = Near (sustain_end_of s c) w

-- A byte c that is given is an answer, and n of them were tried: it and those below it.
pub record FoundCurve (s : ℕ) (w : Float) (c n : ℕ) : Type 0 where
  pub byte : c < 256
  pub ends : EndsNear s w c
  pub tried : n ≡ c + 1

-- Where none is given, no byte is an answer, and all were tried.
pub record NoCurve (s : ℕ) (w : Float) (n : ℕ) : Type 0 where
  pub none : (c : ℕ) → c < 256 → EndsNear s w c → ⊥
  pub tried : n ≡ 256

-- What is promised beside the number of a refusal, by the answer.
abbrev pub SearchPromised : ℕ → Float → Option ℕ → ℕ → Type 0
SearchPromised s w (Some c) n = FoundCurve s w c n
SearchPromised s w None n = NoCurve s w n

abbrev pub CurvePromised : ℕ → Float → Result Search Refusal → Type 0
CurvePromised s w (Ok found) = SearchPromised s w found.byte found.tried
CurvePromised s w (Err why) = Unit {0}

-- The wanted level alone is checked: what is no level is refused, and nothing else is.
pub record CurveAnswered (s : ℕ) (w : Float) (r : Result Search Refusal) : Type 0 where
  pub refusal : answer_refusal r ≡ check_level (is_level w) accepted
  pub promised : CurvePromised s w r

-- A test tells whether a claim holds: what the search goes by.
pub record Tells (b : Bool) (Claim : Type 0) : Type 0 where
  pub passed : b ≡ true → Claim
  pub failed : b ≡ false → Claim → ⊥
