-- THE ENVELOPE'S HEIGHT IN BINARY32: docs/SPECIFICATION.md, "The curves". Each operation is rounded once, in the order written. Definitions only.
use Rattle.std.specs.Prelude.{cond, Float}
use Rattle.std.specs.Float.Ieee.{lt, le}
use Rattle.exact.specs.Binary32.{◌⊕◌, ◌⊖◌, ◌⊗◌, ◌⊘◌, zero₃₂, one₃₂}
use Rattle.curve.specs.declared.Height.{Height}
use Rattle.curve.specs.Curve.{clamp_unit_of, position_of, drawn_of}
use Rattle.settings.specs.declared.Envelope.{Envelope}

-- Where t lies between two ends, clamped to 0..1: 0 in a stretch of no width.
unfoldable pub divide_of : Float → Float → Float → Float
divide_of t from to = cond (le (to ⊖ from) zero₃₂) zero₃₂ (clamp_unit_of ((t ⊖ from) ⊘ (to ⊖ from)))

-- The denominator of a bend.
unfoldable pub denominator_of : Float → Float → Float
denominator_of u k = u ⊕ k ⊗ (one₃₂ ⊖ u)

-- The bend of a u from 0 to 1: u / (u + k (1 - u)), and u itself where the denominator is not above 0.
unfoldable pub bent_unit : Float → Float → Float
bent_unit u k = cond (le (denominator_of u k) zero₃₂) u (u ⊘ denominator_of u k)

-- A position along a stretch, clamped to 0..1 and bent by k.
unfoldable pub bent_of : Float → Float → Float
bent_of u k = bent_unit (clamp_unit_of u) k

-- The four stretches: from 0 up to 1, to the sustain level, to the level that it slopes to, and to 0.
unfoldable pub attack_of : Envelope → Float → Float
attack_of e t = bent_of (divide_of t zero₃₂ e.first) e.attack_bend

unfoldable pub decay_of : Envelope → Float → Float
decay_of e t = one₃₂ ⊕ (e.sustain ⊖ one₃₂) ⊗ bent_of (divide_of t e.first e.second) e.decay_bend

unfoldable pub sustain_of : Envelope → Float → Float
sustain_of e t = e.sustain ⊕ (e.sustain_end ⊖ e.sustain) ⊗ divide_of t e.second e.third

unfoldable pub release_of : Envelope → Float → Float
release_of e t = e.sustain_end ⊗ (one₃₂ ⊖ bent_of (divide_of t e.third one₃₂) e.release_bend)

-- Of four numbers that of the stretch in which t lies: the first whose end t is below, and past the third end the release.
abbrev pub of_stretch : Envelope → Float → Float → Float → Float → Float → Float
of_stretch e t attack decay sustain release = cond (lt t e.first) attack (cond (lt t e.second) decay (cond (lt t e.third) sustain release))

-- The level at t.
unfoldable pub envelope_level_of : Envelope → Float → Float
envelope_level_of e t = of_stretch e t (attack_of e t) (decay_of e t) (sustain_of e t) (release_of e t)

unfoldable pub envelope_height_of : Envelope → Float → Height
envelope_height_of e t = drawn_of (envelope_level_of e (position_of t))
