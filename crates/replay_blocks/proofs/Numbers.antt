-- ONE NUMBER MORE that is drawn, and the byte that it gives. Assumes nothing.
use mathlib.Core.Path.{◌≡◌, refl, ap, ◌∙◌}
use Prim.Native.Nat.{ℕ, ◌+◌, ◌%◌, ◌<◌}
use native.Mathlib.Nat.{mod-lt}
use native.Mathlib.Numerals.{add-one}
use native.Mathlib.Omega.{arith}
use Rattle.replay_blocks.specs.Drawn.{next_of, drawn, byte_of, drawn_byte}

pub remainder_fits : (x most : ℕ) → most < 256 → x % (most + 1) < 256
remainder_fits x most h = let z : 0 < most + 1 = omega arith in omega (arith, mod-lt x z)

pub none_drawn : (seed : ℕ) → seed % 0x7fff_ffff ≡ drawn seed 0
unfolding drawn
none_drawn seed = refl

pub one_drawn : (seed i : ℕ) {s t : ℕ} → s ≡ drawn seed i → t ≡ next_of s → t ≡ drawn seed (i + 1)
unfolding drawn
one_drawn seed i e f = rw (add-one i) (f ∙ ap next_of e)

pub byte_drawn : (seed most i : ℕ) {s t b : ℕ} → s ≡ drawn seed i → t ≡ next_of s → b ≡ byte_of t most → b ≡ drawn_byte seed most i
unfolding drawn drawn_byte
byte_drawn seed most i e f g = simp (g, f, e)
