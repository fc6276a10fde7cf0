-- What putting a text does to a buffer: its length stays; a text that fits stands there whole, with the rest of the buffer as it was; and a text
-- fits where the position after it is below the length. Assumes nothing.
use mathlib.Core.Path.{◌≡◌, refl, ap, sym, ◌∙◌}
use mathlib.Core.Bool.{Bool, true, false, cond}
use mathlib.Core.Logic.{⊎_elim}
use mathlib.Core.List.{List, [], ◌∷◌, ◌++◌}
use Prim.Native.Nat.{ℕ, suc, ◌+◌, ◌-◌, ◌<◌, ◌≤◌}
use native.Mathlib.Nat.{eq-zero-or-pos}
use native.Mathlib.Numerals.{add-one}
use native.Mathlib.Omega.{arith}
use borrow.Author.Tests.{lt-ltb, le-ltb}
use lib.Dec.{ltb}
use lib.ListN.{length, take, drop, set, length-set}
use lib.Seq.{sets, sets-eq}
use Rattle.text.specs.declared.Writer.{Writer}
use Rattle.text.specs.Text.{Page, put_byte, put_all, Puts}

byte_length : (p : Page) (b : ℕ) → length (put_byte p b).buffer ≡ length p.buffer
unfolding put_byte
byte_length p b = go (ltb p.at (length p.buffer))
  where
    go : (t : Bool) → length (cond t (record { buffer = set p.buffer p.at b; at = p.at + 1 }) p).buffer ≡ length p.buffer
    go true = length-set p.buffer p.at b
    go false = refl

all_length : (p : Page) (text : List ℕ) → length (put_all p text).buffer ≡ length p.buffer
unfolding put_all
all_length p [] = refl
all_length p (b ∷ text) = all_length (put_byte p b) text ∙ byte_length p b

-- The length of the buffer stays.
pub same_length : {before after : Writer} {text : List ℕ} → Puts before text after → length after.buffer.now ≡ length before.buffer.now
same_length {text = text} f = ap (λ (q : Page). length q.buffer) f.page ∙ all_length _ text

byte_fits : (before : List ℕ) (at b : ℕ) → at < length before → put_byte (record { buffer = before; at = at }) b ≡ record { buffer = set before at b; at = suc at }
unfolding put_byte
byte_fits before at b h = rw (lt-ltb at (length before) h, add-one at)

fits : (before : List ℕ) (at : ℕ) (text : List ℕ) → at + length text ≤ length before → put_all (record { buffer = before; at = at }) text ≡ record { buffer = sets before at text; at = at + length text }
unfolding put_all
fits before at [] h = let e : at + 0 ≡ at = omega arith in rw e
fits before at (b ∷ text) h =
    let here : at < length before = omega arith in
    let e : suc at + length text ≡ at + suc (length text) = omega arith in
    let next : suc at + length text ≤ length (set before at b) = rw length-set (omega arith) in
    rw (byte_fits before at b here, fits (set before at b) (suc at) text next, e)

-- A text that fits stands there whole.
pub whole : {before after : Writer} {text : List ℕ} → before.at + length text ≤ length before.buffer.now → Puts before text after
    → (after.buffer.now ≡ take before.at before.buffer.now ++ text ++ drop (before.at + length text) before.buffer.now) × (after.at ≡ before.at + length text)
whole {before} {text = text} h f =
    let e = f.page ∙ fits before.buffer.now before.at text h in
    (ap (λ (q : Page). q.buffer) e ∙ sets-eq text before.buffer.now before.at h, ap (λ (q : Page). q.at) e)

full : (before : List ℕ) (at : ℕ) (text : List ℕ) → length before ≤ at → put_all (record { buffer = before; at = at }) text ≡ record { buffer = before; at = at }
unfolding put_all put_byte
full before at [] h = refl
full before at (b ∷ text) h = rw (le-ltb at (length before) h, full before at text h)

fits_below : (before : List ℕ) (at : ℕ) (text : List ℕ) → (put_all (record { buffer = before; at = at }) text).at < length before → at + length text ≤ length before
unfolding put_all
fits_below before at [] h = omega arith
fits_below before at (b ∷ text) h = ⊎_elim (λ z. outside (omega arith)) (λ z. inside (λ k. fits_below (set before at b) (suc at) text k) (omega arith)) (eq-zero-or-pos (length before - at))
  where
    inside : ((put_all (record { buffer = set before at b; at = suc at }) text).at < length (set before at b) → suc at + length text ≤ length (set before at b)) → at < length before → at + suc (length text) ≤ length before
    inside again g = omega (arith, rw length-set at (again (rw (length-set before at b) (rw (ap (λ (q : Page). (put_all q text).at) (byte_fits before at b g)) at h))))

    outside : length before ≤ at → at + suc (length text) ≤ length before
    outside g =
        let e : (put_all (record { buffer = before; at = at }) (b ∷ text)).at ≡ at = ap (λ (q : Page). q.at) (full before at (b ∷ text) g) in
        omega (arith, rw e at h)

-- Where the position after it is below the length, the text fits.
pub below : {before after : Writer} {text : List ℕ} → Puts before text after → after.at < length after.buffer.now → before.at + length text ≤ length before.buffer.now
below {before} {text = text} f h = fits_below before.buffer.now before.at text (rw (ap (λ (q : Page). q.at) (sym f.page), ← same_length f) h)
