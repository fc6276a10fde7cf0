-- THE LAWS OF CAPTIONS: the length stays, each byte is its sample's caption, and no shape but an envelope has captions. Assumes nothing.
use mathlib.Core.Path.{◌≡◌, refl}
use mathlib.Core.Bool.{Bool, true, false, cond}
use mathlib.Core.List.{List}
use Prim.Native.Nat.{ℕ, ◌≤◌, ◌<◌}
use native.Mathlib.Omega.{arith}
use lib.ListN.{length, get_or}
use Rattle.settings.specs.declared.Fade.{Fade}
use Rattle.generator.specs.declared.Shape.{Shape}
use Rattle.generator.specs.declared.Shape.TheVariants.{Fade as AFade}
use Rattle.strip.specs.Strip.{length_fits}
use Rattle.lists.specs.Written.{written}
use Rattle.strip.proofs.Lengths.{fits_between}
use Rattle.lists.proofs.Written.{written_length, written_at}
use Rattle.captions.specs.Captions.{caption_at, captions_of}

pub captions_length : (s : Shape) (xs : List ℕ) → length (captions_of s xs) ≡ length xs
unfolding captions_of
captions_length s xs = go (length_fits (length xs))
  where
    go : (b : Bool) → length (cond b (written (caption_at s (length xs)) (length xs) xs) xs) ≡ length xs
    go true = written_length (caption_at s (length xs)) (length xs) xs
    go false = refl

pub captions_at : (d : ℕ) (s : Shape) (xs : List ℕ) → 2 ≤ length xs → length xs ≤ 4096 → (i : ℕ) → i < length xs → get_or (captions_of s xs) i d ≡ caption_at s (length xs) i
unfolding captions_of
captions_at d s xs h k i l = simp (fits_between (length xs) h k) (written_at (caption_at s (length xs)) d (length xs) xs i (omega arith) l)

pub fade_has_none : (f : Fade) (n i : ℕ) → caption_at (AFade f) n i ≡ 255
fade_has_none f n i = refl
