-- The names of all bytes that are read, computed from their definitions. Assumes nothing.
use mathlib.Core.Path.{◌≡◌, refl}
use mathlib.Core.List.{List, [], ◌∷◌}
use Prim.Native.Nat.{ℕ}
use Rattle.text.specs.Text.{ascii}
use Rattle.words.specs.Words.{first_word, past_bar, word_of, index_of}
use Rattle.code_bytes.specs.Bytes.{bytes_of}
use Rattle.codes.specs.declared.EnvelopeId.TheVariants.{Vca, Vcf, Mod}
use Rattle.codes.specs.declared.LfoId.TheVariants.{One, Two}
use Rattle.codes.specs.declared.Code.TheVariants.{Envelope, Lfo}
use Rattle.byte_names.specs.ByteNames.{byte_name}

abbrev names_of : List ℕ → List (List ℕ)
names_of [] = []
names_of (n ∷ ns) = byte_name n ∷ names_of ns

abbrev envelope : List (List ℕ)
envelope =
    ascii "attack" ∷ ascii "decay" ∷ ascii "sustain" ∷ ascii "release" ∷ ascii "attack curve" ∷ ascii "decay curve" ∷ ascii "sustain curve" ∷ ascii "release curve" ∷ []

abbrev lfo : List (List ℕ)
lfo = ascii "shape" ∷ ascii "slew rate" ∷ ascii "key sync" ∷ []

vca : names_of (bytes_of (Envelope Vca)) ≡ envelope
unfolding bytes_of byte_name word_of first_word past_bar index_of
vca = refl

vcf : names_of (bytes_of (Envelope Vcf)) ≡ envelope
unfolding bytes_of byte_name word_of first_word past_bar index_of
vcf = refl

modulation : names_of (bytes_of (Envelope Mod)) ≡ envelope
unfolding bytes_of byte_name word_of first_word past_bar index_of
modulation = refl

lfo_one : names_of (bytes_of (Lfo One)) ≡ lfo
unfolding bytes_of byte_name word_of first_word past_bar index_of
lfo_one = refl

lfo_two : names_of (bytes_of (Lfo Two)) ≡ lfo
unfolding bytes_of byte_name word_of first_word past_bar index_of
lfo_two = refl

others : names_of (1 ∷ 8 ∷ 41 ∷ 51 ∷ 16 ∷ 18 ∷ 19 ∷ 25 ∷ 26 ∷ 33 ∷ 160 ∷ [])
    ≡ ascii "fade time" ∷ ascii "fade time" ∷ ascii "resonance" ∷ ascii "poles" ∷ ascii "PWM source" ∷ ascii "pulse" ∷ ascii "saw" ∷ ascii "PWM depth" ∷ ascii "level" ∷ ascii "level" ∷ ascii "gate time" ∷ []
unfolding byte_name word_of first_word past_bar index_of
others = refl
