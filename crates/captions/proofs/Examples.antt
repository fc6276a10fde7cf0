-- CAPTIONS HELD AGAINST NUMBERS FROM OUTSIDE: each row is worked from docs/SPECIFICATION.md, rounded to binary32 after each operation. Assumes nothing.
use mathlib.Core.Bool.{Bool, true, false}
use mathlib.Core.List.{List, [], ◌∷◌, map}
use Prim.Native.Nat.{ℕ}
use lib.Dec.{T, eqb}
use lib.Ieee.{of_bits, of_int, add, div, lt, le, eq}
use Rattle.lists.proofs.Rows.{all_pass}
use Rattle.settings.specs.Settings.{byte_of}
use Rattle.envelope_settings.specs.Formula.{total_of, first_of, second_of, third_of, envelope_of}
use Rattle.generator.specs.declared.Shape.TheVariants.{Envelope as AnEnvelope}
use Rattle.marks.specs.Marks.{envelope_marks}
use Rattle.strip.specs.Strip.{sample_position}
use Rattle.lists.specs.Written.{written}
use Rattle.captions.specs.Captions.{started_by, segment_from, last_segment, caption_of, captions_of}

same : List ℕ → List ℕ → Bool
same [] [] = true
same [] (y ∷ ys) = false
same (x ∷ xs) [] = false
same (x ∷ xs) (y ∷ ys) = elim (eqb x y) [ true ↦ same xs ys | false ↦ false ]

-- The captions of an envelope by its attack, decay and release, written over nines.
captioned : ℕ × ℕ × ℕ × List ℕ → Bool
captioned r = same (captions_of (AnEnvelope (envelope_of r.0 r.1 200 r.2 128 128 128 128)) (map (λ _. 9) r.3)) r.3

rows : List (ℕ × ℕ × ℕ × List ℕ)
rows =
    -- times of 0: attack, decay and sustain start at sample 0, and the last of them has it
    (0, 0, 0, 2 ∷ 2 ∷ 2 ∷ 2 ∷ 3 ∷ [])
    ∷ (255, 255, 255, 0 ∷ 0 ∷ 1 ∷ 1 ∷ 2 ∷ 3 ∷ 3 ∷ 3 ∷ [])
    ∷ (128, 64, 32, 0 ∷ 0 ∷ 0 ∷ 1 ∷ 1 ∷ 2 ∷ 2 ∷ 2 ∷ 3 ∷ [])
    -- samples that lie on a mark: 2/3 on two, then 1 on the last; 2/5 and 3/5
    ∷ (255, 0, 0, 0 ∷ 0 ∷ 2 ∷ 3 ∷ [])
    ∷ (127, 128, 255, 0 ∷ 1 ∷ 2 ∷ 3 ∷ 3 ∷ 3 ∷ [])
    -- no attack: the decay has sample 0, however short it is
    ∷ (0, 255, 10, 1 ∷ 1 ∷ 1 ∷ 1 ∷ 2 ∷ 2 ∷ 3 ∷ [])
    ∷ (0, 1, 255, 1 ∷ 2 ∷ 3 ∷ 3 ∷ [])
    -- no decay: the attack has sample 0, however short it is
    ∷ (1, 0, 0, 0 ∷ 2 ∷ 3 ∷ [])
    -- the release starts past 1, by rounding: the last sample is still the sustain
    ∷ (0, 144, 0, 1 ∷ 1 ∷ 2 ∷ [])
    -- a slice that is too short stays as it was
    ∷ (0, 0, 0, 9 ∷ [])
    ∷ []

captions_known : T (all_pass captioned rows)
unfolding all_pass captioned same rows captions_of caption_of last_segment segment_from started_by envelope_marks sample_position written envelope_of third_of second_of first_of total_of byte_of of_bits of_int add div lt le eq
captions_known = tt
