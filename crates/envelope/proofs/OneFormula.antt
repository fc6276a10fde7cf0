-- THE LEVEL IS ONE FORMULA over the ends and the bend of the stretch in which the position lies: in each stretch it is that stretch's own. Assumes nothing.
use mathlib.Core.Path.{◌≡◌, refl, ◌∙◌}
use mathlib.Core.Bool.{Bool, true, false, cond}
use lib.Ieee.{Float, lt}
use Rattle.exact.specs.Binary32.{◌⊕◌, ◌⊖◌, ◌⊗◌, zero₃₂, one₃₂}
use Rattle.settings.specs.declared.Envelope.{Envelope}
use Rattle.envelope.specs.Formula.{divide_of, bent_of, attack_of, decay_of, sustain_of, release_of, of_stretch, envelope_level_of}

module _ (e : Envelope) (t : Float) where
  -- By a choice among four numbers: where t lies in its stretch, and the level from that and its bend.
  abbrev part : (Float → Float → Float → Float → Float) → Float
  part choice = divide_of t (choice zero₃₂ e.first e.second e.third) (choice e.first e.second e.third one₃₂)

  abbrev blend : (Float → Float → Float → Float → Float) → Float → Float → Float
  blend choice u y = choice y (one₃₂ ⊕ (e.sustain ⊖ one₃₂) ⊗ y) (e.sustain ⊕ (e.sustain_end ⊖ e.sustain) ⊗ u) (e.sustain_end ⊗ (one₃₂ ⊖ y))

  abbrev formula : (Float → Float → Float → Float → Float) → Float
  formula choice = blend choice (part choice) (bent_of (part choice) (choice e.attack_bend e.decay_bend one₃₂ e.release_bend))

  each : (a b c : Bool) → formula (λ w x y z. cond a w (cond b x (cond c y z))) ≡ cond a (attack_of e t) (cond b (decay_of e t) (cond c (sustain_of e t) (release_of e t)))
  unfolding attack_of decay_of sustain_of release_of
  each true b c = refl
  each false true c = refl
  each false false true = refl
  each false false false = refl

  module _ {from to bend u y r : Float} (f : from ≡ of_stretch e t zero₃₂ e.first e.second e.third) (g : to ≡ of_stretch e t e.first e.second e.third one₃₂)
      (h : bend ≡ of_stretch e t e.attack_bend e.decay_bend one₃₂ e.release_bend) (i : u ≡ divide_of t from to) (j : y ≡ bent_of u bend) where
    gathered : r ≡ blend (of_stretch e t) u y → r ≡ formula (of_stretch e t)
    gathered k = simp (k, j, i, h, g, f)

    pub level_by_stretch : r ≡ blend (of_stretch e t) u y → r ≡ envelope_level_of e t
    unfolding envelope_level_of
    level_by_stretch k = gathered k ∙ each (lt t e.first) (lt t e.second) (lt t e.third)
