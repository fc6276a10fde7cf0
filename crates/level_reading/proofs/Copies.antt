-- A LIST COPIED TO THE FRONT OF ANOTHER that is as long or longer: the front is then the list. Assumes nothing.
use mathlib.Core.Path.{◌≡◌, sym, ap, ◌∙◌}
use mathlib.Core.List.{List, ◌++◌, append-nil}
use Prim.Native.Nat.{ℕ, ◌≤◌}
use native.Mathlib.Nat.{le_of_eq, le-add_right}
use lib.ListN.{length, take, drop, drop_of_length-le, length-append}
use lib.Seq.{length-take-le, take-length, take_at}

module _ (text room : List ℕ) (h : length text ≤ length room) where
  abbrev count : ℕ
  count = length text

  pub front_length : count ≡ length (take count room)
  front_length = sym (length-take-le count room h)

  module _ {n : ℕ} {front : List ℕ} (e : n ≡ count) (f : front ≡ take count text ++ drop count (take count room)) where
    copied : front ≡ text
    copied =
        f ∙ ap (λ (x : List ℕ). x ++ drop count (take count room)) (take-length text)
        ∙ ap (λ (x : List ℕ). text ++ x) (drop_of_length-le (take count room) (le_of_eq (sym front_length)))
        ∙ append-nil text

    pub copy_within : n ≤ length (front ++ drop count room)
    copy_within = rw (e, copied, length-append text (drop count room)) (le-add_right count (length (drop count room)))

    pub copy_front : take n (front ++ drop count room) ≡ text
    copy_front = rw copied (take_at text (drop count room) n (sym e))
