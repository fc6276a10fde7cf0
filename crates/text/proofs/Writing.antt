-- The laws of `Puts`, for whoever calls writers. Calls in a row put their texts as one, a ++ b ++ c: the answer is f ⨾ g ⨾ h, over what they ensure. A loop over a text
-- that is defined from its front has `Left` in its invariant: from `left_all`, by `left_less` at each turn, to `left_none`. One over texts by their numbers has `Puts` of
-- `texts_below`: from `no_text`, by `text_more`, to `all_texts`. Assumes nothing.
use mathlib.Core.Path.{◌≡◌, refl, ap, ◌∙◌}
use mathlib.Core.List.{List, [], ◌∷◌, ◌++◌}
use Prim.Native.Nat.{ℕ, ◌+◌, ◌<◌, ◌≤◌}
use native.Mathlib.Nat.{le_antisymm}
use native.Mathlib.Numerals.{add-one}
use lib.ListN.{length, take, get_or}
use lib.Seq.{take-suc, take_all}
use Rattle.text.specs.declared.Writer.{Writer}
use Rattle.text.specs.Text.{texts_below, Page, page_of, put_byte, put_all, Puts}

pub all_then : (p : Page) (x y : List ℕ) → put_all (put_all p x) y ≡ put_all p (x ++ y)
unfolding put_all
all_then p [] y = refl
all_then p (b ∷ x) y = all_then (put_byte p b) x y

-- Nothing is put by not writing.
pub puts_none : (w : Writer) → Puts w [] w
unfolding put_all
puts_none w = record { page = refl; same = refl }

infixl 5 ◌⨾◌
-- One text, and then another.
pub ◌⨾◌ : {w w₁ w₂ : Writer} {x y : List ℕ} → Puts w x w₁ → Puts w₁ y w₂ → Puts w (x ++ y) w₂
◌⨾◌ {x = x} {y = y} f g = record { page = g.page ∙ ap (λ (q : Page). put_all q y) f.page ∙ all_then _ x y; same = g.same ∙ f.same }

-- The same of an equal text.
pub puts_as : {w w₁ : Writer} {x y : List ℕ} → x ≡ y → Puts w x w₁ → Puts w y w₁
puts_as {w} {w₁} e f = rw e at f

-- ---- a text put byte by byte: its first i bytes
pub one_more : (text : List ℕ) (i : ℕ) {w w₁ w₂ : Writer} → i < length text → Puts w (take i text) w₁ → Puts w₁ (get_or text i 0 ∷ []) w₂ → Puts w (take (i + 1) text) w₂
one_more text i h f g = rw (add-one, take-suc text i 0) (f ⨾ g)

pub all_put : (text : List ℕ) (i : ℕ) {w w₁ : Writer} → length text ≤ i → Puts w (take i text) w₁ → Puts w text w₁
all_put text i h f = puts_as (take_all i text h) f

-- ---- texts put one after the other: those of the numbers below k
module _ (f : ℕ → List ℕ) where
  pub no_text : {w : Writer} → Puts w (texts_below f 0) w
  unfolding texts_below
  no_text = puts_none _

  pub text_more : (k : ℕ) {w w₁ w₂ : Writer} → Puts w (texts_below f k) w₁ → Puts w₁ (f k) w₂ → Puts w (texts_below f (k + 1)) w₂
  unfolding texts_below
  text_more k g h = rw (add-one k) (g ⨾ h)

  pub all_texts : (k n : ℕ) {w w₁ : Writer} → k ≤ n → n ≤ k → Puts w (texts_below f k) w₁ → Puts w (texts_below f n) w₁
  all_texts k n h l g = let e : k ≡ n = le_antisymm h l in rw e at g

-- ---- a text put from its front: what is left of x is y
pub record Left (w : Writer) (x : List ℕ) (w₁ : Writer) (y : List ℕ) : Type 0 where
  pub left : put_all (page_of w₁) y ≡ put_all (page_of w) x
  pub same : w₁.buffer.ghost_name ≡ w.buffer.ghost_name

pub left_all : {w : Writer} {x : List ℕ} → Left w x w x
left_all = record { left = refl; same = refl }

pub left_less : {w w₁ w₂ : Writer} {x z y : List ℕ} → Left w x w₁ (z ++ y) → Puts w₁ z w₂ → Left w x w₂ y
left_less {z = z} {y = y} f g = record { left = ap (λ (q : Page). put_all q y) g.page ∙ all_then _ z y ∙ f.left; same = g.same ∙ f.same }

pub left_none : {w w₁ : Writer} {x : List ℕ} → Left w x w₁ [] → Puts w x w₁
unfolding put_all
left_none f = record { page = f.left; same = f.same }
