-- `put_undrawn_part` puts `undrawn_part`. Assumes nothing.
use mathlib.Core.Path.{◌≡◌, sym, ◌∙◌}
use mathlib.Core.List.{◌++◌}
use Prim.Native.Nat.{ℕ}
use borrow.Author.Tests.{eq-eqb, ne_eqb}
use Rattle.text.specs.Text.{ascii}
use Rattle.text.proofs.Writing.{◌⨾◌, puts_as}
use Rattle.code_bytes.specs.Bytes.{block_length}
use Rattle.undrawn_count.specs.Count.{undrawn_count}
use Rattle.undrawn_lines.specs.Lines.{undrawn_text}
use Rattle.undrawn_bytes.specs.Undrawn.{undrawn_part}
use Rattle.undrawn_bytes.proofs.put_undrawn_part.Goals as goal

module _ (a b : ℕ → ℕ) (n : ℕ) (e : n ≡ undrawn_count block_length a b) where
  none_differs : n ≡ 0 → ascii "Not drawn        " ++ ascii "same\n" ≡ undrawn_part a b
  unfolding undrawn_part
  none_differs h = simp (eq-eqb _ _ (sym e ∙ h))

  some_differ : (n ≡ 0 → ⊥) → ascii "Not drawn        " ++ (ascii "different\n" ++ undrawn_text block_length a b) ≡ undrawn_part a b
  unfolding undrawn_part
  some_differ h = simp (ne_eqb _ _ (λ q. h (e ∙ q)))

pub returns-then-count_undrawn-eq0 : goal.returns-then-count_undrawn-eq0
returns-then-count_undrawn-eq0 c = puts_as (none_differs _ _ _ c.count_undrawn.ensures.0 c.if-count_undrawn-eq0.true) (c.put.ensures ⨾ c.put-then-count_undrawn-eq0.ensures)

pub returns-else-count_undrawn-eq0 : goal.returns-else-count_undrawn-eq0
returns-else-count_undrawn-eq0 c =
    puts_as (some_differ _ _ _ c.count_undrawn.ensures.0 c.if-count_undrawn-eq0.false)
    (c.put.ensures ⨾ (c.put-else-count_undrawn-eq0.ensures ⨾ c.put_undrawn.ensures))
