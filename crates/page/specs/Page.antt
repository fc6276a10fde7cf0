-- THE PAGE: docs/SPECIFICATION.md, "The page". A4, landscape, in hundredths of a millimetre. `file` is the name of the block's file, and empty where there is none; `oldFile` is that of
-- the older block's. Definitions only.
use Rattle.std.specs.Prelude.{cond, List, [], ◌++◌, ℕ, eqb, length}
use Rattle.settings.specs.declared.SampledTurns.{SampledTurns}
use Rattle.turns.specs.Turns.{turns_read, turns_text}
use Rattle.code_bytes.specs.Bytes.{block_length}
use Rattle.page_panels.specs.Panels.{panels_text}
use Rattle.page_head.specs.Head.{style_text, head_text}
use Rattle.page_end.specs.End.{page_end}
use Rattle.compared_head.specs.Compared.{compared_head}

-- ---- the whole, with the sampled shapes at n turns
-- What follows the head. Without an older program the older block is the block, and nothing differs.
unfoldable pub body_text : SampledTurns → List ℕ → List ℕ → List ℕ → List ℕ
body_text n file older block = panels_text n older block 14 ++ page_end file older block

unfoldable pub page_of : SampledTurns → List ℕ → List ℕ → List ℕ
page_of n file block = style_text ++ head_text file block ++ body_text n file block block

unfoldable pub comparison_of : SampledTurns → List ℕ → List ℕ → List ℕ → List ℕ → List ℕ
comparison_of n oldFile older file block = style_text ++ compared_head oldFile older file block ++ body_text n file older block

-- A block of another length has no page, and another number of turns than 6 or 8 has none.
unfoldable pub page_text : ℕ → List ℕ → List ℕ → List ℕ
page_text turns file block = cond (eqb (length block) block_length) (turns_text (λ n. page_of n file block) (turns_read turns)) []

unfoldable pub comparison_text : ℕ → List ℕ → List ℕ → List ℕ → List ℕ → List ℕ
comparison_text turns oldFile older file block =
    cond (eqb (length older) block_length) (cond (eqb (length block) block_length) (turns_text (λ n. comparison_of n oldFile older file block) (turns_read turns)) []) []
