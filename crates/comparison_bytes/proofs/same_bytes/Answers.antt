-- `same_bytes` is `same_bytes`. Assumes nothing.
use mathlib.Core.Path.{◌∙◌}
use lib.Dec.{eqb}
use borrow.Author.Rules.{rules}
use borrow.Author.Tests.{tests}
use Rattle.code_bytes.specs.Bytes.{byte_at}
use Rattle.std.proofs.lemmas.Iterator.{YieldsList-from_slice}
use Rattle.std.proofs.lemmas.Iterator.Search.{all_from_yields_List}
use Rattle.comparison_bytes.proofs.ByteLines.{every_same}
use Rattle.comparison_bytes.proofs.same_bytes.Goals as goal

pub returns : goal.returns
returns c =
    all_from_yields_List (λ n. eqb (byte_at c.args.old.now n) (byte_at c.args.new.now n)) _ _ _ c.all.ensures.ran (YieldsList-from_slice c.args.bytes.now cc) (λ x b q k. search (rules, tests))
    ∙ every_same _ _ _
