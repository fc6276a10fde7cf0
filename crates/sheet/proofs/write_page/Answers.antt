use Rattle.std.proofs.Common.{arith, length-take}
use Rattle.sheet.proofs.write_page.Goals as goal

pub slice_bounds-comparison-end : goal.slice_bounds-comparison-end
slice_bounds-comparison-end c = simp length-take (omega arith)
