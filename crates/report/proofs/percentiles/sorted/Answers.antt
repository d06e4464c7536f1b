use Rattle.report.proofs.Sorting.{sorted-from_sort}
use Rattle.report.proofs.percentiles.sorted.Goals as goal

pub returns : goal.returns
returns c = sorted-from_sort _ _ c.sort_unstable.ensures.permutation c.sort_unstable.ensures.sorted
