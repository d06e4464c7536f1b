use Rattle.std.proofs.Common.{rules}
use Rattle.replay.proofs.CountMore.{counted_at}
use Rattle.replay.proofs.totals.count_status.Goals as goal

pub returns : goal.returns
returns g c = counted_at c.args.counts.now _ c.status_place.result (search rules) c.status_place.ensures
