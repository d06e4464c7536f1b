use Rattle.std.proofs.Common.{refl}
use Rattle.snapshots.proofs.Taken.{took_none}
use Rattle.snapshots.proofs.so_far.FilesSoFar.begin.Goals as goal

pub returns-clause-ok : goal.returns-clause-ok
returns-clause-ok g c = took_none _ _ _ c.in_ok-write_all.ensures.prefix refl refl c.new.ensures.last c.new.ensures.lengths
