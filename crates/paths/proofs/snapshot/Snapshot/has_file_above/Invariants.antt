use Rattle.paths.specs.Snapshots.{HasNoFileAbove}
use Rattle.paths.proofs.snapshot.Snapshot.has_file_above.Given as goal

abbrev pub invariant-loop-at : goal.invariant-loop-at
invariant-loop-at l = HasNoFileAbove l.self l.name l.at
