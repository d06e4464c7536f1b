use Rattle.std.proofs.Common.{refl}
use Rattle.program.proofs.AttributionCounts.{snapshot_reader_once, capture_reader_once}
use Rattle.program.proofs.AttributionLemmas.{reader_reported, run_reported}
use Rattle.program.proofs.replaying.replay_into.Goals as goal

pub returns-clause-device : goal.returns-clause-device
returns-clause-device g c = run_reported _ _ _ _ _ c.reported-ran-2.ensures (run_reported _ _ _ _ _ c.reported-ran.ensures c.run_buffered-ran.ensures.stands)

pub returns-clause-reads : goal.returns-clause-reads
returns-clause-reads g c = (
  reader_reported _ _ _ _ _ _ _ _ snapshot_reader_once refl refl (reader_reported _ _ _ _ _ _ _ _ snapshot_reader_once refl refl c.run_buffered-ran.ensures.reads.0 c.reported-ran.ensures) c.reported-ran-2.ensures,
  reader_reported _ _ _ _ _ _ _ _ capture_reader_once refl refl (reader_reported _ _ _ _ _ _ _ _ capture_reader_once refl refl c.run_buffered-ran.ensures.reads.1 c.reported-ran.ensures) c.reported-ran-2.ensures,
)
