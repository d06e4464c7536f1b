use Rattle.std.proofs.Common.{◌≡◌, ◌+◌, ◌≤◌, ◌<◌, ◌⊎◌, ℕ, List, Option, ◌++◌}
use Rattle.captures.specs.declared.version.Version.{Version}
use Rattle.captures.specs.Readers.{ReaderAfter}
use Rattle.captures.specs.declared.record.Record.{Record}
use Rattle.captures.specs.declared.progress.ReaderState.TheVariants.{Reading}
use Rattle.captures.specs.Reference.{max_piece_bytes}
use Rattle.captures.specs.Captures.{sizes_of}
use Rattle.arrivals.specs.Batches.{piece_count, enough_bytes}
use Rattle.arrivals.proofs.batch.read_batch.Given as goal

-- the records were read
abbrev pub invariant-loop-count : goal.invariant-loop-count
invariant-loop-count g l = record {
  after :
      (v : Version) (text : Option (List ℕ)) (start : ℕ) (records : List Record) → ReaderAfter v text start records l.fn.capture.progress l.fn.capture.input.now.bytes
      → ReaderAfter v text start (records ++ l.records.items) l.capture.progress l.capture.input.now.bytes;
  count : l.count ≡ piece_count l.records.items;
  bytes : l.bytes ≡ sizes_of l.records.items;
  most : piece_count l.records.items ≤ l.fn.pieces;
  few : sizes_of l.records.items < enough_bytes + max_piece_bytes;
  stage : l.capture.progress.stage ≡ Reading;
  capacity : l.capture.progress.capacity + l.count ≤ l.fn.capture.progress.capacity;
  failures : l.capture.input.now.failures ≡ l.fn.capture.input.now.failures;
  loan : l.capture.input.ghost_name ≡ l.fn.capture.input.ghost_name;
  less : (l.bytes ≡ 0) ⊎ (l.capture.progress.capacity < l.fn.capture.progress.capacity);
}

abbrev pub decreases-loop-count : goal.decreases-loop-count
decreases-loop-count g l = l.capture.progress.capacity
