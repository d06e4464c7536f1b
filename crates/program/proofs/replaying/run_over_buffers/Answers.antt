use Rattle.std.proofs.Common.{refl}
use Rattle.program.proofs.AttributionCounts.{snapshot_reader_once, capture_reader_once, unreported_at_files}
use Rattle.program.proofs.AttributionLemmas.{reader_settled, replies_reported, report_healthy, still_reported}
use Rattle.program.proofs.Reporting.{exactly}
use Rattle.program.proofs.replaying.run_over_buffers.Goals as goal

pub returns-clause-stands : goal.returns-clause-stands
returns-clause-stands g c = record {
  ran = c.run_replay-ran.result;
  whole = c.run_replay-ran.new.written;
  out_whole = c.run_replay-ran.new.out;
  rest = c.finish_output-ran.result.0;
  says = (
    rw (c.buffered-replies.ensures, c.buffered-rest.ensures, ← c.requires.written, ← c.requires.report) at c.run_replay-ran.ensures.ok,
    rw (c.buffered-replies.ensures, c.buffered-rest.ensures, ← c.requires.written, ← c.requires.report) at c.run_replay-ran.ensures.fault,
  );
  replies = rw (c.requires.written, ← c.is_due-due.ensures) c.finish_output-ran.ensures.stands;
  report = rw (c.requires.report, ← c.is_ok-due.ensures.value) c.finish_output-ran-2.ensures.stands;
}

pub returns-clause-reads : goal.returns-clause-reads
returns-clause-reads g c =
    let reports_write = c.run_replay-ran.ensures.reports_write in (
      reader_settled _ _ _ _ _ _ _ _ _ _ _ snapshot_reader_once refl refl (reader_settled _ _ _ _ _ _ _ _ _ _ _ snapshot_reader_once refl refl (exactly c.run_replay-ran.result _ _ _ _ reports_write.0) c.finish_output-ran.ensures.stands)
          c.finish_output-ran-2.ensures.stands,
      reader_settled _ _ _ _ _ _ _ _ _ _ _ capture_reader_once refl refl
          (reader_settled _ _ _ _ _ _ _ _ _ _ _ capture_reader_once refl refl (unreported_at_files c.args.wanted _ _ c.run_replay-ran.result reports_write.1) c.finish_output-ran.ensures.stands)
          c.finish_output-ran-2.ensures.stands,
    )

pub returns-clause-writes : goal.returns-clause-writes
returns-clause-writes g c = (
  λ failed. still_reported _ _ _ _ _ _ c.is_ok-due.ensures.value c.finish_output-ran-2.ensures.stands (replies_reported _ _ _ _ _ _ _ c.is_due-due.ensures c.finish_output-ran.ensures.stands c.finish_output-ran.ensures.failed failed),
  report_healthy _ _ _ _ _ _ _ c.is_ok-due.ensures.value c.finish_output-ran-2.ensures.stands c.finish_output-ran-2.ensures.failed,
)
