use Rattle.std.proofs.Common.{◌+◌, ap, ◌∙◌, arith}
use Rattle.paths.proofs.Entries.{front_starts, front_goes_on, front_ends, front_faults}
use Rattle.paths.proofs.snapshot.Snapshot.read_front.Goals as goal
use Rattle.paths.proofs.PartLemmas.{front_fails, front_lacks, front_has_no_room}

pub loop-files-init : goal.loop-files-init
loop-files-init g c = (front_starts _ _ _ _ _ c.new-files.ensures c.in-Ok.ensures.line, c.in-Ok.ensures.count)

pub returns-in-Ok-None-clause-ok : goal.returns-in-Ok-None-clause-ok
returns-in-Ok-None-clause-ok g c = rw c.note_names.ensures
    (front_ends _ _ _ _ _ _ _ c.in-Ok-None.field-0-is (omega (arith, c.len-entry.ensures.count, c.len-entry.ensures.limit)) c.loop-files.invariant.0 c.in-Ok-None.ensures.entry)

pub loop-files-preserved : goal.loop-files-preserved
loop-files-preserved g c = (
  front_goes_on _ _ _ _ _ _ _ _ _ c.in-Ok-Some.field-0-is c.in-Ok-push.ensures.ok (omega (arith, c.len-entry.ensures.count, c.len-entry.ensures.limit)) c.loop-files.invariant.0 c.in-Ok-Some.ensures.entry,
  c.in-Ok-Some.ensures.count ∙ c.loop-files.invariant.1,
)

pub returns-in-Err-read_entry-clause-fault : goal.returns-in-Err-read_entry-clause-fault
returns-in-Err-read_entry-clause-fault g c =
    front_faults _ _ _ _ _ _ c.len-entry.ensures.rules (ap (λ n. n + 1) c.len-entry.ensures.count) c.loop-files.invariant.0 c.in-Err-read_entry.ensures.entry

pub returns-in-Err-read_entry-clause-failed : goal.returns-in-Err-read_entry-clause-failed
returns-in-Err-read_entry-clause-failed g c = λ failed k.
    front_fails _ _ _ _ _ _ _ _ c.len-entry.ensures.rules (ap (λ n. n + 1) c.len-entry.ensures.count) c.loop-files.invariant.0 (c.in-Err-read_entry.ensures.part failed) k

pub returns-in-Err-push-clause-lacking : goal.returns-in-Err-push-clause-lacking
returns-in-Err-push-clause-lacking g c = λ lacks k.
    front_has_no_room _ _ _ _ _ _ _ _ _ _ c.in-Ok-Some.field-0-is c.len-entry.ensures.rules c.in-Ok-Some.ensures.fits
    (ap (λ n. n + 1) c.len-entry.ensures.count) c.loop-files.invariant.0 c.in-Ok-Some.ensures.entry k

pub returns-in-Err-read_entry-clause-lacking : goal.returns-in-Err-read_entry-clause-lacking
returns-in-Err-read_entry-clause-lacking g c = λ lacks k.
    front_lacks _ _ _ _ _ _ _ _ c.len-entry.ensures.rules (ap (λ n. n + 1) c.len-entry.ensures.count) c.loop-files.invariant.0 (c.in-Err-read_entry.ensures.lacks lacks) k
