use Rattle.std.proofs.Common.{◌+◌, inl, ap}
use Rattle.paths.proofs.Entries.{trailing_faults}
use Rattle.paths.proofs.snapshot.Snapshot.read.Goals as goal

pub returns-in-Err-clause-fault : goal.returns-in-Err-clause-fault
returns-in-Err-clause-fault g c = λ k foreseen. inl (c.in-Err.ensures.fault k foreseen)

pub returns-in-Ok-Some-clause-fault : goal.returns-in-Ok-Some-clause-fault
returns-in-Ok-Some-clause-fault g c =
    trailing_faults _ _ _ _ _ _ _ c.in-Ok-Some.field-0-is c.in-Ok.ensures.ok c.in-Ok-Some.ensures.bytes c.len-entry.ensures.rules (ap (λ n. n + 1) c.len-entry.ensures.count)
