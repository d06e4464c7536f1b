use Rattle.std.proofs.Common.{◌∙◌}
use Rattle.std.proofs.lemmas.Result.{err_from_is_err_and}
use Rattle.devices.proofs.Appending.{proper_is_prefix}
use Rattle.snapshots.proofs.Taken.{all_ended, part_ended, none_ended}
use Rattle.snapshots.proofs.writer.SnapshotWriter.finish.Goals as goal

pub returns-in_err-line-clause-text : goal.returns-in_err-line-clause-text
returns-in_err-line-clause-text g c =
    let refused = err_from_is_err_and c.from_residual.result c.from_residual.ensures.1 in
    rw (refused.1, ← c.self.view_is) (λ files before took. none_ended files _ _ _ took)

pub returns-in_err-write_all-clause-text : goal.returns-in_err-write_all-clause-text
returns-in_err-write_all-clause-text g c =
    let failed = err_from_is_err_and c.from_residual-in_err-write_all.result c.from_residual-in_err-write_all.ensures.1 in
    rw (failed.1, ← c.self.view_is) (λ files before took. part_ended files _ _ _ _ _ took (c.as_bytes.ensures.value ∙ c.in_ok-line.ensures) (proper_is_prefix _ _ _ c.in_err-write_all.ensures.prefix))

pub returns-clause-text : goal.returns-clause-text
returns-clause-text g c =
    rw (← c.self.view_is) (λ files before took. all_ended files _ _ _ _ _ took (c.as_bytes.ensures.value ∙ c.in_ok-line.ensures) c.in_ok-write_all.ensures.prefix)
