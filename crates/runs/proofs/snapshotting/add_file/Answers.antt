use Rattle.std.proofs.Common.{sym}
use Rattle.std.proofs.lemmas.Result.{err_from_is_err_and}
use Rattle.runs.proofs.FoldersTaken.{file_refused, file_cut}
use Rattle.runs.proofs.snapshotting.add_file.Goals as goal

pub returns-in-Ok-clause-ok : goal.returns-in-Ok-clause-ok
returns-in-Ok-clause-ok g c =
    rw (← c.as_bytes.ensures.value, ← c.deref.ensures.value) (λ files before took. (sym (c.in-Ok.ensures.rule files before took), c.in-Ok.ensures.taken files before took))

pub returns-in_ok-refusal-in-Err-clause-ok : goal.returns-in_ok-refusal-in-Err-clause-ok
returns-in_ok-refusal-in-Err-clause-ok g c =
    rw (← c.as_bytes.ensures.value, ← c.deref.ensures.value) (λ files before took.
    file_refused files before _ c.args.output.now c.add.new.output _ c.add.new.self c.in-Err.fault _ (sym c.in_ok-refusal-in-Err.ensures) c.in-Err.ensures.unchanged (c.in-Err.ensures.rule files before took) took)

pub returns-in_err-refusal-in-Err-clause-fault : goal.returns-in_err-refusal-in-Err-clause-fault
returns-in_err-refusal-in-Err-clause-fault g c =
    let stop = err_from_is_err_and c.from_residual.result c.from_residual.ensures.1 in
    rw (stop.1, stop.2, ← c.as_bytes.ensures.value, ← c.deref.ensures.value) (λ files before took.
    file_cut files before _ c.args.output.now c.add.new.output _ c.add.new.self c.in-Err.fault _ (sym c.in_err-refusal-in-Err.ensures) (c.in-Err.ensures.part files before took) c.in-Err.ensures.unchanged (c.in-Err.ensures.rule files before took) took)
