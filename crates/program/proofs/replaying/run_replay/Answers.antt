use Rattle.std.proofs.Common.{refl}
use Rattle.std.proofs.lemmas.Result.{err_from_is_err_and}
use Rattle.program.proofs.Reporting.{stops_after}
use Rattle.program.proofs.replaying.run_replay.Goals as goal

pub returns-in_err-files-clause-fault : goal.returns-in_err-files-clause-fault
returns-in_err-files-clause-fault g c =
    let stop = err_from_is_err_and c.from_residual.result c.from_residual.ensures.1 in
    rw (stop.1, stop.2) (c.in_err-files.ensures.fault, refl, refl)

pub returns-in_err-outcome-clause-fault : goal.returns-in_err-outcome-clause-fault
returns-in_err-outcome-clause-fault g c =
    let stop = err_from_is_err_and c.from_residual-in_err-outcome.result c.from_residual-in_err-outcome.ensures.1 in
    rw (stop.1, stop.2) (stops_after c.args.wanted c.args.settings.now _ _ _ _ c.in_ok-files.files _ _ _ c.in_ok-files.ensures.ok (rw (← c.files.view_is) c.files.invariant) c.in_err-outcome.ensures.fault, refl)
