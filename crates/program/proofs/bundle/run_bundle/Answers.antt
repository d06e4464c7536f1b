use Rattle.std.proofs.Common.{refl}
use Rattle.std.proofs.lemmas.Result.{err_from_is_err_and}
use Rattle.program.proofs.Bundling.{answers_after, stops_after_snapshot}
use Rattle.program.proofs.bundle.run_bundle.Goals as goal

pub returns-in_err-files-clause-fault : goal.returns-in_err-files-clause-fault
returns-in_err-files-clause-fault g c =
    let stop = err_from_is_err_and c.from_residual.result c.from_residual.ensures.1 in
    rw (stop.1, stop.2) (c.in_err-files.ensures.fault, refl)

pub returns-in_err-plain_replay-clause-fault : goal.returns-in_err-plain_replay-clause-fault
returns-in_err-plain_replay-clause-fault g c =
    let stop = err_from_is_err_and c.from_residual-in_err-plain_replay.result c.from_residual-in_err-plain_replay.ensures.1 in
    rw (stop.1, stop.2) (stops_after_snapshot c.in_ok-files.files c.in_ok-settings.settings _ _ _ _ _ _ c.in_ok-settings.ensures.value c.in_ok-files.ensures.ok (rw (← c.files.view_is) c.files.invariant)
    c.in_err-plain_replay.ensures.fault)

pub returns-clause-ok : goal.returns-clause-ok
returns-clause-ok g c = answers_after c.in_ok-files.files c.in_ok-settings.settings _ _ _ _ _ c.in_ok-settings.ensures.value c.in_ok-files.ensures.ok (rw (← c.files.view_is) c.files.invariant) c.in_ok-plain_replay.ensures.ok
