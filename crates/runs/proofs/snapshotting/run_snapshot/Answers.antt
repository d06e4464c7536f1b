use Rattle.std.proofs.Common.{◌∙◌, arith}
use Rattle.std.proofs.lemmas.Result.{err_from_is_err_and}
use Rattle.runs.proofs.FoldersTaken.{none_reserved, none_begun, stopped, refused_now, stands_more, ended, unended}
use Rattle.runs.proofs.snapshotting.run_snapshot.Goals as goal

pub returns-in_err-reserve-clause-fault : goal.returns-in_err-reserve-clause-fault
returns-in_err-reserve-clause-fault g c =
    let stop = err_from_is_err_and c.from_residual.result c.from_residual.ensures.1 in
    rw (stop.1, stop.2) (none_reserved (g.F.Folder.answers c.args.folder.now) _ _ _ _ (c.in_err-reserve.ensures.items ∙ c.clear.ensures.items))

pub returns-in_err-writer-clause-fault : goal.returns-in_err-writer-clause-fault
returns-in_err-writer-clause-fault g c =
    let stop = err_from_is_err_and c.from_residual-in_err-writer.result c.from_residual-in_err-writer.ensures.1 in
    rw (stop.1, stop.2) (none_begun (g.F.Folder.answers c.args.folder.now) _ _ _ _ _ _ (c.in_ok-reserve.ensures.items ∙ c.clear.ensures.items) c.in_err-writer.ensures.fault)

pub returns-in_err-reason-clause-fault : goal.returns-in_err-reason-clause-fault
returns-in_err-reason-clause-fault g c =
    let stop = err_from_is_err_and c.from_residual-in_err-reason.result c.from_residual-in_err-reason.ensures.1 in
    rw (stop.1, stop.2) (stopped (g.F.Folder.answers c.args.folder.now) _ _ _ _ _ _ _ _ _ _ c.loop-one-test.true c.one-item.is c.loop-one.invariant.0 (c.in_err-reason.ensures.fault _ _ c.loop-one.invariant.0.took))

pub returns-in_err-refuse-clause-fault : goal.returns-in_err-refuse-clause-fault
returns-in_err-refuse-clause-fault g c =
    let stop = err_from_is_err_and c.from_residual-in_err-refuse.result c.from_residual-in_err-refuse.ensures.1 in
    rw (stop.1, stop.2) (refused_now (g.F.Folder.answers c.args.folder.now) _ _ _ _ _ _ _ _ _ _ _ _ c.loop-one-test.true c.one-item.is c.loop-one.invariant.0
    (c.in_ok-reason.ensures.ok _ _ c.loop-one.invariant.0.took) c.in_err-refuse.ensures.fault)

pub loop-one-preserved : goal.loop-one-preserved
loop-one-preserved g c = (
  rw c.push_reserved.ensures.items
      (stands_more (g.F.Folder.answers c.args.folder.now) _ _ _ _ _ _ _ _ _ _ _ c.loop-one-test.true c.one-item.is c.loop-one.invariant.0 c.in_ok-refuse.ensures.ok (c.in_ok-reason.ensures.ok _ _ c.loop-one.invariant.0.took)),
  c.in_ok-reason.ensures.count ∙ c.loop-one.invariant.1,
  omega (arith, c.push_reserved.ensures.len, c.loop-one.invariant.2),
  omega (arith, c.push_reserved.ensures.capacity, c.loop-one.invariant.3),
)

pub returns-clause-ok : goal.returns-clause-ok
returns-clause-ok g c = ended (g.F.Folder.answers c.args.folder.now) _ _ _ _ _ _ _ _ c.finish.result c.loop-one-test.false c.loop-one.invariant.0 (c.finish.ensures.text _ _ c.loop-one.invariant.0.took)

pub returns-clause-fault : goal.returns-clause-fault
returns-clause-fault g c = unended (g.F.Folder.answers c.args.folder.now) _ _ _ _ _ _ _ _ c.finish.result c.loop-one-test.false c.loop-one.invariant.0 (c.finish.ensures.text _ _ c.loop-one.invariant.0.took)
