use Rattle.std.proofs.Common.{rules, length-append}
use Rattle.std.proofs.lemmas.Slice.Zip.{zip_turn, zip_end}
use Rattle.responses.specs.Reference.{statuses}
use Rattle.report.proofs.Lines.{status_lines-more, status_lines-all}
use Rattle.report.proofs.reports.write_statuses.Goals as goal

pub loop-status-preserved : goal.loop-status-preserved
loop-status-preserved c =
    let turn = zip_turn statuses c.args.counts.by_status c.loop-status.yielded c.into_iter-status-iterator.result
    c.loop-status.status-iterator c.next.new.self c.next.result (search rules) (search rules) c.loop-status.yielded_by
    (c.in-Some.status, c.in-Some.count) c.in-Some.is c.next.ensures.steps in
    status_lines-more _ _ _ statuses c.args.counts.by_status _ _ _ _ turn.0 turn.1
    (length-append c.loop-status.yielded _) (turn.2 0) (turn.3 0) c.loop-status.invariant c.in_ok-write_status.ensures

pub returns : goal.returns
returns c =
    let end = zip_end statuses c.args.counts.by_status c.loop-status.yielded c.into_iter-status-iterator.result
    c.loop-status.status-iterator c.next.new.self c.next.result (search rules) (search rules) c.loop-status.yielded_by
    c.in-None.is c.next.ensures.steps in
    status_lines-all _ _ statuses c.args.counts.by_status _ end c.loop-status.invariant
