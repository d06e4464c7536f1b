use Rattle.std.proofs.Common.{List, ℕ, ◌++◌}
use Rattle.std.specs.Prelude.{codes}
use Rattle.std.proofs.lemmas.List.{append_assoc}
use Rattle.std.proofs.lemmas.Result.{err_from_is_err_and}
use Rattle.devices.proofs.Appending.{stopped_first, stopped_in, writes_proper_then}
use Rattle.report.specs.Reports.{reject_lines}
use Rattle.report.proofs.writing.write_lines.Goals as goal

pub returns-in_err-write_all-clause-lines : goal.returns-in_err-write_all-clause-lines
returns-in_err-write_all-clause-lines g c =
    let before = c.args.before.now in
    let lines = reject_lines c.args.rejected.now in
    let last : List ℕ = codes "end\n" in
    let stop = err_from_is_err_and c.from_residual.result c.from_residual.ensures.1 in
    rw stop.1 (stopped_first _ _ before (lines ++ last) (before ++ lines ++ last) (append_assoc before lines last) c.in_err-write_all.ensures.prefix)

pub returns-in_err-write_rejects-clause-lines : goal.returns-in_err-write_rejects-clause-lines
returns-in_err-write_rejects-clause-lines g c =
    let before = c.args.before.now in
    let lines = reject_lines c.args.rejected.now in
    let last : List ℕ = codes "end\n" in
    let stop = err_from_is_err_and c.from_residual-in_err-write_rejects.result c.from_residual-in_err-write_rejects.ensures.1 in
    rw stop.1 (stopped_in _ _ _ before lines last (before ++ lines ++ last) (append_assoc before lines last) c.in_ok-write_all.ensures.prefix c.in_err-write_rejects.ensures.lines)

pub returns-clause-lines : goal.returns-clause-lines
returns-clause-lines g c =
    let before = c.args.before.now in
    let lines = reject_lines c.args.rejected.now in
    let last : List ℕ = codes "end\n" in
    rw (append_assoc before lines last)
    (writes_proper_then _ _ _ before (lines ++ last) _ c.in_ok-write_all.ensures.prefix
    (writes_proper_then _ _ _ lines last _ c.in_ok-write_rejects.ensures.lines c.write_all-2.ensures.prefix))
