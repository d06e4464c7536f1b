use Rattle.std.proofs.Common.{◌∙◌}
use Rattle.std.proofs.lemmas.Result.{err_from_is_err_and}
use Rattle.report.specs.Reports.{reject_line}
use Rattle.report.proofs.Lines.{stopped_among}
use Rattle.report.proofs.writing.write_rejects.Goals as goal

pub returns-in_err-write_all-clause-lines : goal.returns-in_err-write_all-clause-lines
returns-in_err-write_all-clause-lines g c =
    let stop = err_from_is_err_and c.from_residual.result c.from_residual.ensures.1 in
    rw stop.1 (stopped_among reject_line _ _ _ c.args.rejected.now c.loop-number.number-index 0 _ c.loop-number-test.true (c.as_slice.ensures.value ∙ c.reject_line.ensures) c.loop-number.invariant.0 c.in_err-write_all.ensures.prefix)
