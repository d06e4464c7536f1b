use Rattle.std.proofs.Common.{arith}
use Rattle.devices.proofs.Limits.{took_more}
use Rattle.devices.proofs.PartLemmas.{run_takes}
use Rattle.std.proofs.lemmas.Result.{err_from_is_err_and}
use Rattle.captures.proofs.PartLemmas.{read_is, body_fails}
use Rattle.captures.proofs.reading.read_body.Goals as goal

pub returns-in_err-end-clause-part : goal.returns-in_err-end-clause-part
returns-in_err-end-clause-part g c =
    let stop = err_from_is_err_and c.from_residual-in_err-end.result c.from_residual-in_err-end.ensures.1 in
    rw stop.1 (λ failed k. body_fails c.args.len _ _ _ _ _ _ _ c.in_ok-bytes.ensures.length c.in_ok-bytes.ensures.run (c.in_err-end.ensures.part (read_is _ _ stop.2 failed)) k)

pub returns-in_err-end-clause-most : goal.returns-in_err-end-clause-most
returns-in_err-end-clause-most g c =
    took_more _ 1 _ _ _ _ _ _ (run_takes c.args.len _ _ _ _ _ c.in_ok-bytes.ensures.run) (λ left. omega (arith, left, c.in_ok-bytes.ensures.length)) c.read_byte_of.ensures.most

pub returns-then-end-ne10-clause-most : goal.returns-then-end-ne10-clause-most
returns-then-end-ne10-clause-most g c =
    took_more _ 1 _ _ _ _ _ _ (run_takes c.args.len _ _ _ _ _ c.in_ok-bytes.ensures.run) (λ left. omega (arith, left, c.in_ok-bytes.ensures.length)) c.read_byte_of.ensures.most

pub returns-clause-most : goal.returns-clause-most
returns-clause-most g c =
    took_more _ 1 _ _ _ _ _ _ (run_takes c.args.len _ _ _ _ _ c.in_ok-bytes.ensures.run) (λ left. omega (arith, left, c.in_ok-bytes.ensures.length)) c.read_byte_of.ensures.most
