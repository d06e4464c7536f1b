use Rattle.std.proofs.lemmas.Result.{err_from_is_err_and}
use Rattle.paths.proofs.PartLemmas.{read_is, name_fails}
use Rattle.paths.proofs.entry.read_name.Goals as goal

pub returns-in_err-end-clause-part : goal.returns-in_err-end-clause-part
returns-in_err-end-clause-part g c =
    let stop = err_from_is_err_and c.from_residual-in_err-end.result c.from_residual-in_err-end.ensures.1 in
    rw stop.1 (λ failed k. name_fails c.args.files.now c.args.len _ _ _ _ _ _ _ c.in_ok-name.ensures.length c.in_ok-name.ensures.run (c.in_err-end.ensures.part (read_is _ _ stop.2 failed)) k)
