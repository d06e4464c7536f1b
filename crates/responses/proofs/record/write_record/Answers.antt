use Rattle.std.proofs.Common.{ℕ, List, ◌++◌, [], ◌∷◌, refl, sym, ◌∙◌}
use Rattle.std.proofs.lemmas.List.{append_assoc}
use Rattle.std.proofs.lemmas.Result.{err_from_is_err_and}
use Rattle.devices.proofs.Appending.{appends_then, stopped_first, stopped_in}
use Rattle.responses.specs.Reference.{record_text}
use Rattle.responses.proofs.Writing.{record_parts}
use Rattle.responses.proofs.record.write_record.Goals as goal

pub returns-in_err-write_all-clause-record : goal.returns-in_err-write_all-clause-record
returns-in_err-write_all-clause-record g c =
    let front = c.args.front.now in
    let body = c.args.body.now in
    let line = c.as_slice.result.now in
    let reply : ℕ × ℕ × List ℕ = (c.args.number, c.args.conn, front ++ body) in
    let whole = record_parts reply c.record_line-line.result.items line front body c.as_slice.ensures.value c.record_line-line.ensures refl in
    let stop = err_from_is_err_and c.from_residual.result c.from_residual.ensures.1 in
    let cut = c.in_err-write_all.ensures.prefix in
    rw stop.1 (stopped_first _ _ line (front ++ (body ++ 10 ∷ [])) (record_text reply) whole cut)

pub returns-in_err-write_all-2-clause-record : goal.returns-in_err-write_all-2-clause-record
returns-in_err-write_all-2-clause-record g c =
    let front = c.args.front.now in
    let body = c.args.body.now in
    let line = c.as_slice.result.now in
    let reply : ℕ × ℕ × List ℕ = (c.args.number, c.args.conn, front ++ body) in
    let whole = record_parts reply c.record_line-line.result.items line front body c.as_slice.ensures.value c.record_line-line.ensures refl in
    let stop = err_from_is_err_and c.from_residual-in_err-write_all-2.result c.from_residual-in_err-write_all-2.ensures.1 in
    rw stop.1 (stopped_in _ _ _ (line) (front) (body ++ 10 ∷ []) (record_text reply) (whole) c.in_ok-write_all.ensures.prefix c.in_err-write_all-2.ensures.prefix)

pub returns-in_err-write_all-3-clause-record : goal.returns-in_err-write_all-3-clause-record
returns-in_err-write_all-3-clause-record g c =
    let front = c.args.front.now in
    let body = c.args.body.now in
    let line = c.as_slice.result.now in
    let reply : ℕ × ℕ × List ℕ = (c.args.number, c.args.conn, front ++ body) in
    let whole = record_parts reply c.record_line-line.result.items line front body c.as_slice.ensures.value c.record_line-line.ensures refl in
    let stop = err_from_is_err_and c.from_residual-in_err-write_all-3.result c.from_residual-in_err-write_all-3.ensures.1 in
    rw stop.1 (stopped_in _ _ _ (line ++ front) (body) (10 ∷ []) (record_text reply) (whole ∙ sym (append_assoc line front (body ++ 10 ∷ []))) (appends_then _ _ _ line front c.in_ok-write_all.ensures.prefix c.in_ok-write_all-2.ensures.prefix) c.in_err-write_all-3.ensures.prefix)

pub returns-in_err-write_all-4-clause-record : goal.returns-in_err-write_all-4-clause-record
returns-in_err-write_all-4-clause-record g c =
    let front = c.args.front.now in
    let body = c.args.body.now in
    let line = c.as_slice.result.now in
    let reply : ℕ × ℕ × List ℕ = (c.args.number, c.args.conn, front ++ body) in
    let whole = record_parts reply c.record_line-line.result.items line front body c.as_slice.ensures.value c.record_line-line.ensures refl in
    let stop = err_from_is_err_and c.from_residual-in_err-write_all-4.result c.from_residual-in_err-write_all-4.ensures.1 in
    rw stop.1 (stopped_in _ _ _ (line ++ front ++ body) (10 ∷ []) ([]) (record_text reply) (whole ∙ sym (append_assoc line front (body ++ 10 ∷ [])) ∙ sym (append_assoc (line ++ front) body (10 ∷ []))) (appends_then _ _ _ (line ++ front) body (appends_then _ _ _ line front c.in_ok-write_all.ensures.prefix c.in_ok-write_all-2.ensures.prefix) c.in_ok-write_all-3.ensures.prefix) c.in_err-write_all-4.ensures.prefix)

pub returns-clause-record : goal.returns-clause-record
returns-clause-record g c =
    let front = c.args.front.now in
    let body = c.args.body.now in
    let line = c.as_slice.result.now in
    let reply : ℕ × ℕ × List ℕ = (c.args.number, c.args.conn, front ++ body) in
    let whole = record_parts reply c.record_line-line.result.items line front body c.as_slice.ensures.value c.record_line-line.ensures refl in
    rw whole (appends_then _ _ _ line (front ++ (body ++ 10 ∷ [])) c.in_ok-write_all.ensures.prefix
    (appends_then _ _ _ front (body ++ 10 ∷ []) c.in_ok-write_all-2.ensures.prefix
    (appends_then _ _ _ body (10 ∷ []) c.in_ok-write_all-3.ensures.prefix c.in_ok-write_all-4.ensures.prefix)))
