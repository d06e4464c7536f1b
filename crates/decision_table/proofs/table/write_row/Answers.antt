use Rattle.std.proofs.Common.{◌≡◌, ◌∷◌, ◌++◌, [], ap, ◌∙◌, sym}
use Rattle.std.proofs.lemmas.Result.{err_from_is_err_and}
use Rattle.devices.proofs.Appending.{stopped_first, stopped_in}
use Rattle.decision_table.specs.Rows.{text_field, row_text}
use Rattle.decision_table.proofs.Writing.{stopped_third, stopped_fourth, stopped_fifth, five_written, five_parts}
use Rattle.decision_table.proofs.table.write_row.Goals as goal

pub returns-in_err-write_all-clause-prefix : goal.returns-in_err-write_all-clause-prefix
returns-in_err-write_all-clause-prefix g c =
    let line = c.as_slice.result.now in
    let method = text_field c.args.method.now in
    let target = text_field c.args.target.now in
    let whole : row_text c.args.row.now c.args.method.now c.args.target.now ≡ line ++ (method ++ (44 ∷ [] ++ (target ++ 10 ∷ []))) =
    ap (λ v. v ++ method ++ 44 ∷ [] ++ target ++ 10 ∷ []) (sym (c.as_slice.ensures.value ∙ c.row_line-line.ensures)) ∙ five_parts line method (44 ∷ []) target (10 ∷ []) in
    let stop = err_from_is_err_and c.from_residual.result c.from_residual.ensures.1 in
    rw stop.1 (stopped_first _ _ line (method ++ (44 ∷ [] ++ (target ++ 10 ∷ []))) (row_text c.args.row.now c.args.method.now c.args.target.now) whole c.in_err-write_all.ensures.prefix)

pub returns-in_err-write_text-clause-prefix : goal.returns-in_err-write_text-clause-prefix
returns-in_err-write_text-clause-prefix g c =
    let line = c.as_slice.result.now in
    let method = text_field c.args.method.now in
    let target = text_field c.args.target.now in
    let whole : row_text c.args.row.now c.args.method.now c.args.target.now ≡ line ++ (method ++ (44 ∷ [] ++ (target ++ 10 ∷ []))) =
    ap (λ v. v ++ method ++ 44 ∷ [] ++ target ++ 10 ∷ []) (sym (c.as_slice.ensures.value ∙ c.row_line-line.ensures)) ∙ five_parts line method (44 ∷ []) target (10 ∷ []) in
    let stop = err_from_is_err_and c.from_residual-in_err-write_text.result c.from_residual-in_err-write_text.ensures.1 in
    rw stop.1 (stopped_in _ _ _ line method (44 ∷ [] ++ (target ++ 10 ∷ [])) (row_text c.args.row.now c.args.method.now c.args.target.now) whole c.in_ok-write_all.ensures.prefix c.in_err-write_text.ensures.prefix)

pub returns-in_err-write_all-2-clause-prefix : goal.returns-in_err-write_all-2-clause-prefix
returns-in_err-write_all-2-clause-prefix g c =
    let line = c.as_slice.result.now in
    let method = text_field c.args.method.now in
    let target = text_field c.args.target.now in
    let whole : row_text c.args.row.now c.args.method.now c.args.target.now ≡ line ++ (method ++ (44 ∷ [] ++ (target ++ 10 ∷ []))) =
    ap (λ v. v ++ method ++ 44 ∷ [] ++ target ++ 10 ∷ []) (sym (c.as_slice.ensures.value ∙ c.row_line-line.ensures)) ∙ five_parts line method (44 ∷ []) target (10 ∷ []) in
    let stop = err_from_is_err_and c.from_residual-in_err-write_all-2.result c.from_residual-in_err-write_all-2.ensures.1 in
    rw stop.1 (stopped_third _ _ _ _ line method (44 ∷ []) (target ++ 10 ∷ []) (row_text c.args.row.now c.args.method.now c.args.target.now) whole c.in_ok-write_all.ensures.prefix c.in_ok-write_text.ensures.prefix c.in_err-write_all-2.ensures.prefix)

pub returns-in_err-write_text-2-clause-prefix : goal.returns-in_err-write_text-2-clause-prefix
returns-in_err-write_text-2-clause-prefix g c =
    let line = c.as_slice.result.now in
    let method = text_field c.args.method.now in
    let target = text_field c.args.target.now in
    let whole : row_text c.args.row.now c.args.method.now c.args.target.now ≡ line ++ (method ++ (44 ∷ [] ++ (target ++ 10 ∷ []))) =
    ap (λ v. v ++ method ++ 44 ∷ [] ++ target ++ 10 ∷ []) (sym (c.as_slice.ensures.value ∙ c.row_line-line.ensures)) ∙ five_parts line method (44 ∷ []) target (10 ∷ []) in
    let stop = err_from_is_err_and c.from_residual-in_err-write_text-2.result c.from_residual-in_err-write_text-2.ensures.1 in
    rw stop.1 (stopped_fourth _ _ _ _ _ line method (44 ∷ []) target (10 ∷ []) (row_text c.args.row.now c.args.method.now c.args.target.now) whole c.in_ok-write_all.ensures.prefix c.in_ok-write_text.ensures.prefix c.in_ok-write_all-2.ensures.prefix c.in_err-write_text-2.ensures.prefix)

pub returns-in_err-write_all-3-clause-prefix : goal.returns-in_err-write_all-3-clause-prefix
returns-in_err-write_all-3-clause-prefix g c =
    let line = c.as_slice.result.now in
    let method = text_field c.args.method.now in
    let target = text_field c.args.target.now in
    let whole : row_text c.args.row.now c.args.method.now c.args.target.now ≡ line ++ (method ++ (44 ∷ [] ++ (target ++ 10 ∷ []))) =
    ap (λ v. v ++ method ++ 44 ∷ [] ++ target ++ 10 ∷ []) (sym (c.as_slice.ensures.value ∙ c.row_line-line.ensures)) ∙ five_parts line method (44 ∷ []) target (10 ∷ []) in
    let stop = err_from_is_err_and c.from_residual-in_err-write_all-3.result c.from_residual-in_err-write_all-3.ensures.1 in
    rw stop.1 (stopped_fifth _ _ _ _ _ _ line method (44 ∷ []) target (10 ∷ []) (row_text c.args.row.now c.args.method.now c.args.target.now) whole c.in_ok-write_all.ensures.prefix c.in_ok-write_text.ensures.prefix c.in_ok-write_all-2.ensures.prefix c.in_ok-write_text-2.ensures.prefix c.in_err-write_all-3.ensures.prefix)

pub returns-clause-prefix : goal.returns-clause-prefix
returns-clause-prefix g c =
    let line = c.as_slice.result.now in
    let method = text_field c.args.method.now in
    let target = text_field c.args.target.now in
    let whole : row_text c.args.row.now c.args.method.now c.args.target.now ≡ line ++ (method ++ (44 ∷ [] ++ (target ++ 10 ∷ []))) =
    ap (λ v. v ++ method ++ 44 ∷ [] ++ target ++ 10 ∷ []) (sym (c.as_slice.ensures.value ∙ c.row_line-line.ensures)) ∙ five_parts line method (44 ∷ []) target (10 ∷ []) in
    five_written _ _ _ _ _ _ line method (44 ∷ []) target (10 ∷ []) (row_text c.args.row.now c.args.method.now c.args.target.now) whole c.in_ok-write_all.ensures.prefix c.in_ok-write_text.ensures.prefix c.in_ok-write_all-2.ensures.prefix c.in_ok-write_text-2.ensures.prefix c.in_ok-write_all-3.ensures.prefix
