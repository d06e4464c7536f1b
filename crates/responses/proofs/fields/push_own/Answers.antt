use Rattle.std.proofs.Common.{[], ◌∷◌, codes, decimal}
use Rattle.paths.specs.Reference.{file_of}
use Rattle.responses.specs.Reference.{changed, described}
use Rattle.responses.proofs.Joining.{on_ok, more_fields, page_fields_added}
use Rattle.responses.proofs.fields.push_own.Goals as goal

pub returns-in_ok-extend_from_slice-in-Page : goal.returns-in_ok-extend_from_slice-in-Page
returns-in_ok-extend_from_slice-in-Page g c =
    rw c.in-Page.is (on_ok _ _ c.push_changed.result
    (page_fields_added (file_of g.F.Tree.files c.in-Page.page) c.args.head.now.items _ _ _ (changed c.args.date c.in-Page.mtime) c.fields.ensures c.in_ok-extend_from_slice-in-Page.ensures.items) c.push_changed.ensures)

pub returns-in_ok-push_described-in-Moved : goal.returns-in_ok-push_described-in-Moved
returns-in_ok-push_described-in-Moved g c =
    rw c.in-Moved.is (on_ok _ _ c.push_field.result
    (more_fields c.args.head.now.items _ _ (described 301) ((codes "Location", c.in-Moved.location) ∷ []) (rw c.in-Moved.is at c.in_ok-push_described-in-Moved.ensures)) (rw c.as_slice.ensures at c.push_field.ensures))

pub returns-in-ServiceUnavailable : goal.returns-in-ServiceUnavailable
returns-in-ServiceUnavailable g c =
    let plain = c.in-Plain.is in
    let status = c.in-ServiceUnavailable.is in
    let retry = c.in-ServiceUnavailable.retry_after in
    rw (plain, status) (on_ok _ _ c.push_number.result
    (more_fields c.args.head.now.items _ _ (described 503) ((codes "Retry-After", decimal retry) ∷ []) (rw (plain, status) at c.in_ok-push_described-in-Plain.ensures)) c.push_number.ensures)
