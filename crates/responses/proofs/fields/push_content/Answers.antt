use Rattle.std.proofs.Common.{[], ◌∷◌, codes, decimal}
use Rattle.responses.proofs.Joining.{on_ok, more_fields}
use Rattle.responses.proofs.fields.push_content.Goals as goal

pub returns : goal.returns
returns c =
    on_ok _ _ c.push_number.result
    (more_fields c.args.head.now.items _ _ ((codes "Content-Type", c.args.media.now) ∷ []) ((codes "Content-Length", decimal c.args.len) ∷ []) c.in_ok-push_field.ensures)
    c.push_number.ensures
