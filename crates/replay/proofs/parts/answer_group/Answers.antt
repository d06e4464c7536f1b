use Rattle.std.proofs.Common.{◌≡◌, ap, ◌∙◌}
use Rattle.std.specs.Prelude.{flat_map}
use Rattle.responses.specs.Reference.{record_text}
use Rattle.replay.specs.Groups.{records_of}
use Rattle.replay.proofs.parts.answer_group.Goals as goal

pub returns-in-Ok-clause-part : goal.returns-in-Ok-clause-part
returns-in-Ok-clause-part g c =
    let texts : flat_map record_text c.deref-in-Ok.result.now ≡ records_of g.F.Tree.files c.args.group.items =
    ap (flat_map record_text) (c.deref-in-Ok.ensures.value ∙ c.in-Ok.ensures.replies) in
    rw texts at c.write_replies.ensures.part
