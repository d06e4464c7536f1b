use Rattle.std.proofs.Common.{sym, ◌∙◌, subst}
use mathlib.Core.Bool.{true≢false}
use Rattle.responses.specs.Reference.{status_of}
use Rattle.responses.specs.Replies.{note_of, held_body, body_text}
use Rattle.responses.specs.Messages.{IsReply}
use Rattle.responses.proofs.Joining.{held_head, held_get}
use Rattle.responses.proofs.Reading.{reply_read}
use Rattle.responses.proofs.reply.render.Goals as goal

pub returns-then-slip-clause-reply : goal.returns-then-slip-clause-reply
returns-then-slip-clause-reply g c =
    let files = g.F.Tree.files in
    let slip = c.args.slip in
    subst (IsReply slip.head (status_of slip.what) (body_text files slip)) (sym (held_head files slip c.in_ok-front.front.items c.in_ok-front.ensures c.if-slip.true))
    (reply_read files slip c.requires.date c.requires.known c.requires.location (λ get. absurd (true≢false (sym c.if-slip.true ∙ get))))

pub returns-clause-reply : goal.returns-clause-reply
returns-clause-reply g c =
    let files = g.F.Tree.files in
    let slip = c.args.slip in
    let page = c.shared_page-page in
    subst (IsReply slip.head (status_of slip.what) (body_text files slip))
    (sym (held_get files slip c.in_ok-front.front.items c.push_note.new.front.items (note_of slip.what) (held_body files page.result) c.in_ok-front.ensures c.if-slip.false c.in_ok-push_note.ensures page.ensures.parts))
    (reply_read files slip c.requires.date c.requires.known c.requires.location (λ get. page.ensures.size))
