use Rattle.std.proofs.Common.{◌++◌, ◌∙◌, ap, codes}
use Rattle.responses.specs.Reference.{imf_date, own_fields, connection_fields, status_words, status_of}
use Rattle.responses.proofs.Joining.{head_joined}
use Rattle.responses.proofs.rendering.push_head.Goals as goal

pub returns : goal.returns
returns g c =
    let slip = c.args.slip.now in
    head_joined _ _ _ _ _ _ _ _ (codes "HTTP/1.1 ") (status_words (status_of slip.what)) (codes "\r\n") (codes "Date", imf_date slip.date)
    (own_fields g.F.Tree.files slip.date slip.what) (connection_fields slip.link)
    c.requires.empty c.in_ok-extend_from_slice.ensures.items
    (c.in_ok-extend_from_slice-2.ensures.items ∙ ap (λ words. c.extend_from_slice.new.self.items ++ words) c.status_words.ensures) c.in_ok-extend_from_slice-3.ensures.items
    c.in_ok-push_date.ensures c.in_ok-push_own.ensures c.in_ok-push_connection.ensures c.in_ok-extend_from_slice-4.ensures.items
