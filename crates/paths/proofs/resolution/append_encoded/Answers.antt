use Rattle.std.proofs.Common.{◌++◌, arith, ◌∙◌, ap, string_bytes, lit<}
use Rattle.paths.proofs.Locating.{encoded_after}
use Rattle.paths.proofs.resolution.append_encoded.Goals as goal

pub returns : goal.returns
returns c = encoded_after (string_bytes c.args.to.now) (string_bytes c.push.new.self) (string_bytes c.append_to.new.out) c.args.segment.now
    (λ i. omega (arith, c.type_inv.segment i))
    (c.in_ok-push.ensures.bytes ∙ ap (λ v. string_bytes c.args.to.now ++ v) (c.in_ok-push.ensures.ascii (lit< tt)))
    (c.in_ok-append_to.ensures.ok ∙ ap (λ v. string_bytes c.push.new.self ++ v) c.percent_encode.ensures.text)
