use Rattle.std.proofs.Common.{◌∙◌, sym}
use Rattle.paths.proofs.Plain.{plain_decode}
use Rattle.paths.proofs.target.decode.Goals as goal

pub returns-then-not-has_escape : goal.returns-then-not-has_escape
returns-then-not-has_escape c =
    c.from_vec.ensures ∙ c.in_ok-from_slice.ensures.items ∙ sym (plain_decode c.args.part.now (sym c.has_escape.ensures ∙ c.if-not-has_escape.true))
