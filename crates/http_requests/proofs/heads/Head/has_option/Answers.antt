use Rattle.std.proofs.Common.{sym, ◌∙◌, ap}
use Rattle.std.specs.List.{list_any, slice_split}
use Rattle.std.specs.Prelude.{◌==◌}
use Rattle.httparse.specs.Grammar.{trim_ows}
use Rattle.http_requests.specs.Reference.{same_text}
use Rattle.http_requests.specs.Lines.{lines_at}
use Rattle.http_requests.proofs.HeadLemmas.{option_once, option_absent}
use Rattle.http_requests.proofs.heads.Head.has_option.Goals as goal

pub returns-in-Absent : goal.returns-in-Absent
returns-in-Absent c = sym (option_absent c.args.option.now c.args.self.now.block.now (lines_at c.args.self.now) (rw c.in-Absent.is at c.requires.noted.connection))

pub returns-in-Once : goal.returns-in-Once
returns-in-Once c =
    c.lists.ensures ∙ ap (λ value. list_any (λ part. same_text (trim_ows part) c.args.option.now) (slice_split (λ b. b == 44) value)) c.of.ensures
    ∙ sym (option_once c.args.option.now c.args.self.now.block.now (lines_at c.args.self.now) c.in-Once.value (rw c.in-Once.is at c.requires.noted.connection))
