use Rattle.std.proofs.Common.{◌++◌, codes, ap, sym, ◌∙◌}
use Rattle.paths.specs.Reference.{joined}
use Rattle.paths.specs.Resolution.{slash_before}
use Rattle.paths.proofs.Locating.{joined_push}
use Rattle.paths.proofs.resolution.index_name.Goals as goal

pub returns : goal.returns
returns c = c.in_ok-append_segment.ensures ∙ ap (λ v. v ++ (slash_before c.is_empty.result ++ codes "index.html")) (c.in_ok-name.ensures ∙ ap joined c.as_slice.ensures)
    ∙ sym (joined_push c.args.segments.now c.is_empty.result (codes "index.html") c.is_empty.ensures)
