use Rattle.std.proofs.Common.{List, ℕ, subst, ◌∙◌}
use Rattle.std.proofs.lemmas.Result.{err_from_is_err_and}
use Rattle.std.specs.Io.KnownBytes.{Appends}
use Rattle.devices.specs.Devices.{AppendsPrefix}
use Rattle.devices.proofs.Appending.{prefix_none, proper_is_prefix}
use Rattle.captures.proofs.WritingLemmas.{opened}
use Rattle.captures.proofs.record_writer.write_first_line.Goals as goal

pub returns-in_err-line-clause-prefix : goal.returns-in_err-line-clause-prefix
returns-in_err-line-clause-prefix g c =
    let refused = err_from_is_err_and c.from_residual.result c.from_residual.ensures.1 in
    rw refused.1 (prefix_none _ _)

pub returns-in_err-write_all-clause-prefix : goal.returns-in_err-write_all-clause-prefix
returns-in_err-write_all-clause-prefix g c =
    let failed = err_from_is_err_and c.from_residual-in_err-write_all.result c.from_residual-in_err-write_all.ensures.1 in
    rw failed.1 (subst (λ (w : List ℕ). AppendsPrefix c.args.output.now.bytes c.write_all.new.self.bytes w) (c.as_bytes.ensures.value ∙ c.in_ok-line.ensures.ok ∙ opened _ _ c.args.start c.row.ensures.opening) (proper_is_prefix _ _ _ c.in_err-write_all.ensures.prefix))

pub returns-clause-prefix : goal.returns-clause-prefix
returns-clause-prefix g c =
    subst (λ (w : List ℕ). Appends c.args.output.now.bytes c.write_all.new.self.bytes w) (c.as_bytes.ensures.value ∙ c.in_ok-line.ensures.ok ∙ opened _ _ c.args.start c.row.ensures.opening) c.in_ok-write_all.ensures.prefix
