use Rattle.std.proofs.Common.{◌≡◌, Ok, sym, ◌∙◌, ap}
use Rattle.std.proofs.lemmas.Result.{err_from_is_err_and, IfErr-weaker}
use Rattle.paths.specs.SnapshotFaults.{heading_of}
use Rattle.paths.proofs.PartLemmas.{heading_not_read, heading_not_lacking, entry_fails, entry_cut}
use Rattle.paths.proofs.entry.read_entry.Goals as goal

pub returns-in_err-heading-clause-part : goal.returns-in_err-heading-clause-part
returns-in_err-heading-clause-part g c =
    let kind = err_from_is_err_and c.from_residual-in_err-heading.result c.from_residual-in_err-heading.ensures.1 in
    rw (kind.1, kind.2) (λ failed k. absurd (heading_not_read c.as_slice.result.now _ (sym c.in_err-heading.ensures) failed))

pub returns-clause-part : goal.returns-clause-part
returns-clause-part g c =
    let is : heading_of c.in_ok-line.line ≡ Ok c.in_ok-heading.heading = ap heading_of (sym c.as_slice.ensures) ∙ sym c.in_ok-heading.ensures in
    IfErr-weaker c.read_announced.result _ _ (λ e part failed k.
    entry_cut c.args.files.now _ _ _ _ (entry_fails c.args.files.now _ _ _ _ _ _ _ _ is c.in_ok-line.ensures.line (part failed) k)) c.read_announced.ensures.part

pub returns-in_err-heading-clause-lacks : goal.returns-in_err-heading-clause-lacks
returns-in_err-heading-clause-lacks g c =
    let kind = err_from_is_err_and c.from_residual-in_err-heading.result c.from_residual-in_err-heading.ensures.1 in
    rw (kind.1, kind.2) (λ lacks k. absurd (heading_not_lacking c.as_slice.result.now _ (sym c.in_err-heading.ensures) lacks))

pub returns-clause-lacks : goal.returns-clause-lacks
returns-clause-lacks g c =
    let is : heading_of c.in_ok-line.line ≡ Ok c.in_ok-heading.heading = ap heading_of (sym c.as_slice.ensures) ∙ sym c.in_ok-heading.ensures in
    IfErr-weaker c.read_announced.result _ _ (λ e part lacks k. entry_fails c.args.files.now _ _ _ _ _ _ _ _ is c.in_ok-line.ensures.line (part lacks) k) c.read_announced.ensures.lacks
