use Rattle.std.proofs.Common.{◌≡◌, Ok, sym, ◌∙◌, ap, arith}
use Rattle.std.proofs.lemmas.Result.{err_from_is_err_and, IfErr-weaker}
use Rattle.captures.specs.CaptureFaults.{heading_of}
use Rattle.captures.specs.Readers.{seen}
use Rattle.captures.proofs.Lines.{heading_has}
use Rattle.captures.proofs.PartLemmas.{heading_not_read, heading_counts, record_fails, record_most}
use Rattle.captures.proofs.headings.read_record.Goals as goal

pub read_announced-requires-clause-version : goal.read_announced-requires-clause-version
read_announced-requires-clause-version g c = heading_has c.args.version c.as_slice.result.now c.in_ok-heading.heading (sym c.in_ok-heading.ensures)

pub returns-in_err-heading-clause-part : goal.returns-in_err-heading-clause-part
returns-in_err-heading-clause-part g c =
    let kind = err_from_is_err_and c.from_residual-in_err-heading.result c.from_residual-in_err-heading.ensures.1 in
    rw (kind.1, kind.2) (λ failed k. absurd (heading_not_read c.args.version c.as_slice.result.now _ (sym c.in_err-heading.ensures) failed))

pub returns-in_err-heading-clause-count : goal.returns-in_err-heading-clause-count
returns-in_err-heading-clause-count g c =
    let kind = err_from_is_err_and c.from_residual-in_err-heading.result c.from_residual-in_err-heading.ensures.1 in
    rw (kind.1, kind.2) (omega (arith, c.in_ok-line.ensures.count, heading_counts c.args.version c.as_slice.result.now _ (sym c.in_err-heading.ensures)))

pub returns-clause-part : goal.returns-clause-part
returns-clause-part g c =
    let is : heading_of c.args.version c.in_ok-line.line ≡ Ok c.in_ok-heading.heading = ap (heading_of c.args.version) (sym c.as_slice.ensures) ∙ sym c.in_ok-heading.ensures in
    IfErr-weaker c.read_announced.result _ _ (λ e part failed k. record_fails c.args.version (seen c.args.so_far.now) _ _ _ _ _ _ _ _ is c.in_ok-line.ensures.line (part failed) k) c.read_announced.ensures.part

pub returns-clause-most : goal.returns-clause-most
returns-clause-most g c =
    let is : heading_of c.args.version c.in_ok-line.line ≡ Ok c.in_ok-heading.heading = ap (heading_of c.args.version) (sym c.as_slice.ensures) ∙ sym c.in_ok-heading.ensures in
    record_most c.args.version _ _ _ _ _ _ _ is c.in_ok-line.ensures.line c.read_announced.ensures.most
