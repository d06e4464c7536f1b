use Rattle.std.proofs.Common.{◌+◌, ◌∙◌, length, ap, sym, length-append}
use Rattle.inspection.proofs.tails.Tail.after.Goals as goal

-- src/tails.rt
pub returns : goal.returns
returns c = λ text ms kept ends.
    let bytes = ap (λ t. t.bytes + length c.args.piece.now) kept ∙ sym (length-append text c.args.piece.now) in
    let end = c.end_of.ensures ms (ap (λ t. t.end) kept) in
    let next = c.next_after.ensures text ms kept ends in
    let closed = c.closed_after.ensures text ms kept in
    let cr = c.cr_after.ensures text ms kept in
    λ i. record { bytes = bytes i; end = end i; next = next i; closed = closed i; cr = cr i }
