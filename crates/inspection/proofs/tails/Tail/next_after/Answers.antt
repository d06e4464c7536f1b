use Rattle.std.proofs.Common.{◌≡◌, ◌<◌, length, ap, arith}
use Rattle.inspection.proofs.Blanks.{next_at_rest, next_at_end}
use Rattle.inspection.proofs.tails.Tail.next_after.Goals as goal

pub returns-then-is_empty : goal.returns-then-is_empty
returns-then-is_empty c = λ text ms kept ends.
    let none : length c.args.messages.now ≡ 0 = grind (arith, c) in
    next_at_rest c.args.self text c.args.piece.now ms c.args.messages.now c.after_blanks.result c.blanks_from.result c.after_blanks.ensures c.blanks_from.ensures none kept

pub returns-else-is_empty : goal.returns-else-is_empty
returns-else-is_empty c = λ text ms kept ends.
    let some : 0 < length c.args.messages.now = grind (arith, c) in
    next_at_end c.args.self text c.args.piece.now ms c.args.messages.now c.after_blanks-else-is_empty.result c.end_of.result c.after_blanks-else-is_empty.ensures
    (c.end_of.ensures ms (ap (λ t. t.end) kept)) some kept ends
