use Rattle.std.proofs.Common.{◌≡◌}
use Rattle.std.specs.Vec.Iter.{into_iter_items}
use Rattle.replay.proofs.OneByOne.{AnsweredOf}
use Rattle.replay.proofs.direct.answer_each.Given as goal

-- the messages so far are answered
abbrev pub invariant-loop-pending : goal.invariant-loop-pending
invariant-loop-pending g l =
    AnsweredOf g.F.Tree.files l.fn.pending_replies.items l.fn.writer.bytes l.writer.bytes (into_iter_items l.pending-iterator)
    × (l.writer.failures ≡ l.fn.writer.failures)
