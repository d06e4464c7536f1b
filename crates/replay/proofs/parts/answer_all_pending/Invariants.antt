use Rattle.std.proofs.Common.{◌≡◌}
use Rattle.std.specs.Vec.Iter.{into_iter_items}
use Rattle.replay.proofs.Grouping.{Answered}
use Rattle.replay.proofs.parts.answer_all_pending.Given as goal

-- the groups so far are answered
abbrev pub invariant-loop-group : goal.invariant-loop-group
invariant-loop-group g l =
    Answered g.F.Tree.files l.fn.pending_replies.items l.fn.writer.bytes l.writer.bytes (into_iter_items l.group-iterator)
    × (l.writer.failures ≡ l.fn.writer.failures)
