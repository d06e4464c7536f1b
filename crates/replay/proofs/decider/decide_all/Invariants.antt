use Rattle.std.specs.Vec.Iter.{into_iter_items}
use Rattle.std.proofs.Common.{vec_len}
use Rattle.replay.proofs.PendingReplies.{Settled}
use Rattle.replay.proofs.decider.decide_all.Given as goal

-- the messages that the tickets are for were decided on
abbrev pub invariant-loop-looked_up : goal.invariant-loop-looked_up
invariant-loop-looked_up g l =
    Settled g.F.Tree.files l.server.served l.server.served.tariff l.fn.lookups.items l.fn.decider l.decider (into_iter_items l.looked_up-iterator) l.pending_replies.items (vec_len l.pending_replies)
