use Rattle.std.specs.Vec.Iter.{into_iter_items}
use Rattle.std.proofs.Common.{vec_len}
use Rattle.replay.proofs.OneByOne.{SettledOf}
use Rattle.replay.proofs.direct.decide_in_turn.Given as goal

-- the messages so far were decided on
abbrev pub invariant-loop-message : goal.invariant-loop-message
invariant-loop-message g l =
    SettledOf g.F.Tree.files l.server.served l.server.served.tariff l.fn.messages.items l.fn.decider l.decider (into_iter_items l.message-iterator) l.pending_replies.items (vec_len l.pending_replies)
