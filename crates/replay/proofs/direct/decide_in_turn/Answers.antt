use Rattle.std.proofs.Common.{ap, map, rules}
use Rattle.arrivals.specs.declared.incoming.Incoming.{Incoming}
use Rattle.arrivals.proofs.Laid.{none_left}
use Rattle.replay.specs.Fronts.{front_value}
use Rattle.replay.proofs.PendingReplies.{settled_none}
use Rattle.replay.proofs.OneByOne.{next_of, settled_next, settled_whole, all_looked_up}
use Rattle.replay.proofs.direct.decide_in_turn.Goals as goal

pub loop-message-init : goal.loop-message-init
loop-message-init g c =
    settled_none _ _ _ _ _ _ _ _ c.in_ok-pending_replies.ensures.items c.in_ok-pending_replies.ensures.len (ap (map (front_value g.F.Tree.files c.args.server.now.served.tariff)) (search rules))

pub decide_next-requires-clause-origin : goal.decide_next-requires-clause-origin
decide_next-requires-clause-origin g c =
    let known = c.requires.next in
    let next = next_of _ _ _ _ _ _ _ _ _ _ known.0 known.1 c.in-Some.message c.loop-message.invariant c.in-Some.ensures.steps.0 known.2 known.3 in
    (next.tick, next.tier)

pub decide_next-requires-clause-stands : goal.decide_next-requires-clause-stands
decide_next-requires-clause-stands g c =
    let known = c.requires.next in
    let next = next_of _ _ _ _ _ _ _ _ _ _ known.0 known.1 c.in-Some.message c.loop-message.invariant c.in-Some.ensures.steps.0 known.2 known.3 in
    (next.few, next.arrivals, next.stands.counted, next.stands.clock c.in-Some.message.origin.tick next.by)

pub loop-message-preserved : goal.loop-message-preserved
loop-message-preserved g c =
    let one = c.in_ok-pending.ensures in
    rw (c.in_ok-push.ensures.items, c.in_ok-push.ensures.len) (settled_next _ _ _ _ _ _ _ _ _ _ c.in_ok-pending.pending _ c.in-Some.message c.loop-message.invariant c.in-Some.ensures.steps.0
    (λ arrivals a stands own. one.stands.stands arrivals a stands.counted (ap (λ (m : Incoming). m.origin) own) (ap (λ (m : Incoming). m.what) own))
    (λ arrivals a stands own. one.slip arrivals a stands.counted (ap (λ (m : Incoming). m.origin) own) (ap (λ (m : Incoming). m.what) own)) one.ready one.stands.same)

pub loop-message-preserved-in_ok-push : goal.loop-message-preserved-in_ok-push
loop-message-preserved-in_ok-push g c =
    let one = c.in_ok-pending.ensures in
    rw (c.in_ok-push.ensures.items, c.in_ok-push.ensures.len) (settled_next _ _ _ _ _ _ _ _ _ _ c.in_ok-pending.pending _ c.in-Some.message c.loop-message.invariant c.in-Some.ensures.steps.0
    (λ arrivals a stands own. one.stands.stands arrivals a stands.counted (ap (λ (m : Incoming). m.origin) own) (ap (λ (m : Incoming). m.what) own))
    (λ arrivals a stands own. one.slip arrivals a stands.counted (ap (λ (m : Incoming). m.origin) own) (ap (λ (m : Incoming). m.what) own)) one.ready one.stands.same)

pub returns-clause-stands : goal.returns-clause-stands
returns-clause-stands g c = record {
  same = c.loop-message.invariant.same;
  stands = λ arrivals more up.
      rw (settled_whole _ _ _ _ _ _ _ _ _ arrivals more c.loop-message.invariant (none_left c.loop-message.message-iterator c.in-None.ensures.steps.0) up) at (c.loop-message.invariant.stands arrivals more up.stands (all_looked_up _ _ c.args.server.now.served.tariff arrivals more _ _ up));
}

pub returns-clause-slips : goal.returns-clause-slips
returns-clause-slips g c = λ arrivals more up.
    rw (settled_whole _ _ _ _ _ _ _ _ _ arrivals more c.loop-message.invariant (none_left c.loop-message.message-iterator c.in-None.ensures.steps.0) up) at (c.loop-message.invariant.slips arrivals more up.stands (all_looked_up _ _ c.args.server.now.served.tariff arrivals more _ _ up))
