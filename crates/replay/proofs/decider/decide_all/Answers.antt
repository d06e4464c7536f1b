use Rattle.std.proofs.Common.{ap, rules}
use Rattle.arrivals.specs.declared.incoming.Incoming.{Incoming}
use Rattle.arrivals.proofs.Laid.{none_left}
use Rattle.replay.proofs.PendingReplies.{settled_none, next_is, settled_more, settled_last}
use Rattle.replay.proofs.decider.decide_all.Goals as goal

pub loop-looked_up-init : goal.loop-looked_up-init
loop-looked_up-init g c = settled_none _ _ _ _ _ _ _ _ c.in_ok-pending_replies.ensures.items c.in_ok-pending_replies.ensures.len (search rules)

pub decide_next-requires-clause-origin : goal.decide_next-requires-clause-origin
decide_next-requires-clause-origin g c =
    let known = c.requires.arrived in
    let next = (next_is _ _ _ _ _ _ _ _ _ _ known.0 known.1 c.in-Some.looked_up c.loop-looked_up.invariant c.in-Some.ensures.steps.0 known.2 known.3 known.4 known.5).0 in
    (next.tick, next.tier)

pub decide_next-requires-clause-stands : goal.decide_next-requires-clause-stands
decide_next-requires-clause-stands g c =
    let known = c.requires.arrived in
    let next = (next_is _ _ _ _ _ _ _ _ _ _ known.0 known.1 c.in-Some.looked_up c.loop-looked_up.invariant c.in-Some.ensures.steps.0 known.2 known.3 known.4 known.5).0 in
    (next.few, next.arrivals, next.stands.counted, next.stands.clock c.in-Some.looked_up.message.origin.tick next.by)

pub decide_next-requires-clause-lookup : goal.decide_next-requires-clause-lookup
decide_next-requires-clause-lookup g c =
    let known = c.requires.arrived in
    (next_is _ _ _ _ _ _ _ _ _ _ known.0 known.1 c.in-Some.looked_up c.loop-looked_up.invariant c.in-Some.ensures.steps.0 known.2 known.3 known.4 known.5).2

pub loop-looked_up-preserved : goal.loop-looked_up-preserved
loop-looked_up-preserved g c =
    let one = c.in_ok-pending.ensures in
    rw (c.in_ok-push.ensures.items, c.in_ok-push.ensures.len) (settled_more _ _ _ _ _ _ _ _ _ _ c.in_ok-pending.pending _ c.in-Some.looked_up c.loop-looked_up.invariant c.in-Some.ensures.steps.0
    (λ arrivals a stands own. one.stands.stands arrivals a stands.counted (ap (λ (m : Incoming). m.origin) own) (ap (λ (m : Incoming). m.what) own))
    (λ arrivals a stands own. one.slip arrivals a stands.counted (ap (λ (m : Incoming). m.origin) own) (ap (λ (m : Incoming). m.what) own)) one.ready one.stands.same)

pub loop-looked_up-preserved-in_ok-push : goal.loop-looked_up-preserved-in_ok-push
loop-looked_up-preserved-in_ok-push g c =
    let one = c.in_ok-pending.ensures in
    rw (c.in_ok-push.ensures.items, c.in_ok-push.ensures.len) (settled_more _ _ _ _ _ _ _ _ _ _ c.in_ok-pending.pending _ c.in-Some.looked_up c.loop-looked_up.invariant c.in-Some.ensures.steps.0
    (λ arrivals a stands own. one.stands.stands arrivals a stands.counted (ap (λ (m : Incoming). m.origin) own) (ap (λ (m : Incoming). m.what) own))
    (λ arrivals a stands own. one.slip arrivals a stands.counted (ap (λ (m : Incoming). m.origin) own) (ap (λ (m : Incoming). m.what) own)) one.ready one.stands.same)

pub returns-clause-stands : goal.returns-clause-stands
returns-clause-stands g c = λ arrivals more stands looked_up.
    rw (settled_last _ _ _ _ _ _ _ _ _ more c.loop-looked_up.invariant (none_left c.loop-looked_up.looked_up-iterator c.in-None.ensures.steps.0) looked_up) at (c.loop-looked_up.invariant.stands arrivals more stands looked_up)

pub returns-clause-slips : goal.returns-clause-slips
returns-clause-slips g c = λ arrivals more stands looked_up.
    rw (settled_last _ _ _ _ _ _ _ _ _ more c.loop-looked_up.invariant (none_left c.loop-looked_up.looked_up-iterator c.in-None.ensures.steps.0) looked_up) at (c.loop-looked_up.invariant.slips arrivals more stands looked_up)
