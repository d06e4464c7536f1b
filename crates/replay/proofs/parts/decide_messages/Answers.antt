use Rattle.std.proofs.Common.{refl}
use Rattle.replay.proofs.Upcoming.{looked_up_are}
use Rattle.replay.proofs.parts.decide_messages.Goals as goal

pub decide_all-requires : goal.decide_all-requires
decide_all-requires g c =
    let next = c.requires.next in
    record { arrived = (next.0, next.1, next.2.stands, looked_up_are _ c.args.floors.now.serving.now.server.served.tariff _ next.1 _ _ refl next.2.are c.in-Ok.ensures.seen, next.2.timely, next.3) }

pub returns-in_ok-decide_all-in-Ok-clause-stands : goal.returns-in_ok-decide_all-in-Ok-clause-stands
returns-in_ok-decide_all-in-Ok-clause-stands g c = record {
  same = c.in_ok-decide_all-in-Ok.ensures.same;
  stands = λ arrivals more up.
      c.in_ok-decide_all-in-Ok.ensures.stands arrivals more up.stands (looked_up_are _ c.args.floors.now.serving.now.server.served.tariff _ more _ _ refl up.are c.in-Ok.ensures.seen);
}

pub returns-in_ok-decide_all-in-Ok-clause-slips : goal.returns-in_ok-decide_all-in-Ok-clause-slips
returns-in_ok-decide_all-in-Ok-clause-slips g c = λ arrivals more up.
    c.in_ok-decide_all-in-Ok.ensures.slips arrivals more up.stands (looked_up_are _ c.args.floors.now.serving.now.server.served.tariff _ more _ _ refl up.are c.in-Ok.ensures.seen)
