use Rattle.std.proofs.Common.{inr, rules, arith}
use Rattle.replay.proofs.Judging.{answered_is}
use Rattle.replay.proofs.ByRecord.{err_many, err_cut}
use Rattle.replay.proofs.Upcoming.{come_count, ok_more}
use Rattle.replay.proofs.ByBatch.{all_allowed, arrived_with, may_gather, upcoming}
use Rattle.replay.proofs.advance.serve_batch.Goals as goal

pub cut_all-requires : goal.cut_all-requires
cut_all-requires g c =
    let next = c.requires.next in
    (search rules, all_allowed next.3.version next.1 _ next.3.rules.each)

pub gather-requires : goal.gather-requires
gather-requires g c =
    let next = c.requires.next in
    (next.1, next.2, may_gather _ _ next.1 _ _ next.2 _ next.3 c.in_ok-cuts.ensures)

pub serve_parts-requires-clause-next : goal.serve_parts-requires-clause-next
serve_parts-requires-clause-next g c =
    let next = c.requires.next in
    let same = c.in_ok-cuts.ensures in
    let gathered = arrived_with _ _ next.1 _ _ next.2 _ _ _ _ next.3 same (c.in_ok-pieces.ensures next.1 next.2) in
    (next.0, next.2, gathered.more, upcoming _ _ next.1 _ next.2 _ _ _ _ _ next.3 gathered c.in_ok-parts.ensures.joined)

pub returns-clause-ok : goal.returns-clause-ok
returns-clause-ok g c =
    let same = c.in_ok-cuts.ensures in
    ok_more c.serve_parts.result _ _
    (λ served. record {
      same = served.0.same;
      within = served.1;
      tiers_are = λ records arrivals next. (arrived_with _ _ records _ _ arrivals _ _ _ _ next same (c.in_ok-pieces.ensures records arrivals)).tiers_are;
      serves = λ records arrivals next.
          (let gathered = arrived_with _ _ records _ _ arrivals _ _ _ _ next same (c.in_ok-pieces.ensures records arrivals) in
          let up = upcoming _ _ records _ arrivals _ _ _ _ _ next gathered c.in_ok-parts.ensures.joined in
          record {
            more = gathered.more;
            serves = record { reads = gathered.reads; arrived = gathered.arrived; stands = served.0.stands arrivals gathered.more up };
            written = rw served.0.same.0 (served.2 arrivals gathered.more up);
          });
    })
    c.serve_parts.ensures.ok

pub returns-clause-stops : goal.returns-clause-stops
returns-clause-stops g c =
    let same = c.in_ok-cuts.ensures in (
      err_many c.serve_parts.result _ _
          (λ n full. (
            full.0,
            λ records arrivals next.
                (let gathered = arrived_with _ _ records _ _ arrivals _ _ _ _ next same (c.in_ok-pieces.ensures records arrivals) in
                let up = upcoming _ _ records _ arrivals _ _ _ _ _ next gathered c.in_ok-parts.ensures.joined in
                let is = answered_is _ _ arrivals _ up.stands.counted in
                let count = come_count _ _ arrivals gathered.more _ _ up in
                let all = full.3 in
                let beyond = full.2 in
                record {
                  more = gathered.more;
                  arrived = gathered.arrived;
                  within = full.1;
                  full = omega (arith, is, all);
                  beyond = omega (arith, count, beyond);
                  written = full.4 arrivals gathered.more up;
                }),
          ))
          c.serve_parts.ensures.stops.0,
      err_cut c.serve_parts.result _ _
          (λ short. inr (λ records arrivals next.
          (let gathered = arrived_with _ _ records _ _ arrivals _ _ _ _ next same (c.in_ok-pieces.ensures records arrivals) in
          let up = upcoming _ _ records _ arrivals _ _ _ _ _ next gathered c.in_ok-parts.ensures.joined in
          let is = answered_is _ _ arrivals _ up.stands.counted in
          let few = short.2 in
          record {
            more = gathered.more;
            arrived = gathered.arrived;
            within = short.0;
            few = omega (arith, is, few);
            written = short.3 arrivals gathered.more up;
          })))
          c.serve_parts.ensures.stops.1,
    )
