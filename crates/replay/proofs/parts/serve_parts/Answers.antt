use Rattle.std.proofs.Common.{◌≡◌, ◌≤◌, ◌+◌, ◌∙◌, ◌++◌, take, drop, length, refl, ap, arith, rules}
use Rattle.replay.proofs.Judging.{passed_on, on_many, on_cut}
use Rattle.replay.proofs.Writing.{written_more, part_more}
use Rattle.arrivals.proofs.Laid.{none_left}
use Rattle.replay.proofs.Upcoming.{served_none, next_come_as, answered_now, served_more, served_all, taken_after}
use Rattle.replay.proofs.parts.serve_parts.Goals as goal

pub loop-part-init : goal.loop-part-init
loop-part-init g c = (served_none _ _ _ _ _ _ (search rules), refl, c.requires.next.0)

pub serve_part-requires-clause-next : goal.serve_part-requires-clause-next
serve_part-requires-clause-next g c =
    let next = c.requires.next in
    let served = c.loop-part.invariant.0 in
    (c.loop-part.invariant.2, next.1 ++ take served.count next.2, take (length c.in-Some.part) (drop served.count next.2), next_come_as _ _ _ _ c.in-Some.part _ _ _ _ _ _ next.1 next.2 served c.in-Some.ensures.steps.0 c.into_vec.ensures next.3)

pub loop-part-preserved : goal.loop-part-preserved
loop-part-preserved g c =
    let one = c.in_ok-serve_part.ensures in (
      served_more _ _ _ c.in-Some.part _ _ _ _ _ _ _ _ c.loop-part.invariant.0 c.in-Some.ensures.steps.0 (rw c.into_vec.ensures at one.ok.0) (rw c.into_vec.ensures at one.ok.2),
      one.faults.0 ∙ c.loop-part.invariant.1,
      one.ok.1,
    )

pub returns-in_err-serve_part-clause-stops : goal.returns-in_err-serve_part-clause-stops
returns-in_err-serve_part-clause-stops g c =
    let next = c.requires.next in
    let served = c.loop-part.invariant.0 in
    let steps = c.in-Some.ensures.steps.0 in
    let part = c.in-Some.part in
    let known = answered_now _ _ _ part _ _ _ _ _ _ next.1 next.2 served steps next.3 in
    let counted = known.0 in
    let fits = known.1 in
    let most = served.same.1 in
    let same : length c.into_vec.result.items ≡ length part = ap length c.into_vec.ensures in (
      passed_on c.from_residual.result _ _
          (λ f is. rw is (on_many c.in_err-serve_part.field-0.0 _ _
          (λ n full. (
            full.0 ∙ most,
            served.count + full.1,
            (let below = full.2 in omega (arith, fits, below, same)),
            (let all = full.3 in omega (arith, counted, all, most)),
            λ arrivals more up.
                (let up_next = next_come_as _ _ _ _ part _ _ _ _ _ _ arrivals more served steps c.into_vec.ensures up in
                let lt = full.2 in
                let below : full.1 ≤ length part = omega (arith, lt, same) in
                rw (taken_after served.count (length part) full.1 more below)
                (written_more _ _ c.args.decider.now.start arrivals (take served.count more) (take full.1 (take (length part) (drop served.count more))) _ _ _ (served.written arrivals more up)
                (rw served.same.0 at (full.4 (arrivals ++ take served.count more) (take (length part) (drop served.count more)) up_next)))),
          ))
          c.in_err-serve_part.ensures.stops.0))
          c.from_residual.ensures.1,
      passed_on c.from_residual.result _ _
          (λ f is. rw is (on_cut c.in_err-serve_part.field-0.0 _ _
          (λ short. (
            served.count + short.0,
            (let below = short.1 in omega (arith, fits, below, same)),
            (let few = short.2 in omega (arith, counted, few, most)),
            λ arrivals more up.
                (let up_next = next_come_as _ _ _ _ part _ _ _ _ _ _ arrivals more served steps c.into_vec.ensures up in
                rw (taken_after served.count (length part) short.0 more (let below = short.1 in omega (arith, below, same)))
                (part_more _ _ c.args.decider.now.start arrivals (take served.count more) (take short.0 (take (length part) (drop served.count more))) _ _ _ (served.written arrivals more up)
                (rw served.same.0 at (short.3 (arrivals ++ take served.count more) (take (length part) (drop served.count more)) up_next)))),
          ))
          c.in_err-serve_part.ensures.stops.1))
          c.from_residual.ensures.1,
    )

pub returns-clause-ok : goal.returns-clause-ok
returns-clause-ok g c =
    let served = c.loop-part.invariant.0 in
    let none = none_left c.loop-part.part-iterator c.in-None.ensures.steps.0 in (
      record {
        same = served.same;
        stands = λ arrivals more up. rw (served_all _ _ _ _ _ _ _ _ arrivals more served none up) at (served.stands arrivals more up);
      },
      c.loop-part.invariant.2,
      λ arrivals more up. rw (served_all _ _ _ _ _ _ _ _ arrivals more served none up) at (served.written arrivals more up),
    )
