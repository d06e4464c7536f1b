use Rattle.std.proofs.Common.{◌≡◌, ◌-◌, ◌∙◌, ◌++◌, length, take, arith}
use Rattle.std.proofs.lemmas.List.{length-append}
use Rattle.replay.proofs.Judging.{answered_is, cut_short, own_many, passed_on}
use Rattle.replay.proofs.Upcoming.{come_count, first_come, take_count, take_short, ok_both, short_cut, short_many}
use Rattle.replay.proofs.parts.serve_part.Goals as goal

pub serve_few-requires-clause-next : goal.serve_few-requires-clause-next
serve_few-requires-clause-next g c =
    let len : c.len.result ≡ length c.args.messages.items = c.len.ensures ∙ c.args.messages.ok.0 in
    let fits = c.if-len-left.true in
    let next = c.requires.next in
    let is = answered_is _ _ next.1 _ next.3.stands.counted in
    let few = next.0 in
    let most = next.3.stands.counted.most in
    let count = come_count _ _ next.1 next.2 _ _ next.3 in
    (next.1, next.2, next.3, omega (arith, len, fits, is, few, most, count))

pub returns-then-len-left-clause-stops : goal.returns-then-len-left-clause-stops
returns-then-len-left-clause-stops g c =
    let messages = c.args.messages.items in
    let len : c.len.result ≡ length messages = c.len.ensures ∙ c.args.messages.ok.0 in
    let fits = c.if-len-left.true in
    let few = c.requires.next.0 in (
      short_many c.serve_few.result _ c.serve_few.ensures.faults.1,
      short_cut c.serve_few.result _ _
          (λ part. (
            length messages,
            omega arith,
            omega (arith, len, fits, few),
            λ arrivals more up. rw (take_count _ _ arrivals more messages _ up) (part arrivals more up),
          ))
          c.serve_few.ensures.written.1,
    )

pub serve_few-requires-2-clause-next : goal.serve_few-requires-2-clause-next
serve_few-requires-2-clause-next g c =
    let next = c.requires.next in
    let left = c.args.decider.now.most - c.args.decider.now.totals.answered in
    let is = answered_is _ _ next.1 _ next.3.stands.counted in
    let few = next.0 in
    let most = next.3.stands.counted.most in
    let short = take_short left next.2 in
    (next.1, take left next.2, first_come _ _ next.1 next.2 _ _ _ left next.3 c.truncate.ensures.items, omega (arith, is, few, most, short))

pub returns-in_err-serve_few-clause-stops : goal.returns-in_err-serve_few-clause-stops
returns-in_err-serve_few-clause-stops g c =
    let len : c.len.result ≡ length c.args.messages.items = c.len.ensures ∙ c.args.messages.ok.0 in
    let beyond = c.if-len-left.false in
    let left = c.args.decider.now.most - c.args.decider.now.totals.answered in
    let few = c.requires.next.0 in
    let own = c.in_err-serve_few.ensures.faults.1 in (
      passed_on c.from_residual.result _ _ (λ f same. rw same (own_many c.in_err-serve_few.field-0.0 _ own)) c.from_residual.ensures.1,
      cut_short c.from_residual.result _ (
        left,
        omega (arith, len, beyond),
        omega (arith, few),
        λ arrivals more up. c.in_err-serve_few.ensures.written.1 arrivals (take left more) (first_come _ _ arrivals more _ _ _ left up c.truncate.ensures.items),
      ),
    )

pub returns-clause-stops : goal.returns-clause-stops
returns-clause-stops g c =
    let len : c.len.result ≡ length c.args.messages.items = c.len.ensures ∙ c.args.messages.ok.0 in
    let beyond = c.if-len-left.false in
    let left = c.args.decider.now.most - c.args.decider.now.totals.answered in
    let few = c.requires.next.0 in
    let most = c.in_ok-serve_few.ensures.stands.same.1 in (
      (
        most,
        left,
        omega (arith, len, beyond),
        omega (arith, few),
        λ arrivals more up. c.in_ok-serve_few.ensures.written.0 arrivals (take left more) (first_come _ _ arrivals more _ _ _ left up c.truncate.ensures.items),
      ),
      tt,
    )

pub returns-then-len-left-clause-ok : goal.returns-then-len-left-clause-ok
returns-then-len-left-clause-ok g c =
    let len : c.len.result ≡ length c.args.messages.items = c.len.ensures ∙ c.args.messages.ok.0 in
    let fits = c.if-len-left.true in
    let next = c.requires.next in
    let is = answered_is _ _ next.1 _ next.3.stands.counted in
    let few = next.0 in
    let count = come_count _ _ next.1 next.2 _ _ next.3 in
    ok_both c.serve_few.result _ _ _
    (λ decides written. (
      decides,
      (let after = answered_is _ _ (next.1 ++ next.2) _ (decides.stands next.1 next.2 next.3).counted in
          let most = decides.same.1 in
          omega (arith, after, length-append next.1 next.2, count, len, fits, is, few, most)),
      written,
    ))
    c.serve_few.ensures.stands c.serve_few.ensures.written.0
