use Rattle.std.proofs.Common.{◌+◌, sym, arith}
use Rattle.http_requests.proofs.EndLemmas.{sought_all, sought_next, sought_none, sought_more, one_more, first_end}
use Rattle.http_requests.proofs.scanning.end_up_to.Goals as goal

pub loop-found-init : goal.loop-found-init
loop-found-init c =
    rw (c.into_iter-found-iterator.ensures.into_iter_gives, c.memchr_iter-found-items.ensures.value)
    (sought_all c.args.s.now c.args.at c.args.last c.requires.ordered c.requires.within c.requires.none)

pub overflow_add-feed : goal.overflow_add-feed
overflow_add-feed c =
    let next = sought_next c.args.s.now c.args.at c.args.last c.in-Some.found _ _ c.requires.within c.loop-found.invariant c.in-Some.ensures.steps in
    let l = c.requires.limit in
    record { fits = omega (arith, next.0, l) }

pub ends_with-requires-clause-within : goal.ends_with-requires-clause-within
ends_with-requires-clause-within c =
    let next = sought_next c.args.s.now c.args.at c.args.last c.in-Some.found _ _ c.requires.within c.loop-found.invariant c.in-Some.ensures.steps in
    let w = c.requires.within in
    omega (arith, next.0, w)

pub ends_with-requires-clause-feed : goal.ends_with-requires-clause-feed
ends_with-requires-clause-feed c =
    let next = sought_next c.args.s.now c.args.at c.args.last c.in-Some.found _ _ c.requires.within c.loop-found.invariant c.in-Some.ensures.steps in
    next.1

pub overflow_add-result : goal.overflow_add-result
overflow_add-result c =
    let next = sought_next c.args.s.now c.args.at c.args.last c.in-Some.found _ _ c.requires.within c.loop-found.invariant c.in-Some.ensures.steps in
    let l = c.requires.limit in
    record { fits = omega (arith, next.0, l) }

pub returns-then-ends_with-clause-some : goal.returns-then-ends_with-clause-some
returns-then-ends_with-clause-some c =
    let next = sought_next c.args.s.now c.args.at c.args.last c.in-Some.found _ _ c.requires.within c.loop-found.invariant c.in-Some.ensures.steps in
    let l = c.requires.limit in
    first_end c.args.s.now (c.args.at + c.in-Some.found) next.2 (sym c.if-ends_with.ensures) (omega (arith, next.0, l))

pub loop-found-preserved : goal.loop-found-preserved
loop-found-preserved c =
    let next = sought_next c.args.s.now c.args.at c.args.last c.in-Some.found _ _ c.requires.within c.loop-found.invariant c.in-Some.ensures.steps in
    sought_more c.args.s.now c.args.at c.args.last c.in-Some.found _ next.0 next.3 (one_more c.args.s.now (c.args.at + c.in-Some.found) next.2 (sym c.if-ends_with.ensures))

pub returns-clause-none : goal.returns-clause-none
returns-clause-none c =
    sought_none c.args.s.now c.args.at c.args.last _ c.requires.ordered c.requires.within c.loop-found.invariant c.in-None.ensures.steps.0
