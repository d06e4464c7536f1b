use Rattle.std.proofs.Common.{arith}
use Rattle.http_requests.proofs.CutLemmas.{tail_is}
use Rattle.http_requests.proofs.CountLemmas.{counts_none, counts_all, counts_last, counts_more, counts_some, counts_end}
use Rattle.http_requests.proofs.counting.count_messages.Goals as goal

pub loop-at-init : goal.loop-at-init
loop-at-init c = counts_none c.args.text.now

pub returns-in-Missing : goal.returns-in-Missing
returns-in-Missing c = counts_all c.args.text.now c.loop-at.at c.loop-at.count c.loop-at.invariant (rw (tail_is c.args.text.now c.loop-at.at) at c.in-Missing.ensures)

pub returns-in-Last : goal.returns-in-Last
returns-in-Last c = counts_last c.args.text.now c.loop-at.at c.loop-at.count c.loop-at.invariant (rw (tail_is c.args.text.now c.loop-at.at) at c.in-Last.ensures)

pub overflow_add-at : goal.overflow_add-at
overflow_add-at c =
    let more = counts_more c.args.text.now c.loop-at.at c.loop-at.count c.in-Over.n c.loop-at.invariant (rw (tail_is c.args.text.now c.loop-at.at) at c.in-Over.ensures) in
    let within = more.within in omega (arith, within)

pub loop-at-smaller : goal.loop-at-smaller
loop-at-smaller c =
    let more = counts_more c.args.text.now c.loop-at.at c.loop-at.count c.in-Over.n c.loop-at.invariant (rw (tail_is c.args.text.now c.loop-at.at) at c.in-Over.ensures) in
    let within = more.within in
    let some = counts_some c.args.text.now c.loop-at.at c.in-Over.n (rw (tail_is c.args.text.now c.loop-at.at) at c.in-Over.ensures) in
    omega (arith, within, some)

pub loop-at-preserved : goal.loop-at-preserved
loop-at-preserved c =
    counts_more c.args.text.now c.loop-at.at c.loop-at.count c.in-Over.n c.loop-at.invariant (rw (tail_is c.args.text.now c.loop-at.at) at c.in-Over.ensures)

pub returns : goal.returns
returns c = counts_end c.args.text.now c.loop-at.at c.loop-at.count c.loop-at.invariant (omega (arith, c.loop-at-test.false))
