use Rattle.std.proofs.Common.{◌+◌, arith}
use Rattle.slim.proofs.Texts.{length_next, length_part}
use Rattle.slim.proofs.capacities.capacity_after.Goals as goal

pub returns-then-left-size-clause-none : goal.returns-then-left-size-clause-none
returns-then-left-size-clause-none c =
    let rs = c.args.records.now in
    let at = c.loop-record.record-index in
    let next = length_next rs at c.record-item.result c.loop-record-test.true c.record-item.is in
    let part = length_part rs (at + 1) in
    omega (arith, c.loop-record.invariant, next, part, c.record_size-size.ensures, c.if-left-size.true)
