use Rattle.std.proofs.Common.{◌≡◌, ◌<◌, length, sym, arith, rules}
use Rattle.std.specs.Vec.{vec_len}
use Rattle.admission.proofs.TierLemmas.{get_at, counted}
use Rattle.admission.proofs.QueueLemmas.{uncounted}
use Rattle.admission.proofs.pool.count.Goals as goal

pub returns-then-pool-len : goal.returns-then-pool-len
returns-then-pool-len c =
    let long : length c.args.figures.now.items ≡ vec_len c.args.figures.now = search rules in
    sym (uncounted c.args.figures.now.items c.args.pool c.args.service c.args.waiting (omega (arith, long, c.if-pool-len.true)))

pub with_request-requires-clause-few : goal.with_request-requires-clause-few
with_request-requires-clause-few c =
    let long : length c.args.figures.now.items ≡ vec_len c.args.figures.now = search rules in
    let within : c.args.pool < length c.args.figures.now.items = omega (arith, long, c.if-pool-len.false) in
    let own = c.requires.few.2.each c.args.pool c.index.result.now (get_at _ c.args.pool c.index.result.now within c.index.ensures) in
    (omega (arith, own.admitted, c.requires.few.1), omega (arith, own.busy, c.requires.few.1))

pub returns : goal.returns
returns c =
    let long : length c.args.figures.now.items ≡ vec_len c.args.figures.now = search rules in
    let within : c.args.pool < length c.args.figures.now.items = omega (arith, long, c.if-pool-len.false) in
    rw c.with_request.ensures
    (counted c.args.figures.now.items c.args.pool c.args.service c.args.waiting c.index.result.now within c.index.ensures)
