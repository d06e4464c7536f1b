use Rattle.std.proofs.Common.{◌≡◌, ◌<◌, length, arith, rules}
use Rattle.std.specs.Vec.{vec_len}
use Rattle.admission.proofs.TierLemmas.{get_at, pool_within, pool_at, clock_at, foreseen_at}
use Rattle.admission.proofs.controller.Controller.found_at.Goals as goal

pub index-requires : goal.index-requires
index-requires c =
    let long : length c.self.inside.pools.items ≡ vec_len c.self.inside.pools = search rules in
    rw (← long) (pool_within _ c.args.pool c.from.result (rw (← c.self.view_is) at c.requires.place.0) c.from.ensures)

pub outlook-requires-clause-complete : goal.outlook-requires-clause-complete
outlook-requires-clause-complete c =
    let within : c.from-2.result < length c.self.inside.tiers = omega (arith, c.self.invariant.four, c.from-2.ensures, c.requires.place.1) in
    rw (← c.index-self-from.is)
    ((rw (← c.self.view_is) at c.requires.complete) c.from-2.result c.index-self-from.result
    (get_at c.self.inside.tiers c.from-2.result c.index-self-from.result within c.index-self-from.is))

pub outlook-requires-clause-forward : goal.outlook-requires-clause-forward
outlook-requires-clause-forward c =
    let within : c.from-2.result < length c.self.inside.tiers = omega (arith, c.self.invariant.four, c.from-2.ensures, c.requires.place.1) in (
      clock_at _ c.from-2.result c.args.tick c.index-self-from.result c.self.invariant (rw (← c.self.view_is) at c.requires.clock.0) within
          c.index-self-from.is,
      c.requires.clock.1,
    )

pub returns-clause-finds : goal.returns-clause-finds
returns-clause-finds c offers fits =
    let within : c.from-2.result < length c.self.inside.tiers = omega (arith, c.self.invariant.four, c.from-2.ensures, c.requires.place.1) in
    let place =
    pool_at _ c.args.pool c.from.result c.index.result.now (rw (← c.self.view_is) at c.requires.place.0) c.from.ensures c.index.ensures in
    rw (← c.self.view_is, ← c.from-2.ensures, ← c.from.ensures)
    (foreseen_at _ c.from.result c.from-2.result c.args.tick c.index-self-from.result c.index.result.now offers c.outlook.result
    c.self.invariant within c.index-self-from.is place (rw (← c.self.view_is) at fits)
    (rw c.first-free.ensures at c.outlook.ensures.finds))

pub returns-clause-range : goal.returns-clause-range
returns-clause-range c =
    let place =
    pool_at _ c.args.pool c.from.result c.index.result.now (rw (← c.self.view_is) at c.requires.place.0) c.from.ensures c.index.ensures in
    let own = (c.self.invariant.pools c.from.result c.index.result.now place).free in
    let few = c.self.invariant.offers in
    let same = c.outlook.ensures.free in
    let first = c.first-free.ensures in
    omega (arith, same, first, own, few)
