use Rattle.std.proofs.Common.{◌≡◌, ◌+◌, ◌<◌, length, refl, ap, arith, rules}
use Rattle.std.specs.Vec.{vec_len}
use Rattle.admission.specs.After.{ControllerAfter}
use Rattle.admission.specs.Standing.{HasPool}
use Rattle.admission.proofs.TierLemmas.{pool_within, pool_at, finish_bound, offered_at, offered_decision, offered_fits, offered_station, offer_sound}
use Rattle.admission.proofs.controller.Controller.offer_to.Goals as goal

pub index_mut-requires : goal.index_mut-requires
index_mut-requires c =
    let has : HasPool c.pass.new.self c.args.pool = rw c.pass.ensures.same.station c.requires.2 in
    let long : length c.self.inside.pools.items ≡ vec_len c.self.inside.pools = search rules in
    rw (← long) (pool_within _ c.args.pool c.from-place.result (rw (← c.self.view_is) at has) c.from-place.ensures)

pub offer-requires-clause-beside : goal.offer-requires-clause-beside
offer-requires-clause-beside c =
    let within : c.from.result < length c.self.inside.tiers = omega (arith, c.self.invariant.four, c.from.ensures, c.requires.0.0) in
    let same : c.self.inside.offers ≡ c.args.self.now.offers = rw (← c.self.view_is) at c.pass.ensures.same.offers in
    let has : HasPool c.pass.new.self c.args.pool = rw c.pass.ensures.same.station c.requires.2 in
    let place = pool_at _ c.args.pool c.from-place.result c.index_mut.result.now (rw (← c.self.view_is) at has) c.from-place.ensures c.index_mut.ensures.value in (
      c.self.inside.offers,
      omega (arith, same, c.requires.3.1),
      offered_at _ c.from.result c.args.tick c.index-self-from.result c.self.invariant (rw (← c.self.view_is) at c.pass.ensures.clock)
          (rw (← c.self.view_is) at c.in_ok-pass.ensures.complete) within c.index-self-from.is,
      c.self.invariant.pools c.from-place.result c.index_mut.result.now place,
      c.self.invariant.few,
    )

pub invariant_of-self-2 : goal.invariant_of-self-2
invariant_of-self-2 c =
    let within : c.from.result < length c.self.inside.tiers = omega (arith, c.self.invariant.four, c.from.ensures, c.requires.0.0) in
    let same : c.self.inside.offers ≡ c.args.self.now.offers = rw (← c.self.view_is) at c.pass.ensures.same.offers in
    let now : c.self.inside.clock ≡ c.args.tick = rw (← c.self.view_is) at c.pass.ensures.clock in
    let complete = rw (← c.self.view_is) at c.in_ok-pass.ensures.complete in
    let has : HasPool c.pass.new.self c.args.pool = rw c.pass.ensures.same.station c.requires.2 in
    let place = pool_at _ c.args.pool c.from-place.result c.index_mut.result.now (rw (← c.self.view_is) at has) c.from-place.ensures c.index_mut.ensures.value in
    rw (c.in_ok-decision.ensures.figures, c.in_ok-decision.ensures.pool)
    (offer_sound _ c.from.result c.args.tick c.args.service c.from-place.result _ c.in_ok-decision.decision c.offer.new.tier c.index_mut.result.now
    c.self.invariant now complete within place (omega (arith, same, c.requires.3.1)) c.requires.0.3
    c.in_ok-decision.ensures.finish.0 c.in_ok-decision.ensures.finish.1
    (c.in_ok-decision.ensures.tier.1 c.self.inside.offers
    (offered_at _ c.from.result c.args.tick c.index-self-from.result c.self.invariant now complete within c.index-self-from.is)))

pub returns-clause-decision : goal.returns-clause-decision
returns-clause-decision c offers fits =
    let within : c.from.result < length c.self.inside.tiers = omega (arith, c.self.invariant.four, c.from.ensures, c.requires.0.0) in
    let there : ControllerAfter offers c.pass.new.self = c.pass.ensures.same.fits offers fits in
    let has : HasPool c.pass.new.self c.args.pool = rw c.pass.ensures.same.station c.requires.2 in
    let place = pool_at _ c.args.pool c.from-place.result c.index_mut.result.now (rw (← c.self.view_is) at has) c.from-place.ensures c.index_mut.ensures.value in
    rw (← c.pass.ensures.same.station, ← c.self.view_is, ← c.from.ensures, ← c.from-place.ensures)
    (offered_decision _ c.from-place.result c.from.result c.args.tick c.args.service c.args.delay c.index-self-from.result c.index_mut.result.now
    offers c.in_ok-decision.decision c.self.invariant within c.index-self-from.is place (rw (← c.self.view_is) at there)
    c.in_ok-decision.ensures.decision)

pub returns-clause-fits : goal.returns-clause-fits
returns-clause-fits c offers fits =
    let within : c.from.result < length c.self.inside.tiers = omega (arith, c.self.invariant.four, c.from.ensures, c.requires.0.0) in
    let now : c.self.inside.clock ≡ c.args.tick = rw (← c.self.view_is) at c.pass.ensures.clock in
    let there : ControllerAfter offers c.pass.new.self = c.pass.ensures.same.fits offers fits in
    let has : HasPool c.pass.new.self c.args.pool = rw c.pass.ensures.same.station c.requires.2 in
    let place = pool_at _ c.args.pool c.from-place.result c.index_mut.result.now (rw (← c.self.view_is) at has) c.from-place.ensures c.index_mut.ensures.value in
    rw (c.in_ok-decision.ensures.figures, c.in_ok-decision.ensures.pool, ← c.from.ensures, ← c.from-place.ensures)
    (offered_fits _ c.from-place.result c.from.result c.args.tick c.args.service c.args.delay c.index-self-from.result c.offer.new.tier
    c.index_mut.result.now offers c.in_ok-decision.decision c.self.invariant within c.index-self-from.is place now
    (rw (← c.self.view_is) at there) c.in_ok-decision.ensures.decision c.in_ok-decision.ensures.tier.0
    c.in_ok-decision.ensures.tier.2)

pub returns-clause-next : goal.returns-clause-next
returns-clause-next c =
    let within : c.from.result < length c.self.inside.tiers = omega (arith, c.self.invariant.four, c.from.ensures, c.requires.0.0) in
    let same : c.self.inside.offers ≡ c.args.self.now.offers = rw (← c.self.view_is) at c.pass.ensures.same.offers in
    let has : HasPool c.pass.new.self c.args.pool = rw c.pass.ensures.same.station c.requires.2 in
    let place = pool_at _ c.args.pool c.from-place.result c.index_mut.result.now (rw (← c.self.view_is) at has) c.from-place.ensures c.index_mut.ensures.value in (
      refl,
      ap (λ n. n + 1) same,
      rw (c.in_ok-decision.ensures.pool, ← c.pass.ensures.same.station, ← c.self.view_is)
          (offered_station _ c.from-place.result c.from.result c.args.tick _ _ c.in_ok-decision.decision c.index-self-from.result
          c.offer.new.tier c.index_mut.result.now within c.index-self-from.is place c.in_ok-decision.ensures.tier.2),
    )

pub returns-clause-finish : goal.returns-clause-finish
returns-clause-finish c =
    let same : c.self.inside.offers ≡ c.args.self.now.offers = rw (← c.self.view_is) at c.pass.ensures.same.offers in
    let has : HasPool c.pass.new.self c.args.pool = rw c.pass.ensures.same.station c.requires.2 in
    let place = pool_at _ c.args.pool c.from-place.result c.index_mut.result.now (rw (← c.self.view_is) at has) c.from-place.ensures c.index_mut.ensures.value in
    let own = (c.self.invariant.pools c.from-place.result c.index_mut.result.now place).free in
    finish_bound c.self.inside.offers _ c.args.tick c.args.service c.in_ok-decision.decision c.in_ok-decision.ensures.finish.1
    own (omega (arith, same, c.requires.3.1)) c.requires.0.1 c.requires.0.3
