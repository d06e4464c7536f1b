use Rattle.std.proofs.Common.{◌∙◌, sym, arith}
use Rattle.reference.proofs.Offering.{finish_late}
use Rattle.replay.proofs.Judging.{decides_admitted, decides_rejected, decider_sampled, decider_rejected}
use Rattle.replay.proofs.decider.Decider.offer.Goals as goal

pub overflow_sub-finish : goal.overflow_sub-finish
overflow_sub-finish c = finish_late _ _
    (record { pool = c.pool-pool.result; tier = c.args.tier; tick = c.args.tick; service = c.service-service.result; delay = c.delay-delay.result }) _
    (sym c.in-Admitted.is ∙ c.in_ok-finish.ensures.decision c.requires.offers.0 c.requires.offers.1)

pub overflow_add-finish : goal.overflow_add-finish
overflow_add-finish c =
    let most = rw c.in-Admitted.is at c.in_ok-finish.ensures.finish in
    omega (arith, most, c.delay-delay.ensures.range)

pub returns-in_ok-push-in-Admitted : goal.returns-in_ok-push-in-Admitted
returns-in_ok-push-in-Admitted c = λ offers fits samples.
    rw (← c.pool-pool.ensures, ← c.service-service.ensures.service, ← c.delay-delay.ensures.delay)
    (decides_admitted offers _ c.in-Admitted.finish _ _ _ _ c.in-Admitted.is (c.in_ok-finish.ensures.decision offers fits) c.in_ok-finish.ensures.next.2 (c.in_ok-finish.ensures.fits offers fits) c.in_ok-finish.ensures.clock samples
    (decider_sampled c.args.self.now c.offer_to.new.self _ _ c.in_ok-push-in-Admitted.ensures.ok))

pub returns-in_ok-push-in-Rejected : goal.returns-in_ok-push-in-Rejected
returns-in_ok-push-in-Rejected c = λ offers fits samples.
    rw (← c.pool-pool.ensures, ← c.service-service.ensures.service, ← c.delay-delay.ensures.delay)
    (decides_rejected offers _ _ _ _ _ c.in-Rejected.is (c.in_ok-finish.ensures.decision offers fits) c.in_ok-finish.ensures.next.2 (c.in_ok-finish.ensures.fits offers fits) c.in_ok-finish.ensures.clock samples
    (decider_rejected c.args.self.now c.offer_to.new.self _ c.in_ok-push-in-Rejected.ensures.ok))
