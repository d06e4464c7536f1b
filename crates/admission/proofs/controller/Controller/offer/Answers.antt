use Rattle.std.proofs.Common.{arith}
use Rattle.admission.specs.Standing.{HasPool}
use Rattle.admission.proofs.TierLemmas.{has_default}
use Rattle.admission.proofs.controller.Controller.offer.Goals as goal

pub offer_to-requires : goal.offer_to-requires
offer_to-requires c =
    let has : HasPool c.args.self.now 0 = rw (← c.self.view_is) (has_default _ c.self.invariant) in
    (c.requires.offer, omega arith, has, c.requires.room)
