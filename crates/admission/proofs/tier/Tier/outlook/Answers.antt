use Rattle.std.proofs.Common.{refl}
use Rattle.admission.proofs.OfferLemmas.{found_at}
use Rattle.admission.proofs.tier.Tier.outlook.Goals as goal

pub returns-clause-finds : goal.returns-clause-finds
returns-clause-finds c past fits =
    let found = found_at _ c.advance.new.self past c.args.tick c.self.invariant (rw (← c.self.view_is) at c.requires.forward.0)
    (rw (← c.self.view_is) at c.requires.complete) c.advance.ensures.fits c.advance.ensures.tick (rw (← c.self.view_is) at fits) in
    rw (← c.self.view_is, c.credit.ensures.value, c.rate.ensures, found.0, found.1) refl
