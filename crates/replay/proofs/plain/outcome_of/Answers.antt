use Rattle.std.proofs.Common.{refl}
use Rattle.reference.specs.Reference.{offers_of}
use Rattle.replay.proofs.plain.outcome_of.Goals as goal

pub returns-clause-summary : goal.returns-clause-summary
returns-clause-summary c = λ files terms arrivals stands.
    let tiers = rw stands.counted.station at (c.figures_of-tiers.ensures.tiers (offers_of files terms arrivals) stands.counted.fits) in
    let pools = rw stands.counted.station at (c.figures_of-tiers.ensures.pools (offers_of files terms arrivals) stands.counted.fits) in
    rw (stands.counted.totals, tiers, pools) refl
