use Rattle.admission.proofs.TierLemmas.{started_sound, started_fits, started_station}
use Rattle.admission.proofs.controller.Controller.with_pools.Goals as goal

pub invariant_of-result : goal.invariant_of-result
invariant_of-result c =
    started_sound c.in_ok-tiers.tiers c.in_ok-pools.pools.items c.in_ok-figures.figures.items c.args.servers.now c.in_ok-tiers.ensures.four
    c.in_ok-tiers.ensures.new c.requires c.in_ok-pools.ensures c.in_ok-figures.ensures

pub returns-clause-fits : goal.returns-clause-fits
returns-clause-fits c =
    started_fits c.in_ok-tiers.tiers c.in_ok-pools.pools.items c.in_ok-figures.figures.items c.args.servers.now c.in_ok-tiers.ensures.new
    c.requires c.in_ok-pools.ensures c.in_ok-figures.ensures

pub returns-clause-station : goal.returns-clause-station
returns-clause-station c =
    started_station c.args.policies c.in_ok-tiers.tiers c.in_ok-pools.pools.items c.in_ok-figures.figures.items c.args.servers.now
    c.in_ok-tiers.ensures.policies c.in_ok-pools.ensures
