use Rattle.std.proofs.Common.{◌∙◌, ap}
use Rattle.cost_model.specs.Reference.{charge_on}
use Rattle.cost_model.proofs.OnPools.{pool_in}
use Rattle.cost_model.proofs.charge.Tariff.charge.Goals as goal

pub returns-clause-charge : goal.returns-clause-charge
returns-clause-charge c =
    rw (← c.self.view_is)
    (c.charge_on.ensures ∙ ap (λ r. charge_on c.self.inside.costs r c.args.outcome.now c.args.head c.args.unmodified c.args.len) c.in_ok-route.ensures.route)

pub returns-clause-pool : goal.returns-clause-pool
returns-clause-pool c =
    rw (← c.self.view_is, c.charge_on.ensures, c.in_ok-route.ensures.route)
    (pool_in c.self.inside.costs c.self.inside.routes c.self.inside.pools _ c.args.outcome.now c.args.head c.args.unmodified c.args.len c.self.invariant)
