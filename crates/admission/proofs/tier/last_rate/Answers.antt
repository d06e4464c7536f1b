use Rattle.std.proofs.Common.{sym, length, ◌-◌}
use Rattle.admission.proofs.RateLemmas.{rates_at}
use Rattle.admission.proofs.tier.last_rate.Goals as goal

pub returns-in-Some-clause-range : goal.returns-in-Some-clause-range
returns-in-Some-clause-range c =
    rates_at c.args.controls.now (length c.args.controls.now - 1) c.in-Some.last.now c.requires (sym c.in-Some.ensures.value)
