use Rattle.std.proofs.Common.{◌-◌, ◌*◌, ◌≤◌, ◌∙◌, arith}
use Rattle.token_bucket.specs.Reference.{TOKEN}
use Rattle.token_bucket.specs.Calls.{Advance}
use Rattle.token_bucket.proofs.FitsLemmas.{fits_then, filled_credit}
use Rattle.token_bucket.proofs.bucket.Bucket.advance.Goals as goal

pub returns-clause-fits : goal.returns-clause-fits
returns-clause-fits c past fits =
    let forward : c.self.inside.tick ≤ c.args.to = rw (← c.self.view_is) at c.requires.forward in
    fits_then past _ (Advance c.args.to) _ (rw (← c.self.view_is) at fits) forward (omega arith)
    (c.filled-credit.ensures
    ∙ filled_credit (c.self.inside.depth * TOKEN) c.self.inside.credit c.self.inside.rate (c.args.to - c.self.inside.tick))
