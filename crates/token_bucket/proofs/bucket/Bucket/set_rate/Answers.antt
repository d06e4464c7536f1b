use Rattle.std.proofs.Common.{◌*◌, arith}
use Rattle.token_bucket.specs.Reference.{TOKEN}
use Rattle.token_bucket.specs.Calls.{SetRate}
use Rattle.token_bucket.proofs.FitsLemmas.{fits_then, still_credit_untaken}
use Rattle.token_bucket.proofs.bucket.Bucket.set_rate.Goals as goal

pub returns-clause-fits : goal.returns-clause-fits
returns-clause-fits c past fits =
    fits_then past _ (SetRate c.args.rate) c.self.inside.credit (rw (← c.self.view_is) at fits) (omega arith) (omega arith)
    (still_credit_untaken (c.self.inside.depth * TOKEN) c.self.inside.credit c.self.inside.rate c.self.inside.tick
    c.self.invariant.credit)
