use Rattle.std.proofs.Common.{◌*◌, true, false, arith}
use Rattle.token_bucket.specs.Reference.{TOKEN}
use Rattle.token_bucket.specs.Calls.{TryTake}
use Rattle.token_bucket.proofs.FitsLemmas.{fits_then, still_credit, still_credit_untaken}
use Rattle.token_bucket.proofs.bucket.Bucket.try_take.Goals as goal

pub returns-then-self-lt-TOKEN-clause-fits : goal.returns-then-self-lt-TOKEN-clause-fits
returns-then-self-lt-TOKEN-clause-fits c past fits =
    rw (← c.self.view_is)
    (fits_then past _ (TryTake false) c.self.inside.credit (rw (← c.self.view_is) at fits) (omega arith) (omega arith)
    (still_credit_untaken (c.self.inside.depth * TOKEN) c.self.inside.credit c.self.inside.rate c.self.inside.tick
    c.self.invariant.credit))

pub returns-clause-fits : goal.returns-clause-fits
returns-clause-fits c past fits =
    fits_then past _ (TryTake true) _ (rw (← c.self.view_is) at fits) (omega arith) (omega arith)
    (still_credit (c.self.inside.depth * TOKEN) c.self.inside.credit c.self.inside.rate c.self.inside.tick TOKEN
    c.self.invariant.credit)
