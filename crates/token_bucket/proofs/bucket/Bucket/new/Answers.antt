use Rattle.token_bucket.proofs.FitsLemmas.{fits_made}
use Rattle.token_bucket.proofs.bucket.Bucket.new.Goals as goal

pub returns-clause-fits : goal.returns-clause-fits
returns-clause-fits c = fits_made c.args.depth c.args.rate
