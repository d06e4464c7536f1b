use Rattle.slim.proofs.Growth.{fits}
use Rattle.slim.proofs.laws.slim_fits.Goals as goal

pub returns : goal.returns
returns c = fits
