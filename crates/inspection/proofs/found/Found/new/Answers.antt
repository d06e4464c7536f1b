use Rattle.inspection.proofs.Holding.{found_none}
use Rattle.inspection.proofs.found.Found.new.Goals as goal

pub returns : goal.returns
returns c = found_none c.new.result c.new.ensures
