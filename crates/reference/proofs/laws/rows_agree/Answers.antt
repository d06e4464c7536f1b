use Rattle.reference.proofs.Table.{rows_agree}
use Rattle.reference.proofs.laws.rows_agree.Goals as goal

pub returns : goal.returns
returns c = rows_agree
