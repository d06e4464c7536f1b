use Rattle.reference.proofs.Table.{rows_laws}
use Rattle.replay.proofs.rows.RowsFormat.begin.Goals as goal

pub returns-in_err-write_heading-clause-texts : goal.returns-in_err-write_heading-clause-texts
returns-in_err-write_heading-clause-texts g c files terms = rows_laws files terms

pub returns-clause-texts : goal.returns-clause-texts
returns-clause-texts g c files terms = rows_laws files terms
