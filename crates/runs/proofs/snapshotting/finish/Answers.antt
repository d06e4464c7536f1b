use Rattle.runs.proofs.FoldersTaken.{cut_by}
use Rattle.runs.proofs.snapshotting.finish.Goals as goal

pub returns-in-Err-clause-text : goal.returns-in-Err-clause-text
returns-in-Err-clause-text g c = rw c.unwritten.ensures (λ files before took. cut_by _ _ _ c.in-Err.fault (c.in-Err.ensures.text files before took))
