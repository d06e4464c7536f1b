use Rattle.std.proofs.Common.{refl}
use Rattle.snapshots.proofs.Taken.{again, only_unforeseen}
use Rattle.snapshots.proofs.laws.read_back.Goals as goal

pub returns-clause-files : goal.returns-clause-files
returns-clause-files c = λ files others new is read. again files others is (read.text refl)

pub returns-clause-fault : goal.returns-clause-fault
returns-clause-fault c = only_unforeseen
