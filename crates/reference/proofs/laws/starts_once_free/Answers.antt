use Rattle.reference.proofs.Table.{starts_once_free}
use Rattle.reference.proofs.laws.starts_once_free.Goals as goal

pub returns : goal.returns
returns c = starts_once_free
