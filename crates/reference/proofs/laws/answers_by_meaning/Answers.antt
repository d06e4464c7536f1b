use Rattle.reference.proofs.ByMeaning.{by_meaning}
use Rattle.reference.proofs.laws.answers_by_meaning.Goals as goal

pub returns : goal.returns
returns c = by_meaning
