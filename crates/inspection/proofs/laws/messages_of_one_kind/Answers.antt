use Rattle.inspection.proofs.Totals as lemmas
use Rattle.inspection.proofs.laws.messages_of_one_kind.Goals as goal

pub returns : goal.returns
returns c = lemmas.messages_of_one_kind
