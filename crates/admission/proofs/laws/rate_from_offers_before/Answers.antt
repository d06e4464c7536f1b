use Rattle.admission.proofs.CarryLemmas as lemmas
use Rattle.admission.proofs.laws.rate_from_offers_before.Goals as goal

pub returns : goal.returns
returns c = lemmas.rate_from_offers_before
