use Rattle.admission.proofs.OneTierLemmas as lemmas
use Rattle.admission.proofs.laws.one_tier_as_before.Goals as goal

pub returns : goal.returns
returns c = lemmas.one_tier_as_before
