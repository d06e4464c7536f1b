use Rattle.reference.proofs.OneOutcome as lemmas
use Rattle.reference.proofs.laws.one_outcome.Goals as goal

pub returns-clause-not_faulty : goal.returns-clause-not_faulty
returns-clause-not_faulty c = lemmas.answered_not_faulty

pub returns-clause-not_full : goal.returns-clause-not_full
returns-clause-not_full c = lemmas.answered_not_full

pub returns-clause-faulty_not_full : goal.returns-clause-faulty_not_full
returns-clause-faulty_not_full c = lemmas.faulty_not_full
