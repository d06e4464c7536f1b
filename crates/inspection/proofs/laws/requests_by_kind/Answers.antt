use Rattle.inspection.proofs.Totals as lemmas
use Rattle.inspection.proofs.laws.requests_by_kind.Goals as goal

pub returns-clause-methods : goal.returns-clause-methods
returns-clause-methods c = lemmas.requests_by_method

pub returns-clause-versions : goal.returns-clause-versions
returns-clause-versions c = lemmas.requests_by_version
