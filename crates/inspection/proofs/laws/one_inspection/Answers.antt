use Rattle.inspection.proofs.OneInspection as lemmas
use Rattle.inspection.proofs.laws.one_inspection.Goals as goal

pub returns : goal.returns
returns c = lemmas.one_inspection
