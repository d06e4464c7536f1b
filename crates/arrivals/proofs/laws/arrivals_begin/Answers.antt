use Rattle.arrivals.proofs.ArrivalLaws as lemmas
use Rattle.arrivals.proofs.laws.arrivals_begin.Goals as goal

pub returns : goal.returns
returns c = lemmas.arrivals_begin
