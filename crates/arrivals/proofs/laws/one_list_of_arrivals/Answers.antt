use Rattle.arrivals.proofs.ArrivalLaws as lemmas
use Rattle.arrivals.proofs.laws.one_list_of_arrivals.Goals as goal

pub returns : goal.returns
returns c = lemmas.one_list_of_arrivals
