use Rattle.arrivals.proofs.ArrivalsExist as lemmas
use Rattle.arrivals.proofs.laws.arrivals_of_messages.Goals as goal

pub returns : goal.returns
returns c = lemmas.arrivals_of_messages
