use Rattle.inspection.proofs.UsedOnce as lemmas
use Rattle.inspection.proofs.laws.one_connection_of_each_number.Goals as goal

pub returns-clause-received : goal.returns-clause-received
returns-clause-received c = lemmas.received_once

pub returns-clause-after_close : goal.returns-clause-after_close
returns-clause-after_close c = lemmas.after_close_once

pub returns-clause-unfinished : goal.returns-clause-unfinished
returns-clause-unfinished c = lemmas.unfinished_once
