use Rattle.http_requests.proofs.EndLemmas.{Sought}
use Rattle.http_requests.proofs.scanning.end_up_to.Given as goal

abbrev pub invariant-loop-found : goal.invariant-loop-found
invariant-loop-found l = Sought l.s l.at l.last l.found-iterator
