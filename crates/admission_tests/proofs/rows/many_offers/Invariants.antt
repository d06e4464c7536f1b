use Rattle.std.proofs.Common.{◌≡◌, ◌*◌, ◌≤◌}
use Rattle.admission_tests.proofs.rows.many_offers.Given as goal

abbrev pub invariant-loop-j : goal.invariant-loop-j
invariant-loop-j g l = (l.controller.offers ≡ l.j) × (l.controller.clock ≤ 500000 * l.j)
