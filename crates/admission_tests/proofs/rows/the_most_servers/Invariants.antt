use Rattle.std.proofs.Common.{◌≡◌, ◌≤◌}
use Rattle.admission.specs.Standing.{HasPool}
use Rattle.admission_tests.proofs.rows.the_most_servers.Given as goal

abbrev pub invariant-loop-j : goal.invariant-loop-j
invariant-loop-j g l = (l.controller.offers ≡ l.j) × (l.controller.clock ≤ 0) × HasPool l.controller 0
