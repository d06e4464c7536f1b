use Rattle.std.proofs.Common.{◌≡◌, ◌≤◌}
use Rattle.admission.specs.Standing.{HasPool}
use Rattle.admission_tests.proofs.memory.each_growth_of_servers_refused.Given as goal

abbrev pub invariant-loop-place : goal.invariant-loop-place
invariant-loop-place g l = (l.controller.offers ≡ l.place) × (l.controller.clock ≤ 0) × HasPool l.controller 0
