use Rattle.std.proofs.Common.{◌≡◌, ◌≤◌}
use Rattle.admission.specs.Standing.{HasPool}
use Rattle.admission_tests.proofs.memory.each_growth_refused_while_time_passes.Given as goal

abbrev pub invariant-loop-place : goal.invariant-loop-place
invariant-loop-place g l = (l.controller.offers ≡ l.place) × (l.controller.clock ≤ l.place) × HasPool l.controller 0
