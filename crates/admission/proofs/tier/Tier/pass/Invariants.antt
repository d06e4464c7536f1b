use Rattle.std.proofs.Common.{◌≤◌, length}
use Rattle.admission.specs.Limits.{MAX_OFFERS}
use Rattle.admission.specs.TierCalls.{Moves}
use Rattle.admission.proofs.tier.Tier.pass.Given as goal

abbrev pub invariant-loop-response : goal.invariant-loop-response
invariant-loop-response l = record {
  moves : Moves l.fn.self l.tick l.self;
  few : l.self.flight.admitted ≤ MAX_OFFERS;
}

abbrev pub decreases-loop-response : goal.decreases-loop-response
decreases-loop-response l = length l.self.flight.responses
