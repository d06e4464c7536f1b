use Rattle.std.proofs.Common.{◌≡◌, ◌≤◌, length}
use Rattle.admission.specs.TierCalls.{AllMove}
use Rattle.admission.proofs.PassLemmas.{FirstComplete}
use Rattle.admission.proofs.controller.pass.Given as goal

abbrev pub invariant-loop-tier : goal.invariant-loop-tier
invariant-loop-tier l = record {
  moves : AllMove l.fn.tiers l.tick l.tiers;
  complete : FirstComplete l.tiers l.tick l.tier;
  within : l.tier ≤ 4;
  four : length l.tiers ≡ 4;
}
