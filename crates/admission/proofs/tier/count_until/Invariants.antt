use Rattle.std.proofs.Common.{◌≡◌, ◌≤◌, length, take}
use Rattle.std.specs.Prelude.{filter, nat_le}
use Rattle.admission.proofs.tier.count_until.Given as goal

abbrev pub invariant-loop-count : goal.invariant-loop-count
invariant-loop-count l = record {
  within : l.count ≤ length l.controls;
  same : filter (λ c. nat_le c.instant l.tick) (take l.count l.controls) ≡ filter (λ c. nat_le c.instant l.tick) l.controls;
}

abbrev pub decreases-loop-count : goal.decreases-loop-count
decreases-loop-count l = l.count
