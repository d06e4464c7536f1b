use Rattle.std.proofs.Common.{◌≡◌, ◌+◌, ◌-◌, ◌≤◌, length, take}
use Rattle.http_requests.specs.Cutting.{IsSound, HasFailed, Cuts}
use Rattle.http_requests.specs.Cutting.{progress}
use Rattle.http_requests.proofs.cutting.State.feed.Given as goal

abbrev pub invariant-loop-at : goal.invariant-loop-at
invariant-loop-at l = record {
  within : l.at ≤ length l.piece;
  sound : IsSound (progress l.self);
  live : ¬ (HasFailed (progress l.self));
  read : l.self.read ≡ l.fn.self.read + l.at;
  cuts : Cuts (progress l.fn.self) (take l.at l.piece) (progress l.self) l.fn.out.items l.out.items;
}

abbrev pub decreases-loop-at : goal.decreases-loop-at
decreases-loop-at l = length l.piece - l.at
