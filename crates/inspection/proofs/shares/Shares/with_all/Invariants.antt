use Rattle.std.proofs.Common.{◌≡◌, take}
use Rattle.inspection.specs.Figures.{share_over}
use Rattle.inspection.specs.Running.{joined, rest_after_close, rest_unfinished}
use Rattle.inspection.proofs.shares.Shares.with_all.Given as goal

-- the shares with those of the connections so far
abbrev pub invariant-loop-tail : goal.invariant-loop-tail
invariant-loop-tail l =
    (l.shares.received ≡ joined l.fn.self.received (share_over (λ t. t.bytes) (take l.tail-index l.tails)))
    × (l.shares.after_close ≡ joined l.fn.self.after_close (share_over rest_after_close (take l.tail-index l.tails)))
    × (l.shares.unfinished ≡ joined l.fn.self.unfinished (share_over rest_unfinished (take l.tail-index l.tails)))
