use Rattle.std.proofs.Common.{◌≡◌, ◌+◌, ◌-◌, ◌<◌, ◌≤◌, ℕ, length, max, All}
use Rattle.arrivals.specs.Connections.{tier_at}
use Rattle.arrivals.proofs.tiers.Tiers.reach.Given as goal

abbrev pub invariant-loop-self : goal.invariant-loop-self
invariant-loop-self l = ((c : ℕ) → tier_at l.self-inside.list.items c ≡ tier_at l.fn.self c) × All (λ tier. tier < 4) l.self-inside.list.items
    × (length l.self-inside.list.items ≤ max (length l.fn.self) (l.conn + 1))

abbrev pub decreases-loop-self : goal.decreases-loop-self
decreases-loop-self l = l.conn + 1 - length l.self-inside.list.items
