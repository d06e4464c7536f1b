use Rattle.std.proofs.Common.{◌≡◌, ◌+◌, ◌-◌, ◌≤◌, ℕ, length, max}
use Rattle.arrivals.specs.Connections.{connection_at}
use Rattle.arrivals.proofs.connections.Connections.reach.Given as goal

abbrev pub invariant-loop-self : goal.invariant-loop-self
invariant-loop-self l = ((c : ℕ) → connection_at l.self-inside.list.items c ≡ connection_at l.fn.self c)
    × (length l.self-inside.list.items ≤ max (length l.fn.self) (l.conn + 1))

abbrev pub decreases-loop-self : goal.decreases-loop-self
decreases-loop-self l = l.conn + 1 - length l.self-inside.list.items
