use Rattle.std.proofs.Common.{◌≡◌, ◌+◌, ◌-◌, ◌≤◌, ℕ, length, max}
use Rattle.inspection.specs.Running.{tail_at}
use Rattle.inspection.proofs.tails.Tails.reach.Given as goal

abbrev pub invariant-loop-self : goal.invariant-loop-self
invariant-loop-self l = ((c : ℕ) → tail_at l.self-inside.list.items c ≡ tail_at l.fn.self c)
    × (length l.self-inside.list.items ≤ max (length l.fn.self) (l.conn + 1))

abbrev pub decreases-loop-self : goal.decreases-loop-self
decreases-loop-self l = l.conn + 1 - length l.self-inside.list.items
