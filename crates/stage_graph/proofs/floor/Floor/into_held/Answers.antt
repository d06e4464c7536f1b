use Rattle.std.proofs.Common.{◌≡◌, sym, length}
use Rattle.stage_graph.proofs.Helping.{renamed}
use Rattle.stage_graph.proofs.floor.Floor.into_held.Goals as goal

pub invariant_of-result : goal.invariant_of-result
invariant_of-result g c =
    let p : g.N.RunName.plan ≡ c.self.inside.plan = sym c.self.invariant.1 in
    let n : g.N.RunName.count ≡ length c.self.inside.slots = sym c.self.invariant.0.count_is in (
      renamed _ _ _ _ _ _ _ p n c.self.invariant.0,
      rw (← p, ← n) c.self.invariant.2,
      rw (← n) c.self.invariant.3,
    )
