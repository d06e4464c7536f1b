use Rattle.std.proofs.Common.{◌≡◌, ap, ◌∙◌, length}
use Rattle.stage_graph.specs.Helpers.{FloorRecord}
use Rattle.stage_graph.proofs.Helping.{renamed}
use Rattle.stage_graph.proofs.floor.held.Held.into_floor.Goals as goal

pub invariant_of-result : goal.invariant_of-result
invariant_of-result g c =
    let p : c.self.inside.plan ≡ g.N.RunName.plan = ap (λ (r : FloorRecord). r.plan) c.self.view_is ∙ c.requires.plan in
    let n : length c.self.inside.slots ≡ g.N.RunName.count = ap (λ (r : FloorRecord). r.count) c.self.view_is ∙ c.requires.count in (
      renamed _ _ _ _ _ _ _ p n c.self.invariant.0,
      p,
      rw (← p, ← n) c.self.invariant.1,
      rw (← n) c.self.invariant.2,
    )
