use Rattle.std.proofs.Common.{arith}
use Rattle.stage_graph.specs.After.{with_steps}
use Rattle.stage_graph.proofs.Lists.{is_nil-maps, is_nil-length}
use Rattle.stage_graph.proofs.floor.Floor.has_no_backlog.Goals as goal

pub returns : goal.returns
returns g c =
    let stands = c.self.invariant.0 in
    let a = is_nil-maps _ (with_steps 0) c.self.inside.backlog.items _ stands.backlog_is in
    let b = is_nil-length c.self.inside.backlog.items in
    grind (arith, a, b, c.is_empty.ensures, c.self.inside.backlog.ok)
