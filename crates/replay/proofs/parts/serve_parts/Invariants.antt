use Rattle.std.proofs.Common.{◌≡◌, ◌≤◌}
use Rattle.std.specs.Vec.Iter.{into_iter_items}
use Rattle.arrivals.specs.Parts.{joined}
use Rattle.replay.proofs.Upcoming.{Served}
use Rattle.replay.proofs.parts.serve_parts.Given as goal

-- some of the parts are served
abbrev pub invariant-loop-part : goal.invariant-loop-part
invariant-loop-part g l =
    Served g.F.Tree.files l.floors.serving.now.server.served (joined l.fn.parts.items) l.fn.decider l.decider l.fn.writer.bytes l.writer.bytes (into_iter_items l.part-iterator) × (l.writer.failures ≡ l.fn.writer.failures)
    × (l.decider.totals.answered ≤ l.decider.most)
