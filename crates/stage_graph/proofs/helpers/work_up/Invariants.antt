use Rattle.std.proofs.Common.{◌≡◌}
use Rattle.stage_graph.proofs.helpers.work_up.Given as goal

abbrev pub invariant-loop-step : goal.invariant-loop-step
invariant-loop-step g l = (g.C.Item.Named.done_of l.item ≡ l._step) × (g.C.Item.Named.number_of l.item ≡ g.C.Item.Named.number_of l.fn.item)
