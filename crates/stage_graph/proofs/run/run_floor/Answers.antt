use Rattle.std.proofs.Common.{arith}
use Rattle.stage_graph.proofs.Helping.{as_many}
use Rattle.stage_graph.proofs.run.run_floor.Goals as goal

pub end-requires-clause-count : goal.end-requires-clause-count
end-requires-clause-count g c =
    let n = as_many g.C.Item.Named.number_of g.C.Item.Named.done_of c.args.items.items g.N.RunName.count c.requires.fresh in
    omega (arith, n, c.len-count.ensures)
