use Rattle.std.proofs.Common.{arith}
use Rattle.stage_graph.proofs.Helping.{as_many}
use Rattle.stage_graph.proofs.helpers.passage.Helpers+Travel+S+J+G+R.run_items.Goals as goal

pub end-requires-clause-count : goal.end-requires-clause-count
end-requires-clause-count g c =
    let n = as_many (λ x. x.number) (λ x. x.done) c.args.items.items g.N.RunName.count c.requires.fresh in
    omega (arith, n, c.len-count.ensures)
