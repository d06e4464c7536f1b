use Rattle.std.proofs.Common.{◌∙◌}
use Rattle.stage_graph.proofs.helpers.passage.Helpers+Travel+S+J+G+R.run_on.Goals as goal

pub returns-clause-values : goal.returns-clause-values
returns-clause-values g c =
    rw (← c.steps-done.ensures) (c.in_ok-chunks.ensures.values c.args.chunks.items (c.deref.ensures.value ∙ c.in_ok-items.ensures.notes))
