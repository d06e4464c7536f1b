use Rattle.std.proofs.Common.{length}
use Rattle.std.proofs.lemmas.Result.{err_from_is_err_and}
use Rattle.stage_graph.proofs.Chunking.{gone_through, stopped_in_chunks}
use Rattle.stage_graph.proofs.Helping.{numbered_chunks, chunks_by_count, length-numbered, same_cut}
use Rattle.stage_graph.proofs.helpers.passage.Helpers+Travel+S+J+G+R.run.Goals as goal

pub ended-requires : goal.ended-requires
ended-requires g c =
    let gone = gone_through c.args.plan.now c.in_ok-floor.floor c.args.size _ (length c.args.chunks.items) (numbered_chunks g.S.Steps.count 0 c.args.chunks.items) c.in_ok-arrived.arrived.history
    c.in_ok-floor.ensures (chunks_by_count g.S.Steps.count c.args.size c.args.chunks.items c.requires.chunks) (length-numbered g.S.Steps.count 0 c.args.chunks.items) c.in_ok-arrived.ensures.whole in
    rw (c.as_slice.ensures, c.in-Some.ensures, c.deref.ensures.value) gone

pub returns-clause-values : goal.returns-clause-values
returns-clause-values g c =
    rw (← same_cut c.args.plan.now c.in_ok-floor.floor c.args.size c.in_ok-floor.ensures) c.in_ok-arrived.ensures.values

pub returns-clause-history : goal.returns-clause-history
returns-clause-history g c =
    gone_through c.args.plan.now c.in_ok-floor.floor c.args.size _ (length c.args.chunks.items) (numbered_chunks g.S.Steps.count 0 c.args.chunks.items) c.in_ok-arrived.arrived.history
    c.in_ok-floor.ensures (chunks_by_count g.S.Steps.count c.args.size c.args.chunks.items c.requires.chunks) (length-numbered g.S.Steps.count 0 c.args.chunks.items) c.in_ok-arrived.ensures.whole

pub returns-in_err-arrived-clause-stopped : goal.returns-in_err-arrived-clause-stopped
returns-in_err-arrived-clause-stopped g c =
    let stop = err_from_is_err_and c.from_residual-in_err-arrived.result c.from_residual-in_err-arrived.ensures.1 in
    rw (stop.1, stop.2) (stopped_in_chunks c.args.plan.now c.in_ok-floor.floor c.args.size _ (length c.args.chunks.items) (numbered_chunks g.S.Steps.count 0 c.args.chunks.items) c.in_err-arrived.field-0.0
    c.in_ok-floor.ensures (chunks_by_count g.S.Steps.count c.args.size c.args.chunks.items c.requires.chunks) (length-numbered g.S.Steps.count 0 c.args.chunks.items) c.in_err-arrived.ensures.stopped)
