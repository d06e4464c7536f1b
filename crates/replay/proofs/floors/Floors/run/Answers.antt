use Rattle.std.proofs.Common.{ap, sym, ◌∙◌}
use Rattle.replay.specs.Chunks.{chunk_len, chunk_step, chunk_value}
use Rattle.replay.proofs.Lookups.{same_steps, same_sizes}
use Rattle.replay.proofs.floors.Floors.run.Goals as goal

pub carry-requires-clause-chunks : goal.carry-requires-clause-chunks
carry-requires-clause-chunks g c = same_sizes g.C.Carries.count chunk_len c.args.size c.args.chunks.items c.requires.can.2 c.requires.chunks

pub returns : goal.returns
returns g c =
    let files = g.F.Tree.files in
    let serving = c.args.self.now.serving.now in
    same_steps g.C.Carries.content (chunk_value files) g.C.Carries.step (chunk_step files serving.server.served.tariff) _ c.in_ok-arrived.arrived.items c.args.chunks.items
    (c.requires.can.0 ∙ ap (chunk_step files) (sym serving.table)) c.requires.can.1 c.in_ok-arrived.ensures
