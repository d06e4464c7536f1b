use Rattle.std.proofs.Common.{map, ap, refl, ◌∙◌}
use Rattle.std.specs.Prelude.{flat_map}
use Rattle.stage_graph.specs.Steps.{value_of}
use Rattle.replay.specs.Fronts.{floor_step}
use Rattle.replay.specs.Chunks.{chunk_step, chunk_value, seen_value}
use Rattle.replay.proofs.Lookups.{chunks_stepped, same_values, all_known, flat_map-mapped, looked_up}
use Rattle.replay.proofs.front.run_front.Goals as goal

pub returns : goal.returns
returns g c =
    let files = g.F.Tree.files in
    let tariff = c.args.floors.now.serving.now.server.served.tariff in
    let messages = c.args.messages.items in
    let arrived = c.in_ok-arrived.arrived.items in
    let chunks = c.in_ok-chunks.chunks.items in
    let went = chunks_stepped (λ v. v.front) (chunk_value files) (λ chunk. chunk.front.items) (seen_value files) (chunk_step files tariff) (floor_step files tariff) 3 (λ l. refl) (λ k v. refl) arrived chunks
    (rw c.front-plan.ensures.steps at c.in_ok-arrived.ensures) in
    let found = went ∙ (ap (map (value_of (floor_step files tariff) 3)) c.in_ok-chunks.ensures.all ∙ same_values files tariff messages) in
    record {
      seen = c.in_ok-lookups_of.ensures
          ∙ (flat_map-mapped (λ x. looked_up x.message x.lookup) (λ chunk. chunk.front.items) arrived
          ∙ all_known files tariff (λ x. x.message) (λ x. x.lookup) (flat_map (λ chunk. chunk.front.items) arrived) messages found);
    }
