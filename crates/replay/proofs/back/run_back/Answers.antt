use Rattle.std.proofs.Common.{map, ap, refl, ◌∙◌}
use Rattle.std.specs.Prelude.{flat_map}
use Rattle.stage_graph.specs.Steps.{value_of}
use Rattle.replay.specs.Backs.{back_step, reply_in}
use Rattle.replay.specs.Chunks.{chunk_step, chunk_value, decided_value}
use Rattle.replay.specs.declared.back.Unnamed.{Unnamed}
use Rattle.replay.proofs.Lookups.{chunks_stepped, all_rendered, flat_map-flat, flat_map-states, replies_same}
use Rattle.replay.proofs.back.run_back.Goals as goal

pub returns : goal.returns
returns g c =
    let files = g.F.Tree.files in
    let tariff = c.args.floors.now.serving.now.server.served.tariff in
    let arrived = c.in_ok-arrived.arrived.items in
    let chunks = c.in_ok-chunks.chunks.items in
    let items = flat_map (λ chunk. chunk.back.items) arrived in
    let went = chunks_stepped (λ v. v.back) (chunk_value files) (λ chunk. chunk.back.items) decided_value (chunk_step files tariff) (back_step files) 2 (λ l. refl) (λ k v. refl) arrived chunks
    (rw c.back-plan.ensures.steps at c.in_ok-arrived.ensures) in
    let rendered = went ∙ ap (map (value_of (back_step files) 2)) c.in_ok-chunks.ensures.all in
    record {
      replies = c.in_ok-replies_of.ensures
          ∙ (flat_map-flat (λ x. reply_in x.state) (λ chunk. chunk.back.items) arrived
          ∙ (replies_same Unnamed (λ x. x.state) items
          ∙ (flat_map-states reply_in decided_value items
          ∙ (ap (flat_map reply_in) rendered ∙ all_rendered Unnamed files c.args.pending_replies.items))));
    }
