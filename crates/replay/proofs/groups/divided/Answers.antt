use Rattle.std.proofs.Common.{refl, rules}
use Rattle.std.proofs.lemmas.List.{append_assoc}
use Rattle.replay.specs.Groups.{page_len}
use Rattle.replay.proofs.GroupLemmas.{group_step}
use Rattle.replay.proofs.groups.divided.Goals as goal

pub loop-pending-preserved : goal.loop-pending-preserved
loop-pending-preserved g c =
    let inv = c.loop-pending.invariant in
    let stepped = group_step (page_len c.args.snapshot.now) c.args.capacity _ _ _ _ _ c.in-Some.pending _ _ c.saturating_sub.result (rw c.page_len-own.ensures refl) c.saturating_sub.ensures c.in_ok-left.ensures.lays inv.are inv.held in
    record {
      all = search (rules, append_assoc);
      are = rw c.in_ok-push.ensures.items stepped.0;
      held = rw (c.in_ok-push.ensures.items, c.page_len-own.ensures) stepped.1;
    }
