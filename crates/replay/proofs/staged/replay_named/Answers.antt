use Rattle.std.proofs.Common.{inl, rules}
use Rattle.devices.proofs.Appending.{prefix_none}
use Rattle.replay.proofs.Judging.{passed_on}
use Rattle.replay.proofs.staged.replay_named.Goals as goal

pub returns-in_err-cache : goal.returns-in_err-cache
returns-in_err-cache g c = record {
  fault = passed_on c.from_residual.result _ _ (λ f same. rw same (inl (prefix_none c.args.writer.now.bytes _))) c.from_residual.ensures.1;
  reads = search rules;
  writes = search rules;
  ok = search rules;
}

pub returns : goal.returns
returns g c = rw c.new-serving.ensures at c.replay_with.ensures
