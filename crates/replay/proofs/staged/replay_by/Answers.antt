use Rattle.replay.proofs.Stepping.{left_so}
use Rattle.replay.proofs.staged.replay_by.Goals as goal

pub returns : goal.returns
returns g c = record {
  fault = left_so c.replay_beside.result _ _ _ _ _ c.replay_beside.ensures.fault;
  reads = c.replay_beside.ensures.reads;
  writes = c.replay_beside.ensures.writes;
  ok = c.replay_beside.ensures.ok;
}
