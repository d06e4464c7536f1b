use Rattle.replay.proofs.Judging.{if_ok}
use Rattle.replay.proofs.ByRecord.{has_answered}
use Rattle.replay.proofs.plain.plain_replay.Goals as goal

pub returns-clause-ok : goal.returns-clause-ok
returns-clause-ok g c =
    if_ok c.replay_writing.result _ _ (has_answered g.F.Tree.files c.args.settings.now.served _ _ _)
    c.replay_writing.ensures.ok
