use Rattle.std.proofs.lemmas.Result.{IfOk-weaker, IfErr-weaker}
use Rattle.stage_graph.proofs.Counting.{whole_run}
use Rattle.stage_graph.proofs.run.ended.Goals as goal

pub returns-clause-whole : goal.returns-clause-whole
returns-clause-whole g c = IfOk-weaker c.close.result _ _ (λ r is. rw (is.0) (whole_run g.N.RunName.plan g.N.RunName.count c.args.floor c.requires.plan c.close.ensures.legal c.requires.left is.1)) c.close.ensures.run

pub returns-clause-stopped : goal.returns-clause-stopped
returns-clause-stopped g c = IfErr-weaker c.close.result _ _ (λ u is. rw (is.0) (c.close.ensures.legal, c.requires.left, is.2, c.close.ensures.bounds)) c.close.ensures.stopped
