use Rattle.program.proofs.Reporting.{exactly, staged_unreported}
use Rattle.program.proofs.wanted.run_wanted.Goals as goal

pub returns-in-Plain-clause-fault : goal.returns-in-Plain-clause-fault
returns-in-Plain-clause-fault g c = rw (c.in-Replies.is) c.plain_replay.ensures.fault

pub returns-in-Staged-clause-fault : goal.returns-in-Staged-clause-fault
returns-in-Staged-clause-fault g c = rw (c.in-Replies.is) c.staged_replay.ensures.fault

pub returns-in-Rows-clause-fault : goal.returns-in-Rows-clause-fault
returns-in-Rows-clause-fault g c = rw (c.in-Rows.is) c.explain_replay.ensures.fault

pub returns-in-Plain-clause-reads : goal.returns-in-Plain-clause-reads
returns-in-Plain-clause-reads g c = exactly c.plain_replay.result _ _ _ _ c.plain_replay.ensures.reads

pub returns-in-Staged-clause-reads : goal.returns-in-Staged-clause-reads
returns-in-Staged-clause-reads g c = staged_unreported _ _ c.staged_replay.result _ _ _ c.in-Replies.is c.in-Staged.is c.staged_replay.ensures.reads

pub returns-in-Rows-clause-reads : goal.returns-in-Rows-clause-reads
returns-in-Rows-clause-reads g c = exactly c.explain_replay.result _ _ _ _ c.explain_replay.ensures.reads
