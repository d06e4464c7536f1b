use Rattle.runs.proofs.snapshotting.refuse.Goals as goal

pub returns-in-Some-clause-fault : goal.returns-in-Some-clause-fault
returns-in-Some-clause-fault c = (c.if-not-skip.true, (c.in-Some.fault, c.in-Some.is, rw c.as_str.ensures.value at c.refused.ensures))
