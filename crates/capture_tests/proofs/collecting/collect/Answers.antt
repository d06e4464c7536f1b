use Rattle.std.proofs.Common.{◌∙◌}
use Rattle.captures.proofs.Callers.{gave_record, gave_all, first_after, first_of_all}
use Rattle.capture_tests.proofs.collecting.collect.Goals as goal

pub returns-in-Err-clause-fault : goal.returns-in-Err-clause-fault
returns-in-Err-clause-fault g c = first_of_all _ _ c.in-Err.ensures.fault.foreseen

pub loop-record-preserved : goal.loop-record-preserved
loop-record-preserved g c = (
  gave_record c.version-version.result _ _ _ _ _ _ _ _ c.in-Ok-Some.field-0-is c.in-Ok-push.ensures.items (c.in-Ok-Some.ensures.next _ _ _ _ c.loop-record.invariant.0).0,
  c.in-Ok-Some.ensures.stands.1 ∙ c.loop-record.invariant.1,
  c.in-Ok-Some.ensures.count ∙ c.loop-record.invariant.2,
)

pub returns-in-Ok-None-clause-ok : goal.returns-in-Ok-None-clause-ok
returns-in-Ok-None-clause-ok g c = gave_all _ _ _ _ _ _ _ c.in-Ok-None.field-0-is (c.in-Ok-None.ensures.next _ _ _ _ c.loop-record.invariant.0).0

pub returns-in-Err-next_record-clause-fault : goal.returns-in-Err-next_record-clause-fault
returns-in-Err-next_record-clause-fault g c = first_after _ _ _ _ _ (c.in-Err-next_record.ensures.next _ _ _ _ c.loop-record.invariant.0).0.1
