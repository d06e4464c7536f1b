use Rattle.std.proofs.Common.{inr, subst}
use Rattle.std.proofs.lemmas.Result.{err_from_is_err_and}
use Rattle.inspection.specs.declared.inspect_fault.InspectFault.{InspectFault}
use Rattle.inspection.specs.Inspections.{Stops}
use Rattle.runs.specs.Ports.{port}
use Rattle.runs.proofs.Inspected.{due_fault}
use Rattle.runs.proofs.inspecting.run_inspect.Goals as goal

pub returns-in_err-write_inspection-in-Err-Stopped-clause-fault :
    goal.returns-in_err-write_inspection-in-Err-Stopped-clause-fault
returns-in_err-write_inspection-in-Err-Stopped-clause-fault g c =
    let stop = err_from_is_err_and c.from_residual.result c.from_residual.ensures.1 in
    let held = subst (λ (f : InspectFault). Stops c.args.input.now.bytes c.inspect.new.reader.bytes f) c.in-Err-Stopped.field-0-is c.in-Err-Stopped.ensures.stops in
    rw (stop.1, stop.2) (due_fault (port c.args.input.now c.inspect.new.reader) (port c.args.output.now c.write_inspection-in-Err-Stopped.new.output) c.in-Err-Stopped.held _ (inr (c.in-Err-Stopped.fault, held.1)) c.in_err-write_inspection-in-Err-Stopped.ensures.fault)
