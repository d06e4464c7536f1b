use Rattle.std.proofs.Common.{rules}
use Rattle.faults.specs.declared.fault.Place.TheVariants.{Report}
use Rattle.runs.specs.Inspecting.{InspectSays}
use Rattle.runs.proofs.Inspected.{inspected_fault, inspected_ok}
use Rattle.runs.specs.Ports.{Reads, Runs}
use Rattle.runs.proofs.Settling.{ok_of_runs, fault_of_runs}
use Rattle.runs.proofs.inspecting.inspect_files.Goals as goal

pub returns-in-Ok-clause-ok : goal.returns-in-Ok-clause-ok
returns-in-Ok-clause-ok g c =
    let runs : Runs Report (Reads InspectSays (g.R.Read.remaining c.args.reader)) (g.W.Write.contents c.args.writer) (g.W.Write.contents c.into_writer.result) c.run_buffered-ran.result.0 = search rules in
    ok_of_runs Report _ _ _ _ _ (inspected_ok _) runs

pub returns-in-Ok-clause-fault : goal.returns-in-Ok-clause-fault
returns-in-Ok-clause-fault g c =
    let runs : Runs Report (Reads InspectSays (g.R.Read.remaining c.args.reader)) (g.W.Write.contents c.args.writer) (g.W.Write.contents c.into_writer.result) c.run_buffered-ran.result.0 = search rules in
    fault_of_runs Report _ _ _ _ _ tt tt (inspected_fault _) runs
