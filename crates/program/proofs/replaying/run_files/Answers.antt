use Rattle.runs.specs.Ports.{RunsAtBoth}
use Rattle.program.specs.Replays.{FilesSays}
use Rattle.program.proofs.FilesSaid.{both_fault, both_ok, run_of_files}
use Rattle.program.proofs.Reporting.{files_fault, files_ok}
use Rattle.program.proofs.replaying.run_files.Goals as goal

pub returns : goal.returns
returns g c =
    let runs : RunsAtBoth (FilesSays c.args.wanted c.args.settings.now (g.S.Read.remaining c.args.snapshot) (g.C.Read.remaining c.args.capture)) (g.W.Write.contents c.args.written) (g.W.Write.contents c.into_writer.result) (g.O.Write.contents c.args.out)
    (g.O.Write.contents c.into_writer-2.result) c.run_buffered-ran.result.0 =
    run_of_files c.args.wanted c.args.settings.now _ _ c.in-Ok.snapshot c.run_buffered-ran.new.snapshot c.in-Ok-buffered_input.capture c.run_buffered-ran.new.capture c.new.result c.run_buffered-ran.result.1 c.new-2.result c.run_buffered-ran.result.2 _ _ _ _
    c.run_buffered-ran.result.0 c.in-Ok.ensures.input c.in-Ok-buffered_input.ensures.input c.new.ensures c.into_writer.ensures c.new-2.ensures c.into_writer-2.ensures c.run_buffered-ran.ensures.stands in
    record {
      device = runs;
      ok = both_ok _ _ _ _ _ _ _ (files_ok c.args.wanted c.args.settings.now _ _) runs;
      fault = both_fault _ _ _ _ _ _ _ tt tt tt (files_fault c.args.wanted c.args.settings.now _ _) runs;
    }
