use Rattle.runs.proofs.Buffering.{part_stands}
use Rattle.runs.proofs.buffer.Buffered.finish.Goals as goal

pub returns-clause-part : goal.returns-clause-part
returns-clause-part g c =
    rw c.into_sink.ensures.same (part_stands _ _ _ _ _ c.args.self.device.begins c.write_rest-done.new.self.device.begins c.write_rest-done.ensures.bytes)
