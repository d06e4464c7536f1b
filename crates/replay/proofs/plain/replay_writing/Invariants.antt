use Rattle.std.proofs.Common.{◌≡◌}
use Rattle.replay.specs.Between.{Between}
use Rattle.replay.specs.States.{state_of}
use Rattle.replay.proofs.plain.replay_writing.Given as goal

-- some records were read, and the messages that arrived with them are answered
abbrev pub invariant-loop-engine : goal.invariant-loop-engine
invariant-loop-engine g l =
    Between (g.T.Format.texts g.F.Tree.files l.settings.served) g.F.Tree.files l.settings.served l.version l.fn.reader.bytes l.fn.writer.bytes l.capture.progress l.capture.input.now.bytes (state_of l.engine) l.writer.bytes
    × (l.capture.input.ghost_name ≡ l.initial.capture.input.ghost_name) × (l.capture.input.now.failures ≡ l.fn.reader.failures) × (l.writer.failures ≡ l.fn.writer.failures)

abbrev pub decreases-loop-engine : goal.decreases-loop-engine
decreases-loop-engine g l = l.capture.progress.capacity
