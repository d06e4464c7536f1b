use Rattle.std.proofs.Common.{◌≡◌, ◌++◌, [], take}
use Rattle.captures.specs.declared.record.Record.TheVariants.{Piece}
use Rattle.slim.specs.Slims.{slim_record}
use Rattle.slim.specs.Steps.{whats_kept}
use Rattle.slim.proofs.slimming.push_pieces.Given as goal

-- the pieces of the first messages are there
abbrev pub invariant-loop-message : goal.invariant-loop-message
invariant-loop-message l =
    l.slim.items ≡ l.fn.slim.items ++ slim_record (whats_kept l.queries (take l.message-index l.messages)) (Piece l.tick l.conn [])
