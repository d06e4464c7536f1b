use Rattle.std.proofs.Common.{◌≡◌, ◌++◌, map}
use Rattle.std.specs.Vec.Iter.{into_iter_items}
use Rattle.arrivals.specs.Parts.{incoming_from}
use Rattle.arrivals.proofs.Laid.{incoming}
use Rattle.arrivals.proofs.parts.with_piece.Given as goal

abbrev pub invariant-loop-message : goal.invariant-loop-message
invariant-loop-message l = l.part.items ++ map (incoming l.origin) (into_iter_items l.message-iterator) ≡ l.fn.part.items ++ incoming_from l.fn.piece
