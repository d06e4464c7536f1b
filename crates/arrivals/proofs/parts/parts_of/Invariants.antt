use Rattle.std.proofs.Common.{◌≡◌, ◌++◌}
use Rattle.std.specs.Prelude.{flat_map}
use Rattle.std.specs.Vec.Iter.{into_iter_items}
use Rattle.arrivals.specs.Parts.{incoming_from, joined}
use Rattle.arrivals.proofs.Parted.{Sized}
use Rattle.arrivals.proofs.parts.parts_of.Given as goal

abbrev pub invariant-loop-piece : goal.invariant-loop-piece
invariant-loop-piece l = (joined l.parts.items ++ l.part.items ++ flat_map incoming_from (into_iter_items l.piece-iterator) ≡ flat_map incoming_from l.fn.pieces.items)
    × Sized l.fn.pieces.items (into_iter_items l.piece-iterator) l.parts.items l.part.items
