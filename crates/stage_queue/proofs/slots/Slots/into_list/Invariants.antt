use Rattle.std.proofs.Common.{◌≡◌, ◌+◌, ◌≤◌, ◌++◌, Some, true, is_some, map, length, vec_len, vec_capacity}
use Rattle.std.specs.List.{list_all}
use Rattle.std.specs.Vec.Iter.{into_iter_items}
use Rattle.stage_queue.proofs.slots.Slots.into_list.Given as goal

abbrev pub invariant-loop-slot : goal.invariant-loop-slot
invariant-loop-slot g l =
    (map Some l.list.items ++ into_iter_items l.slot-iterator ≡ l.fn.self)
    × (list_all is_some (into_iter_items l.slot-iterator) ≡ true)
    × (vec_len l.list + length (into_iter_items l.slot-iterator) ≤ vec_capacity l.list)
