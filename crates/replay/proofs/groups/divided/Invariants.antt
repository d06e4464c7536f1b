use Rattle.std.proofs.Common.{◌≡◌, ◌++◌, ◌∷◌, []}
use Rattle.std.specs.Prelude.{sum_by}
use Rattle.std.specs.Vec.Iter.{into_iter_items}
use Rattle.replay.specs.Groups.{all_of, page_len, AreGroups}
use Rattle.replay.proofs.groups.divided.Given as goal

-- the groups so far and the one that is being filled, and how many bytes of pages it holds
abbrev pub invariant-loop-pending : goal.invariant-loop-pending
invariant-loop-pending g l = record {
  all : all_of l.groups.items ++ l.group.items ++ into_iter_items l.pending-iterator ≡ l.fn.pending_replies.items;
  are : AreGroups (page_len l.fn.snapshot) l.fn.capacity (l.groups.items ++ l.group.items ∷ []);
  held : l.held ≡ sum_by (page_len l.fn.snapshot) l.group.items;
}
