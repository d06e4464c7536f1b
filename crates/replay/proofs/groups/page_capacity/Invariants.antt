use Rattle.std.proofs.Common.{◌≡◌, ◌≤◌, ◌+◌, take, length}
use Rattle.std.specs.Prelude.{sum_by}
use Rattle.replay.proofs.groups.page_capacity.Given as goal

-- the pages so far fit in the cache
abbrev pub invariant-loop-file : goal.invariant-loop-file
invariant-loop-file l = (l.held ≡ sum_by (λ file. length file.bytes + 256) (take l.file l.fn.snapshot)) × (l.held ≤ l.fn.cache)
