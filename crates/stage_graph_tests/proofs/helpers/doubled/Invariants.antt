use Rattle.std.proofs.Common.{◌≡◌, ◌+◌, ◌*◌, ◌%◌, ◌^◌, ◌≤◌, map, take, length, vec_len, vec_capacity}
use Rattle.stage_graph_tests.proofs.helpers.doubled.Given as goal

abbrev pub invariant-loop-x : goal.invariant-loop-x
invariant-loop-x l = (l.new.items ≡ map (λ x. (x * 2 + l.more) % 2 ^ 64) (take l.x-index l.all)) × (vec_len l.new ≡ l.x-index) × (length l.all ≤ vec_capacity l.new)
