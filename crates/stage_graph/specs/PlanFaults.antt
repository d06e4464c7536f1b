-- The first fault of a plan's lists.
use Rattle.std.specs.Prelude.{◌≡◌, ℕ, ◌&&◌, List, length, nat_eq, Option, Some, None, Result, Ok, Err, if◌then◌else◌}
use Rattle.stage_graph.specs.Layouts.{Layout, is_rising, are_within}
use Rattle.stage_graph.specs.Floors.{is_nil}
use Rattle.stage_graph.specs.declared.plan.PlanFault.{PlanFault}
use Rattle.stage_graph.specs.declared.plan.PlanFault.TheVariants.{Empty, Order, Workers, Capacity, Memory}

-- The first fault of a plan's lists, if there is one: there is a cut; the cuts rise strictly from at least 1; there
-- are as many numbers of workers, each from 1 to 16, and as many capacities, each from 1 to 4,096.
abbrev pub plan_fault : List ℕ → List ℕ → List ℕ → Option PlanFault
plan_fault cuts worker_counts capacities =
    if is_nil cuts then Some Empty
    else (if is_rising 0 cuts
    then (if nat_eq (length worker_counts) (length cuts) && are_within 16 worker_counts
    then (if nat_eq (length capacities) (length cuts) && are_within 4096 capacities then None else Some Capacity)
    else Some Workers)
    else Some Order)

-- an answer names the fault, or out of memory where there is none
abbrev pub AnswersFault : Option PlanFault → Result Layout PlanFault → Type 0
AnswersFault fault (Ok p) = fault ≡ None
AnswersFault fault (Err Empty) = fault ≡ Some Empty
AnswersFault fault (Err Order) = fault ≡ Some Order
AnswersFault fault (Err Workers) = fault ≡ Some Workers
AnswersFault fault (Err Capacity) = fault ≡ Some Capacity
AnswersFault fault (Err Memory) = fault ≡ None
