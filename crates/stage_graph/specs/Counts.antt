-- How often an item is fed, taken and given in a history, and how long a history may be.
use Rattle.std.specs.Prelude.{ℕ, ◌<◌, ◌≤◌, List, length, take, nat_eq, if◌then◌else◌, ◌+◌, Option, Some, None}
use Rattle.std.specs.Prelude.{slice_index_or, false}
use Rattle.stage_graph.specs.Floors.{most_events, queue_at, standing, State}
use Rattle.std.specs.List.{sum_by}
use Rattle.stage_graph.specs.Layouts.{Layout, stages, stage_at, capacity_at}
use Rattle.stage_graph.specs.declared.event.Event.{Event}
use Rattle.stage_graph.specs.declared.event.Event.TheVariants.{Feed, Take, Give, Back, Leave, Halt}

-- Where each number is: in the backlog, a queue, a slot, the done set or the returned list.

abbrev pub one_at : ℕ → ℕ → ℕ
one_at x y = if nat_eq x y then 1 else 0

-- how often a number is in a list
abbrev pub times_in : ℕ → List ℕ → ℕ
times_in x ns = sum_by (one_at x) ns

abbrev pub times_in_worker_slot : ℕ → Option ℕ → ℕ
times_in_worker_slot x None = 0
times_in_worker_slot x (Some n) = one_at x n

-- At how many places of a floor a number is: in the backlog, in the queues, in the slots, in the done set and in the
-- returned list, all counted together.
abbrev pub places_of : State → ℕ → ℕ
places_of s x =
    times_in x s.backlog + sum_by (times_in x) s.queues + sum_by (times_in_worker_slot x) s.worker_slots
    + (if slice_index_or s.done x false then 1 else 0) + times_in x s.returned

-- 1 for a take of the number x by a worker of stage k, and 0 for any other event
abbrev pub is_take : Layout → ℕ → ℕ → Event → ℕ
is_take p k x (Feed n) = 0
is_take p k x (Take w n) = if nat_eq (stage_at p w) k then one_at x n else 0
is_take p k x (Give w n) = 0
is_take p k x (Back w n) = 0
is_take p k x (Leave w) = 0
is_take p k x Halt = 0

-- how often a number is taken by workers of stage k
abbrev pub takes_of : Layout → ℕ → ℕ → List Event → ℕ
takes_of p k x h = sum_by (is_take p k x) h

-- 1 for a feed of the number x
abbrev pub is_feed : ℕ → Event → ℕ
is_feed x (Feed n) = one_at x n
is_feed x (Take w n) = 0
is_feed x (Give w n) = 0
is_feed x (Back w n) = 0
is_feed x (Leave w) = 0
is_feed x Halt = 0

-- how often a number is fed
abbrev pub feeds_of : ℕ → List Event → ℕ
feeds_of x h = sum_by (is_feed x) h

-- 1 for a give of the number x by a worker of stage k
abbrev pub is_give : Layout → ℕ → ℕ → Event → ℕ
is_give p k x (Feed n) = 0
is_give p k x (Take w n) = 0
is_give p k x (Give w n) = if nat_eq (stage_at p w) k then one_at x n else 0
is_give p k x (Back w n) = 0
is_give p k x (Leave w) = 0
is_give p k x Halt = 0

-- how often a number is given by workers of stage k
abbrev pub gives_of : Layout → ℕ → ℕ → List Event → ℕ
gives_of p k x h = sum_by (is_give p k x) h

-- What bounds a history: no number is fed twice, nor taken or given twice at one stage; there are at most the most
-- events; and in every state that the history went through, no queue held more than its capacity.
pub record KeepsBounds (p : Layout) (n : ℕ) (h : List Event) : Type 0 where
  pub fed : (x : ℕ) → x < n → feeds_of x h ≤ 1
  pub taken : (k x : ℕ) → x < n → takes_of p k x h ≤ 1
  pub given : (k x : ℕ) → x < n → gives_of p k x h ≤ 1
  pub short : length h ≤ most_events p n
  pub queues : (m k : ℕ) → k < stages p → length (queue_at (standing p n (take m h)) k) ≤ capacity_at p k
