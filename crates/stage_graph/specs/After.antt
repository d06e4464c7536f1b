-- A floor after a history: which items are where, with how many steps done.
use Rattle.std.specs.Prelude.{◌≡◌, ℕ, ◌-◌, ◌<◌, Bool, true, false, List, [], length, map, slice_index_or, Option, Some}
use Rattle.std.specs.Prelude.{None, if◌then◌else◌}
use Rattle.std.specs.Option.{option_map}
use Rattle.stage_graph.specs.Layouts.{Layout, IsPlan, stages, workers, cut_at, cut_before, capacity_at}
use Rattle.stage_graph.specs.Floors.{queue_at, standing, is_legal_from_opening}
use Rattle.stage_graph.specs.declared.event.Event.{Event}

-- An item's number and its steps done, beside a number and the steps that its place asks for.
abbrev pub with_steps : ℕ → ℕ → ℕ × ℕ
with_steps steps number = (number, steps)

-- a queue of this capacity with nothing in it
abbrev pub empty_queue : {X : Type 0} → ℕ → List X × ℕ
empty_queue capacity = ([], capacity)

-- What the slot of a number holds: the number with these steps, where it is full.
abbrev pub slot_mark : ℕ → Bool → ℕ → Option (ℕ × ℕ)
slot_mark steps full number = if full then Some (number, steps) else None

-- the steps that are done after the last stage
abbrev pub last_cut : Layout → ℕ
last_cut p = cut_at p (stages p - 1)

-- The items on a floor, each where its number is in the state: the slots are with the workers, who know the numbers
-- of their items.
pub record Parts (X : Type 0) : Type 0 where
  pub backlog : List X
  pub queues : List (List X × ℕ)
  pub worker_slots : List (Option ℕ)
  pub slots : List (Option X)
  pub returned : List X
  pub stopped : Bool
  pub left : List Bool

abbrev pub items_at : {X : Type 0} → Parts X → ℕ → List X
items_at f k = (slice_index_or f.queues k ([], 0)).0

-- The items on a floor are where its history says, each with the steps of its place: an item in the backlog with
-- none, one in the queue of a stage with those of the stage before, and a done one with those of the last stage.
pub record FloorAfter {X : Type 0} (mark : X → ℕ × ℕ) (p : Layout) (n : ℕ) (history : List Event)
    (f : Parts X) : Type 0 where
  pub plan : IsPlan p
  pub legal : is_legal_from_opening p n history ≡ true
  pub backlog_is : map mark f.backlog ≡ map (with_steps 0) (standing p n history).backlog
  pub stages_are : length f.queues ≡ stages p
  pub queues_are : (k : ℕ) → k < stages p
      → map mark (items_at f k) ≡ map (with_steps (cut_before p k)) (queue_at (standing p n history) k)
  pub capacities_are : (k : ℕ) → k < stages p → (slice_index_or f.queues k ([], 0)).1 ≡ capacity_at p k
  pub worker_slots_are : f.worker_slots ≡ (standing p n history).worker_slots
  pub slots_are : (k : ℕ) → k < n
      → option_map mark (slice_index_or f.slots k None)
      ≡ slot_mark (last_cut p) (slice_index_or (standing p n history).done k false) k
  pub count_is : length f.slots ≡ n
  pub returned_are : map (λ x. (mark x).0) f.returned ≡ (standing p n history).returned
  pub worker_slots_count : length f.worker_slots ≡ workers p
  pub left_count : length f.left ≡ workers p
  pub stopped_is : f.stopped ≡ (standing p n history).stopped
  pub left_are : f.left ≡ (standing p n history).left
