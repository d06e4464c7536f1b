-- That items went through a floor of a plan, in chunks.
use Rattle.std.specs.Prelude.{◌≡◌, ℕ, ◌*◌, ◌<◌, ◌≤◌, List, length, flat_map, true}
use Rattle.std.specs.List.{range_with_len}
use Rattle.stage_graph.specs.Layouts.{Layout, stages, capacity_at, AreChunks}
use Rattle.stage_graph.specs.Floors.{standing, is_legal_from_opening, all_left, all_done, has_stop}
use Rattle.stage_graph.specs.Counts.{KeepsBounds, takes_of, feeds_of, gives_of}
use Rattle.stage_graph.specs.declared.event.Event.{Event}
use Rattle.stage_graph.specs.declared.unrun.Unrun.{Unrun}
use Rattle.stage_graph.specs.declared.unrun.Unrun.TheVariants.{Memory, Stopped}

-- What is known of a floor that was stopped.

-- What is known where there is no run: of a stopped floor, that its history is legal from the opening floor, that all
-- workers left, and that it has a back or the halt.
abbrev pub IsStopped : Layout → ℕ → Unrun → Type 0
IsStopped p n Memory = Unit {0}
IsStopped p n (Stopped h) = (is_legal_from_opening p n h ≡ true) × (all_left (standing p n h) ≡ true)
    × (has_stop h ≡ true) × KeepsBounds p n h

-- The floor of a plan on which items travel in chunks of at most this size: the plan's own steps, stages and workers,
-- and each queue with a capacity for one chunk at least, and for so many that their items are no more than the plan's
-- queue has capacity for.
pub record IsFloorInChunks (plan : Layout) (size : ℕ) (floor : Layout) : Type 0 where
  pub chunk : 0 < size
  pub cuts : floor.cuts ≡ plan.cuts
  pub posts : floor.posts ≡ plan.posts
  pub some : (k : ℕ) → k < stages plan → 0 < capacity_at floor k
  pub fits : (k : ℕ) → k < stages plan → capacity_at floor k * size ≤ capacity_at plan k

-- Chunks that are n items in their order, each in exactly one, none of them empty.
pub record AreChunksOf (size n : ℕ) (chunks : List (List ℕ)) : Type 0 where
  pub in_order : flat_map (λ ns. ns) chunks ≡ range_with_len 0 n
  pub small : AreChunks (λ ns. ns) size chunks

-- A history of so many numbers on a floor: legal from the opening floor, after which all workers have left and every
-- number is done. Each number was fed once, and taken and given once at each stage, and all bounds are kept.
pub record IsWhole (floor : Layout) (count : ℕ) (history : List Event) : Type 0 where
  pub legal : is_legal_from_opening floor count history ≡ true
  pub left : all_left (standing floor count history) ≡ true
  pub done : all_done (standing floor count history) ≡ true
  pub fed : (x : ℕ) → x < count → feeds_of x history ≡ 1
  pub taken : (k x : ℕ) → k < stages floor → x < count → takes_of floor k x history ≡ 1
  pub given : (k x : ℕ) → k < stages floor → x < count → gives_of floor k x history ≡ 1
  pub bounds : KeepsBounds floor count history

-- All n items went through the floor of a plan in chunks, each chunk as one number of the history.
pub record HasGoneThrough (plan : Layout) (n : ℕ) (history : List Event) : Type 0 where
  pub size : ℕ
  pub floor : Layout
  pub chunks : List (List ℕ)
  pub laid : IsFloorInChunks plan size floor
  pub are : AreChunksOf size n chunks
  pub whole : IsWhole floor (length chunks) history

-- The floor of a plan on which n items travelled in chunks was stopped.
pub record WasStoppedInChunks (plan : Layout) (n : ℕ) (unrun : Unrun) : Type 0 where
  pub size : ℕ
  pub floor : Layout
  pub chunks : List (List ℕ)
  pub laid : IsFloorInChunks plan size floor
  pub are : AreChunksOf size n chunks
  pub stopped : IsStopped floor (length chunks) unrun

-- What is known where there is no run: of a stopped floor, that it was that of the plan in chunks of the items.
abbrev pub IsStoppedInChunks : Layout → ℕ → Unrun → Type 0
IsStoppedInChunks plan n Memory = Unit {0}
IsStoppedInChunks plan n (Stopped history) = WasStoppedInChunks plan n (Stopped history)
