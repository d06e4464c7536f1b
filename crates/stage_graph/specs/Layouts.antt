-- The layout of a plan: stages with their cuts, workers and capacities.
use Rattle.std.specs.Prelude.{◌≡◌, ℕ, ◌+◌, ◌-◌, ◌<◌, ◌≤◌, Bool, List, [], ◌∷◌, length, slice_index, nat_eq, nat_lt}
use Rattle.std.specs.Prelude.{if◌then◌else◌, true, ◌&&◌, ◌++◌, replicate, nat_le}
use Rattle.std.specs.List.{list_all, All}
use Rattle.std.proofs.Common.{suc}

-- A plan: how many steps are done where each stage ends, the stage of each worker, and the capacity of each queue.
pub record Layout : Type 0 where
  pub cuts : List ℕ
  pub posts : List ℕ
  pub capacities : List ℕ

abbrev pub no_layout : Layout
no_layout = record { cuts = []; posts = []; capacities = [] }

abbrev pub stages : Layout → ℕ
stages p = length p.cuts

abbrev pub workers : Layout → ℕ
workers p = length p.posts

-- the stage of a worker
abbrev pub stage_at : Layout → ℕ → ℕ
stage_at p w = slice_index p.posts w

-- the steps that are done where stage k ends
abbrev pub cut_at : Layout → ℕ → ℕ
cut_at p k = slice_index p.cuts k

-- the steps that are done before stage k
abbrev pub cut_before : Layout → ℕ → ℕ
cut_before p k = if nat_eq k 0 then 0 else cut_at p (k - 1)

abbrev pub capacity_at : Layout → ℕ → ℕ
capacity_at p k = slice_index p.capacities k

-- each queue has capacity for an item at least
abbrev pub HasCapacity : Layout → Type 0
HasCapacity p = (k : ℕ) → k < stages p → 0 < capacity_at p k

-- whether k is the last stage
abbrev pub is_last : Layout → ℕ → Bool
is_last p k = nat_eq (k + 1) (stages p)

-- The stage of each worker, where stage k, k + 1, .. have n. Workers are numbered through the stages.
abbrev pub posts_of : ℕ → List ℕ → List ℕ
posts_of k [] = []
posts_of k (w ∷ ws) = replicate w k ++ posts_of (suc k) ws

abbrev pub layout_of : List ℕ → List ℕ → List ℕ → Layout
layout_of cuts worker_counts capacities =
    record { cuts = cuts; posts = posts_of 0 worker_counts; capacities = capacities }

-- strictly rising numbers above a
abbrev pub is_rising : ℕ → List ℕ → Bool
is_rising a [] = true
is_rising a (c ∷ cs) = nat_lt a c && is_rising c cs

-- numbers from 1 to a limit
abbrev pub are_within : ℕ → List ℕ → Bool
are_within limit xs = list_all (λ x. nat_lt 0 x && nat_le x limit) xs

-- What holds of every plan.
pub record IsPlan (p : Layout) : Type 0 where
  pub some : 0 < stages p
  pub capacities : length p.capacities ≡ stages p
  pub posted : (w : ℕ) → w < workers p → stage_at p w < stages p
  pub manned : (k : ℕ) → k < stages p → (w : ℕ) × (w < workers p) × (stage_at p w ≡ k)
  pub bounded : (k : ℕ) → k < stages p → cut_at p k ≤ cut_at p (stages p - 1)
  pub rising : (k : ℕ) → k < stages p → cut_before p k < cut_at p k

-- Items that are to be carried through a floor, in chunks.

-- the most items in a chunk: one at least, and no more than the queue of each stage has capacity for
pub record IsChunkSize (plan : Layout) (size : ℕ) : Type 0 where
  pub some : 0 < size
  pub fits : (k : ℕ) → k < stages plan → size ≤ capacity_at plan k

-- a chunk has an item, and at most so many
abbrev pub IsChunk : {X : Type 0} → ℕ → List X → Type 0
IsChunk size xs = (0 < length xs) × (length xs ≤ size)

-- each of these lists is a chunk
abbrev pub AreChunks : {L X : Type 0} → (L → List X) → ℕ → List L → Type 0
AreChunks items size chunks = All (λ l. IsChunk size (items l)) chunks
