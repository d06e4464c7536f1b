-- Items that travel in chunks.
use Rattle.std.proofs.Common.{◌≡◌, ℕ, ◌+◌, ◌*◌, ◌<◌, ◌≤◌, List, ◌∷◌, refl, ap, ◌∙◌, arith, length, slice_index, subst}
use Rattle.stage_graph.specs.Layouts.{Layout, IsPlan, HasCapacity, stages, capacity_at, IsChunkSize}
use Rattle.stage_graph.specs.Through.{IsStopped, IsFloorInChunks, AreChunksOf, IsWhole, HasGoneThrough, IsStoppedInChunks}
use Rattle.stage_graph.specs.declared.event.Event.{Event}
use Rattle.stage_graph.specs.declared.unrun.Unrun.{Unrun}
use Rattle.stage_graph.specs.declared.unrun.Unrun.TheVariants.{Memory, Stopped}

-- there are some chunks, and they have no more items than the capacity
pub record FitIn (size capacity chunks : ℕ) : Type 0 where
  pub some : 0 < chunks
  pub fits : chunks * size ≤ capacity

-- a plan with queues of other capacities
pub resized : (p : Layout) (capacities : List ℕ) → IsPlan p → length capacities ≡ stages p → IsPlan (record { cuts = p.cuts; posts = p.posts; capacities = capacities })
resized p capacities h e = record {
  some = h.some;
  capacities = e;
  posted = h.posted;
  manned = h.manned;
  bounded = h.bounded;
  rising = h.rising;
}

-- a queue of the plan has capacity for a chunk
pub chunk_fits : (p : Layout) (size k : ℕ) (xs : List ℕ) → xs ≡ p.capacities → IsPlan p → IsChunkSize p size → k < length xs → (0 < size) × (size ≤ slice_index xs k)
chunk_fits p size k xs same plan fit below =
    let long = ap length same in
    let all = plan.capacities in
    (fit.some, rw same (fit.fits k (omega (arith, long, all, below))))

-- the plan whose queues have capacity for as many chunks as fit
pub laid_in_chunks : (p : Layout) (size : ℕ) (xs capacities : List ℕ) → xs ≡ p.capacities → IsPlan p → 0 < size → length capacities ≡ length xs
    → ((k : ℕ) → k < length xs → FitIn size (slice_index xs k) (slice_index capacities k))
    → (IsPlan (record { cuts = p.cuts; posts = p.posts; capacities = capacities }) × HasCapacity (record { cuts = p.cuts; posts = p.posts; capacities = capacities }))
    × IsFloorInChunks p size (record { cuts = p.cuts; posts = p.posts; capacities = capacities })
laid_in_chunks p size xs capacities same plan some long fits =
    let all : length xs ≡ stages p = ap length same ∙ plan.capacities in
    let fit : (k : ℕ) → k < stages p → FitIn size (capacity_at p k) (slice_index capacities k) = λ k below. rw same at (fits k (omega (arith, all, below))) in (
      (resized p capacities plan (long ∙ all), λ k below. (fit k below).some),
      record {
        chunk = some;
        cuts = refl;
        posts = refl;
        some = λ k below. (fit k below).some;
        fits = λ k below. (fit k below).fits;
      },
    )

pub length-more : {X : Type 0} (xs ys : List X) (x : X) → xs ≡ x ∷ ys → length xs ≡ length ys + 1
length-more xs ys x e = rw e (omega arith)

pub gone_through : (p floor : Layout) (size n count : ℕ) (chunks : List (List ℕ)) (h : List Event) → IsFloorInChunks p size floor → AreChunksOf size n chunks
    → count ≡ length chunks → IsWhole floor count h → HasGoneThrough p n h
gone_through p floor size n count chunks h laid are long whole = record {
  size = size;
  floor = floor;
  chunks = chunks;
  laid = laid;
  are = are;
  whole = let P : ℕ → Type 0 = λ m. IsWhole floor m h in subst P long whole;
}

pub stopped_in_chunks : (p floor : Layout) (size n count : ℕ) (chunks : List (List ℕ)) (u : Unrun) → IsFloorInChunks p size floor → AreChunksOf size n chunks
    → count ≡ length chunks → IsStopped floor count u → IsStoppedInChunks p n u
stopped_in_chunks p floor size n count chunks Memory laid are long is = tt
stopped_in_chunks p floor size n count chunks (Stopped h) laid are long is = record {
  size = size;
  floor = floor;
  chunks = chunks;
  laid = laid;
  are = are;
  stopped = let P : ℕ → Type 0 = λ m. IsStopped floor m (Stopped h) in subst P long is;
}
