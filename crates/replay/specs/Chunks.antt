-- Chunks of messages on the floors: what a chunk is seen as, and what a step does to it.
use Rattle.std.specs.Prelude.{◌≡◌, ℕ, ◌+◌, List, length, map, flat_map}
use Rattle.paths.specs.declared.file.File.{File}
use Rattle.paths.specs.declared.snapshot.Tree.{Ghosts}
use Rattle.cost_model.specs.Reference.{Tariff}
use Rattle.replay.specs.Fronts.{floor_step, seen_as}
use Rattle.replay.specs.Backs.{back_step, elsewhere}
use Rattle.replay.specs.declared.lookup.LookedUp.{LookedUp}
use Rattle.replay.specs.declared.back.BackState.{BackState}
use Rattle.replay.specs.declared.back.Unnamed.{Unnamed}
use Rattle.replay.specs.declared.chunks.ChunkValue.{ChunkValue}
use Rattle.replay.specs.declared.chunks.Chunk.{Chunk}
use Rattle.replay.specs.declared.chunks.Seen.{Seen}
use Rattle.replay.specs.declared.chunks.Decided.{Decided}

-- a step is done to each message of a chunk
abbrev pub chunk_step : List File → Tariff → ℕ → ChunkValue → ChunkValue
chunk_step files tariff k v = record {
  front = map (floor_step files tariff k) v.front;
  back = map (back_step files k) v.back;
}

-- the messages of some chunks on the front floor, in order
abbrev pub fronts_of : List ChunkValue → List LookedUp
fronts_of chunks = flat_map (λ v. v.front) chunks

-- those of some chunks on the back floor
abbrev pub backs_of : List ChunkValue → List (BackState Unnamed)
backs_of chunks = flat_map (λ v. v.back) chunks

-- how many messages are in a chunk
abbrev pub chunk_len : {X : Type 0} {F : Ghosts X} → Chunk X F → ℕ
chunk_len chunk = length chunk.front.items + length chunk.back.items

-- the messages of some chunks before they are decided on, and behind that, in order
abbrev pub seen_in : {X : Type 0} {F : Ghosts X} → List (Chunk X F) → List (Seen X F)
seen_in chunks = flat_map (λ chunk. chunk.front.items) chunks

abbrev pub decided_in : {X : Type 0} {F : Ghosts X} → List (Chunk X F) → List (Decided X F)
decided_in chunks = flat_map (λ chunk. chunk.back.items) chunks

-- a message, with what is known of it
abbrev pub seen_value : {X : Type 0} {F : Ghosts X} → List File → Seen X F → LookedUp
seen_value files x = record { message = x.message; lookup = seen_as files x.lookup }

-- a reply on its way, apart from its pages
abbrev pub decided_value : {X : Type 0} {F : Ghosts X} → Decided X F → BackState Unnamed
decided_value x = elsewhere x.state

-- what a chunk is seen as: each message with what is known of it, each reply apart from its pages
abbrev pub chunk_value : {X : Type 0} {F : Ghosts X} → List File → Chunk X F → ChunkValue
chunk_value files chunk = record {
  front = map (seen_value files) chunk.front.items;
  back = map decided_value chunk.back.items;
}

-- steps on chunks that are those of both floors
abbrev pub AreFloorSteps : {X : Type 0} {F : Ghosts X} → List File → Tariff → (ℕ → ChunkValue → ChunkValue)
    → (Chunk X F → ChunkValue) → (Chunk X F → ℕ) → Type 0
AreFloorSteps files tariff step content count =
    (step ≡ chunk_step files tariff) × (content ≡ chunk_value files) × (count ≡ chunk_len)
