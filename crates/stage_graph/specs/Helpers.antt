-- Floors that helper threads move, and their chunks.
use Rattle.std.specs.Prelude.{ℕ, ◌<◌, ◌≤◌, List}
use Rattle.std.specs.List.{All}
use Rattle.stage_graph.specs.Layouts.{Layout}
use Rattle.stage_graph.specs.declared.event.Event.{Event}

-- A floor: its plan, how many items are on it, and what has happened so far.
pub record FloorRecord : Type 0 where
  pub plan : Layout
  pub count : ℕ
  pub history : List Event

-- each chunk has an item, and at most so many
abbrev pub AreSized : {L : Type 0} → (L → ℕ) → ℕ → List L → Type 0
AreSized count size chunks = All (λ l. (0 < count l) × (count l ≤ size)) chunks
