-- How the messages of a batch are laid in parts.
use Rattle.std.specs.Prelude.{◌≡◌, ℕ, ◌+◌, ◌<◌, ◌≤◌, ◌⊎◌, List, [], ◌∷◌, ◌++◌, length, map, flat_map, All}
use Rattle.arrivals.specs.declared.incoming.Incoming.{Incoming}
use Rattle.arrivals.specs.declared.incoming.PieceMessages.{PieceMessages}

-- the messages that end in a piece, with where they came from
abbrev pub incoming_from : PieceMessages → List Incoming
incoming_from piece = map (λ m. record { origin = piece.origin; what = m.what }) piece.messages

abbrev pub joined : List (List Incoming) → List Incoming
joined parts = flat_map (λ part. part) parts

-- so many messages are enough for a part
abbrev pub enough_messages : ℕ
enough_messages = 4096

-- it is laid after the others where it has enough, and nothing is left of it then
abbrev pub Lays : List (List Incoming) → List Incoming → List (List Incoming) → List Incoming → Type 0
Lays old part new rest = ((length part < enough_messages) × (new ≡ old) × (rest ≡ part))
    ⊎ ((enough_messages ≤ length part) × (new ≡ old ++ part ∷ []) × (rest ≡ []))

-- The parts of a batch: each but the last has enough messages, which the last hasn't; without those of its last piece
-- none has enough.
pub record AreParts (pieces : List PieceMessages) (parts : List (List Incoming)) : Type 0 where
  pub whole : List (List Incoming)
  pub last : List Incoming
  pub is : parts ≡ whole ++ last ∷ []
  pub short : length last < enough_messages
  pub long : All (λ part. enough_messages ≤ length part) whole
  pub most : (n : ℕ) → All (λ piece. length piece.messages ≤ n) pieces
      → All (λ part. length part < enough_messages + n) whole
