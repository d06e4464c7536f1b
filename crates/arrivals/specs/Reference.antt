-- What a reader has to believe: the definitions of this crate that the headline stands on, in reading order.
use Rattle.std.specs.Prelude.{◌≡◌, ℕ, ◌+◌, ◌<◌, ◌≤◌, ◌==◌, ◌⊎◌, List, [], length, take, map, filter, flat_map, All}
use Rattle.std.specs.Prelude.{Some, slice_get, if◌then◌else◌}
use Rattle.std.specs.List.{AllPairs}
use Rattle.captures.specs.declared.record.Record.{Record}
use Rattle.captures.specs.declared.record.Record.TheVariants.{Piece, End, Tier}
use Rattle.captures.specs.Reference.{named_by, tier_of}
use Rattle.http_requests.specs.declared.messages.Message.{Message}
use Rattle.http_requests.specs.Reference.{MessagesOf}
use Rattle.arrivals.specs.declared.incoming.Origin.{Origin}

-- The messages that arrive with records whose connections have numbers that are used once, in the order of their
-- arrival.

-- the bytes that a record brings to a connection
abbrev pub bytes_to : ℕ → Record → List ℕ
bytes_to c (Piece tick conn bytes) = if conn == c then bytes else []
bytes_to c (End tick conn) = []
bytes_to c (Tier conn tier) = []

-- the text of a connection: its pieces, joined
abbrev pub text_of : ℕ → List Record → List ℕ
text_of c records = flat_map (bytes_to c) records

-- a message, where it came from (the number that named its connection, its tick and its tier), its connection, and the
-- place of the record that it arrived with, counted from 0
pub record Arrival : Type 0 where
  pub origin : Origin
  pub connection : ℕ
  pub place : ℕ
  pub message : Message

-- the messages of one connection
abbrev pub messages_of : ℕ → List Arrival → List Message
messages_of c arrivals = map (λ a. a.message) (filter (λ a. a.connection == c) arrivals)

-- the message arrived with the piece that holds its last byte, in the tier that its connection had there
pub record ArrivesWith (records : List Record) (a : Arrival) : Type 0 where
  pub bytes : List ℕ
  pub piece : slice_get records a.place ≡ Some (Piece a.origin.tick a.connection bytes)
  pub number : a.origin.conn ≡ named_by a.connection
  pub tier : a.origin.tier ≡ tier_of a.connection (take a.place records)
  pub after : length (text_of a.connection (take a.place records)) < a.message.end
  pub within : a.message.end ≤ length (text_of a.connection (take a.place records)) + length bytes

-- the first arrives before the second: with an earlier record, or earlier in the same
abbrev pub Precedes : Arrival → Arrival → Type 0
Precedes a b = (a.place < b.place) ⊎ ((a.place ≡ b.place) × (a.message.end < b.message.end))

-- The arrivals of these records: the messages of each connection's text, each with the piece that holds its last byte,
-- in the order of their pieces and of their places in a piece.
pub record AreArrivals (records : List Record) (arrivals : List Arrival) : Type 0 where
  pub each : (c : ℕ) → MessagesOf (text_of c records) (messages_of c arrivals)
  pub with : All (ArrivesWith records) arrivals
  pub order : AllPairs Precedes arrivals
