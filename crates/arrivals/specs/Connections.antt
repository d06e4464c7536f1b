-- What is kept of the connections between two records.
use Rattle.std.specs.Prelude.{◌≡◌, ℕ, ◌+◌, ◌<◌, ◌≤◌, ◌⊎◌, Bool, List, [], ◌++◌, length, map, slice_index_or, All, ◌==◌}
use Rattle.std.specs.Prelude.{if◌then◌else◌}
use Rattle.std.specs.List.{list_any}
use Rattle.captures.specs.Reference.{connection_now, connection_of, tier_of, used_once}
use Rattle.captures.specs.declared.record.Record.{Record}
use Rattle.http_requests.specs.declared.messages.Message.{Message}
use Rattle.http_requests.specs.Reference.{MessagesOf, closes}
use Rattle.http_requests.specs.Cutting.{CutterAfter, EndBetween, FedSome, max_text_bytes}
use Rattle.arrivals.specs.Reference.{Arrival, text_of, messages_of}
use Rattle.arrivals.specs.declared.incoming.Origin.{Origin}
use Rattle.arrivals.specs.declared.connections.Connection.{Connection}
use Rattle.arrivals.specs.declared.connections.Connection.TheVariants.{Silent, Open, Closed}

-- the connection has read this text, whose messages are these; those of a closed one stay, whatever follows
abbrev pub HasRead : Connection → List ℕ → List Message → Type 0
HasRead Silent text ms = (text ≡ []) × (ms ≡ [])
HasRead (Open cutter) text ms = CutterAfter text ms cutter
HasRead Closed text ms = (more : List ℕ) → MessagesOf (text ++ more) ms

-- the connection may read n bytes more
abbrev pub HasCapacity : Connection → ℕ → Type 0
HasCapacity Silent n = n ≤ max_text_bytes
HasCapacity (Open cutter) n = cutter.read + n ≤ max_text_bytes
HasCapacity Closed n = Unit {0}

-- some message closes the connection
abbrev pub some_closes : List Message → Bool
some_closes ms = list_any (λ m. closes m.what) ms

-- one more piece was read: these are the messages that end in it
pub record ReadMore (text : List ℕ) (ms : List Message) (after : Connection) (piece : List ℕ)
    (more : List Message) : Type 0 where
  pub has : HasRead after (text ++ piece) (ms ++ more)
  pub in_piece : EndBetween (length text) (length text + length piece) more

-- memory ran out in a piece: these are the first of the messages that end in it
abbrev pub ReadSome : Connection → List ℕ → List Message → Type 0
ReadSome before piece more = (text : List ℕ) (ms : List Message) → HasRead before text ms
    → FedSome text ms piece [] more

-- it ran out before the connection was asked, or in the piece: then the connection reads nothing any more
abbrev pub LacksAt : Connection → Connection → List ℕ → List Message → Type 0
LacksAt before after piece more = ((after ≡ before) × (more ≡ [])) ⊎ ((after ≡ Closed) × ReadSome before piece more)

-- the connection of a number, silent where none is kept
abbrev pub connection_at : List Connection → ℕ → Connection
connection_at connections c = slice_index_or connections c Silent

-- the text, the messages and the tier of the connection that a number names after these records
abbrev pub text_now : ℕ → List Record → List ℕ
text_now c records = text_of (connection_now c records) (used_once records)

abbrev pub messages_now : ℕ → List Record → List Arrival → List Message
messages_now c records arrivals = messages_of (connection_now c records) arrivals

abbrev pub tier_now : ℕ → List Record → ℕ
tier_now c records = tier_of (connection_now c records) (used_once records)

-- a number of 16 bits; the records have such
abbrev pub IsNumber : ℕ → Type 0
IsNumber c = c < 65536

abbrev pub HaveNumbers : List Record → Type 0
HaveNumbers records = All (λ r. IsNumber (connection_of r)) records

-- each connection that a number names has read its text of these records
abbrev pub HaveReadSo : List Record → List Arrival → (ℕ → Connection) → Type 0
HaveReadSo records arrivals at = (c : ℕ) → IsNumber c
    → HasRead (at c) (text_now c records) (messages_now c records arrivals)

pub record HaveRead (records : List Record) (arrivals : List Arrival) (connections : List Connection) : Type 0 where
  pub each : HaveReadSo records arrivals (connection_at connections)

-- the arrivals of these messages of a connection with the piece at this place
abbrev pub arrivals_with : ℕ → ℕ → Origin → List Message → List Arrival
arrivals_with place c origin ms = map (λ m. record { origin = origin; connection = c; place = place; message = m }) ms

-- What is kept of the tiers of the connections, while records are read.

-- the tier of a number's connection, 0 where none is kept
abbrev pub tier_at : List ℕ → ℕ → ℕ
tier_at tiers c = slice_index_or tiers c 0

-- the tiers, once the connection of a number was given one
abbrev pub with_tier : ℕ → ℕ → (ℕ → ℕ) → ℕ → ℕ
with_tier conn tier tiers c = if conn == c then tier else tiers c

-- the connections that numbers name have the tiers that these records give
pub record AreTiers (records : List Record) (tiers : List ℕ) : Type 0 where
  pub numbers : HaveNumbers records
  pub each : (c : ℕ) → IsNumber c → tier_at tiers c ≡ tier_now c records
