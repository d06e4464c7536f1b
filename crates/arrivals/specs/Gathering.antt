-- How records are taken in their order, and which messages arrive with them.
use Rattle.std.specs.Prelude.{◌≡◌, ℕ, ◌≤◌, Bool, true, false, List, ◌++◌, map, flat_map, All}
use Rattle.captures.specs.declared.record.Record.{Record}
use Rattle.captures.specs.Captures.{sizes_of}
use Rattle.captures.specs.CaptureFaults.{longest_text}
use Rattle.captures.specs.Reference.{used_once}
use Rattle.http_requests.specs.Alone.{CutAlone, IsBetween, shifted}
use Rattle.http_requests.specs.declared.cutting.PieceEnd.{PieceEnd}
use Rattle.http_requests.specs.declared.messages.Message.{Message}
use Rattle.arrivals.specs.Reference.{Arrival, AreArrivals}
use Rattle.arrivals.specs.Ahead.{IsAllowed}
use Rattle.arrivals.specs.Batches.{Reads}
use Rattle.arrivals.specs.Connections.{HaveRead, AreTiers}
use Rattle.arrivals.specs.Parts.{incoming_from}
use Rattle.arrivals.specs.declared.incoming.Incoming.{Incoming}
use Rattle.arrivals.specs.declared.incoming.PieceMessages.{PieceMessages}
use Rattle.arrivals.specs.declared.connections.Connection.{Connection}
use Rattle.arrivals.specs.declared.connections.Connection.TheVariants.{Silent, Open, Closed}

-- the connection reads a piece, and these messages end in it, wherever in the text they end
abbrev pub Brings : Connection → List ℕ → List Message → Connection → Type 0
Brings before piece own after = (ms : List Message) × (map (λ m. m.what) own ≡ map (λ m. m.what) ms)
    × Reads before piece ms after

-- how many bytes of its text an open connection has read
abbrev pub read_of : Connection → ℕ
read_of Silent = 0
read_of (Open cutter) = cutter.read
read_of Closed = 0

-- the connection stands between two messages, and nothing of the next came yet
abbrev pub StandsBetween : Connection → Type 0
StandsBetween Silent = Unit {0}
StandsBetween (Open cutter) = IsBetween cutter
StandsBetween Closed = ⊥

-- Whether the connection takes a piece that ends so, cut by itself: then the messages that were cut of it end in it.
-- Else the connection stays.
pub record Accepts (before : Connection) (piece : List ℕ) (end : PieceEnd) (taken : Bool)
    (after : Connection) : Type 0 where
  pub gives : taken ≡ true → (ms : List Message) → CutAlone piece ms end
      → Reads before piece (shifted (read_of before) ms) after
  pub left : taken ≡ false → after ≡ before

-- what an arrival brings: its message, and where that came from
abbrev pub incoming_of : Arrival → Incoming
incoming_of a = record { origin = a.origin; what = a.message.what }

-- These records were read, these are their arrivals, and each connection and tier stands so after them; the next
-- records may be taken.
pub record MayGather (records rs : List Record) (arrivals : List Arrival) (connections : List Connection)
    (tiers : List ℕ) : Type 0 where
  pub reads : HaveRead records arrivals connections
  pub arrived : AreArrivals (used_once records) arrivals
  pub tiers_are : AreTiers records tiers
  pub small : sizes_of (records ++ rs) ≤ longest_text
  pub allowed : All IsAllowed rs

-- The next records were taken as well: these messages end in their pieces, and each connection and tier stands so.
pub record Gathers (records rs : List Record) (arrivals : List Arrival) (connections : List Connection)
    (tiers : List ℕ) (pieces : List PieceMessages) : Type 0 where
  pub more : List Arrival
  pub reads : HaveRead (records ++ rs) (arrivals ++ more) connections
  pub arrived : AreArrivals (used_once (records ++ rs)) (arrivals ++ more)
  pub tiers_are : AreTiers (records ++ rs) tiers
  pub are : map incoming_of more ≡ flat_map incoming_from pieces

-- the same, where the pieces come after others
abbrev pub GathersMore : List Record → List Record → List Arrival → List Connection → List ℕ → List PieceMessages
    → List PieceMessages → Type 0
GathersMore records rs arrivals connections tiers old new = (pieces : List PieceMessages) × (new ≡ old ++ pieces)
    × Gathers records rs arrivals connections tiers pieces
