-- How a batch of records is read, and what its pieces bring to their connections.
use Rattle.std.specs.Prelude.{◌≡◌, ℕ, ◌+◌, ◌<◌, ◌≤◌, ◌⊎◌, List, [], ◌∷◌, ◌++◌, Option, None, Ok, Err, sum_by}
use Rattle.captures.specs.declared.record.Record.{Record}
use Rattle.captures.specs.declared.record.Record.TheVariants.{Piece, End as Ends, Tier}
use Rattle.captures.specs.declared.progress.Progress.{Progress}
use Rattle.captures.specs.declared.version.Version.{Version}
use Rattle.captures.specs.Reference.{max_piece_bytes, used_once}
use Rattle.captures.specs.Captures.{sizes_of}
use Rattle.captures.specs.CaptureFaults.{failures_of}
use Rattle.captures.specs.Readers.{ReaderAfter, Gave, FailsNext}
use Rattle.http_requests.specs.declared.messages.Message.{Message}
use Rattle.arrivals.specs.Reference.{Arrival, AreArrivals}
use Rattle.arrivals.specs.Connections.{HasRead, ReadMore, HaveReadSo, tier_now}
use Rattle.arrivals.specs.declared.connections.Connection.{Connection}
use Rattle.arrivals.specs.declared.incoming.Origin.{Origin}
use Rattle.arrivals.specs.declared.batch.Ending.{Ending}
use Rattle.arrivals.specs.declared.batch.Ending.TheVariants.{More, End, Fault}

-- the connection reads a piece, these messages end in it, and it stands so after it
abbrev pub Reads : Connection → List ℕ → List Message → Connection → Type 0
Reads before piece more after = (text : List ℕ) (ms : List Message) → HasRead before text ms
    → ReadMore text ms after piece more

-- where a piece of this number comes from, after these records
abbrev pub origin_now : ℕ → ℕ → List Record → Origin
origin_now conn tick records = record { conn = conn; tick = tick; tier = tier_now conn records }

-- each number's connection has read its text of these records, and these are the arrivals
pub record Stand (records : List Record) (came : List Arrival) (at : ℕ → Connection) : Type 0 where
  pub each : HaveReadSo records came at
  pub arrived : AreArrivals (used_once records) came

-- Memory ran out: the reader gave some records, and a last one.
abbrev pub LosesOne : Progress → Option (List ℕ) → Progress → Option (List ℕ) → Type 0
LosesOne p ahead p_new ahead_new = (rs : List Record) × (lost : Record)
    × ((v : Version) (text : Option (List ℕ)) (start : ℕ) (records : List Record)
    → ReaderAfter v text start records p ahead → ReaderAfter v text start (records ++ rs ++ lost ∷ []) p_new ahead_new)

-- the reader has given these records, and after them what the ending says
abbrev pub EndsWith : Version → Option (List ℕ) → ℕ → List Record → Ending → Progress → Option (List ℕ) → Type 0
EndsWith v text start records More p now = ReaderAfter v text start records p now
EndsWith v text start records End p now = Gave v text start records (Ok None) p now
EndsWith v text start records (Fault f) p now =
    Gave v text start records (Err f) p now × FailsNext v text start records (Err f) now

pub record ReadOn (v : Version) (text : Option (List ℕ)) (start : ℕ) (records : List Record) (ending : Ending)
    (p : Progress)
    (now : Option (List ℕ)) : Type 0 where
  pub progress : Progress
  pub ahead : Option (List ℕ)
  pub fits : ReaderAfter v text start records progress ahead
  pub ends : EndsWith v text start records ending p now

-- how often the reader failed
abbrev pub CountsEnding : ℕ → ℕ → Ending → Type 0
CountsEnding old new (Fault f) = new ≡ old + failures_of f.kind
CountsEnding old new other = new ≡ old

abbrev pub IfMore : Ending → Type 0 → Type 0
IfMore More P = P
IfMore other P = Unit {0}

-- how many of these records are pieces
abbrev pub as_piece : Record → ℕ
as_piece (Piece tick conn bytes) = 1
as_piece (Ends tick conn) = 0
as_piece (Tier conn tier) = 0

abbrev pub piece_count : List Record → ℕ
piece_count records = sum_by as_piece records

-- so many bytes of pieces are enough for a batch
abbrev pub enough_bytes : ℕ
enough_bytes = 16777216

-- A batch has no more pieces than it was asked for, and of their bytes at most a piece beyond what is enough; where
-- more records may follow it, it has all that it was asked for, or enough bytes.
pub record HasSize (pieces : ℕ) (rs : List Record) (ending : Ending) : Type 0 where
  pub most : piece_count rs ≤ pieces
  pub bytes : sizes_of rs < enough_bytes + max_piece_bytes
  pub full : IfMore ending ((pieces ≤ piece_count rs) ⊎ (enough_bytes ≤ sizes_of rs))
