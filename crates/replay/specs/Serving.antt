-- The state of an engine between two messages, and between two records.
use Rattle.std.specs.Prelude.{◌≡◌, ℕ, ◌+◌, ◌*◌, ◌/◌, ◌<◌, ◌≤◌, List, ◌++◌, length, take, All, Option}
use Rattle.std.specs.Prelude.{flat_map}
use Rattle.std.specs.Io.KnownBytes.{Appends}
use Rattle.devices.specs.Devices.{AppendsPrefix}
use Rattle.captures.specs.declared.record.Record.{Record}
use Rattle.captures.specs.declared.record.Record.TheVariants.{Piece, End, Tier}
use Rattle.responses.specs.Reference.{record_text}
use Rattle.admission.specs.After.{ControllerAfter}
use Rattle.admission.specs.Standing.{station_of}
use Rattle.captures.specs.Reference.{max_start, used_once}
use Rattle.reference.specs.Reference.{station_for, Terms, ArrivedCapture, offers_of, handled_after, replies_of}
use Rattle.reference.specs.Outcomes.{outcome_of}
use Rattle.arrivals.specs.Reference.{Arrival, AreArrivals}
use Rattle.arrivals.specs.Connections.{HaveRead}
use Rattle.reference.specs.Texts.{Texts, Wrote, WroteInPart, reply_texts}
use Rattle.replay.specs.Totals.{totals_of}
use Rattle.arrivals.specs.declared.connections.Connection.{Connection}
use Rattle.replay.specs.declared.decider.Decider.{Decider}
use Rattle.reference.specs.declared.summary.Outcome.{Outcome}
use Rattle.paths.specs.declared.file.File.{File}

-- the most messages that are answered, in any format
abbrev pub most_messages : ℕ
most_messages = 536870912

-- none of these messages came later than this tick
abbrev pub AreBy : ℕ → List Arrival → Type 0
AreBy tick arrivals = All (λ a. a.origin.tick ≤ tick) arrivals

-- at this speed no tick up to the one counts later than the other
abbrev pub CountsBy : ℕ → ℕ → ℕ → Type 0
CountsBy speed tick counted = (earlier : ℕ) → earlier ≤ tick → earlier * 100 / speed ≤ counted

-- at this speed no message of this tick counts before the clock
abbrev pub IsOnTime : ℕ → ℕ → ℕ → Type 0
IsOnTime speed tick clock = (counted : ℕ) → CountsBy speed tick counted → clock ≤ counted

-- these messages were decided on and counted
pub record Counted (files : List File) (terms : Terms) (arrivals : List Arrival) (decider : Decider) : Type 0 where
  pub early : decider.start ≤ max_start
  pub most : decider.most ≤ most_messages
  pub station : station_of decider.controller ≡ (station_for terms)
  pub fits : ControllerAfter (offers_of files terms arrivals) decider.controller
  pub totals : decider.totals ≡ totals_of files terms arrivals
  pub few : length arrivals ≤ most_messages

-- and no time has passed beyond the last of them
pub record DeciderAfter (files : List File) (terms : Terms) (arrivals : List Arrival) (decider : Decider) : Type 0 where
  pub counted : Counted files terms arrivals decider
  pub clock : (tick : ℕ) → AreBy tick arrivals → IsOnTime terms.speed tick decider.controller.clock

-- the capture begins as before, and as many of its messages are answered
abbrev pub SameCapture : Decider → Decider → Type 0
SameCapture before after = (after.start ≡ before.start) × (after.most ≡ before.most)

-- none of them came later than this record
abbrev pub IsLater : Record → List Arrival → Type 0
IsLater (Piece tick conn bytes) arrivals = AreBy tick arrivals
IsLater (End tick conn) arrivals = Unit {0}
IsLater (Tier conn tier) arrivals = Unit {0}

-- the records of the replies to these messages, which come after the earlier ones
abbrev pub records_after : List File → Terms → ℕ → List Arrival → List Arrival → List ℕ
records_after files terms start earlier arrivals = flat_map record_text
    (replies_of files terms start (handled_after files terms earlier arrivals))

-- they were written, and a prefix of them was
abbrev pub Written : List File → Terms → ℕ → List Arrival → List Arrival → Option (List ℕ) → Option (List ℕ) → Type 0
Written files terms start earlier arrivals old new = Appends old new (records_after files terms start earlier arrivals)

abbrev pub WrittenInPart : List File → Terms → ℕ → List Arrival → List Arrival → Option (List ℕ) → Option (List ℕ)
    → Type 0
WrittenInPart files terms start earlier arrivals old new = AppendsPrefix old new
    (records_after files terms start earlier arrivals)

-- these records were read, and the messages that arrived with them were answered
pub record Serves (files : List File) (terms : Terms) (records : List Record) (arrivals : List Arrival)
    (connections : List Connection)
    (decider : Decider) : Type 0 where
  pub reads : HaveRead records arrivals connections
  pub arrived : AreArrivals (used_once records) arrivals
  pub stands : DeciderAfter files terms arrivals decider

-- these messages arrive with the records that come next
abbrev pub ArriveNext : List Record → List Arrival → List Record → List Arrival → Type 0
ArriveNext records arrivals rs more = AreArrivals (used_once (records ++ rs)) (arrivals ++ more)

-- more records were read, and the messages that arrived with them were decided on and written
pub record WritesMore (t : Texts) (files : List File) (terms : Terms) (records : List Record)
    (arrivals : List Arrival) (rs : List Record)
    (connections : List Connection) (decider : Decider)
    (old new : Option (List ℕ)) : Type 0 where
  pub more : List Arrival
  pub serves : Serves files terms (records ++ rs) (arrivals ++ more) connections decider
  pub written : Wrote t decider.start arrivals more old new

-- the messages of the next records are more than the most that are answered: those within it were written
pub record WritesFull (t : Texts) (most start : ℕ) (records : List Record) (arrivals : List Arrival) (rs : List Record)
    (old new : Option (List ℕ)) : Type 0 where
  pub more : List Arrival
  pub arrived : ArriveNext records arrivals rs more
  pub within : ℕ
  pub full : length arrivals + within ≡ most
  pub beyond : within < length more
  pub written : Wrote t start arrivals (take within more) old new

-- a prefix was written of the text of the messages of the next records within the limit
pub record WritesInPart (t : Texts) (most start : ℕ) (records : List Record) (arrivals : List Arrival)
    (rs : List Record) (old new : Option (List ℕ)) : Type 0 where
  pub more : List Arrival
  pub arrived : ArriveNext records arrivals rs more
  pub within : ℕ
  pub few : length arrivals + within ≤ most
  pub written : WroteInPart t start arrivals (take within more) old new

-- the same, where a reply is written of each message
abbrev pub ServesMore : List File → Terms → List Record → List Arrival → List Record → List Connection → Decider
    → Option (List ℕ)
    → Option (List ℕ) → Type 0
ServesMore files terms records arrivals rs connections decider old new =
    WritesMore (reply_texts files terms) files terms records arrivals rs connections decider old new

abbrev pub ServesFull : List File → Terms → (most start : ℕ) → List Record → List Arrival → List Record
    → (old new : Option (List ℕ)) → Type 0
ServesFull files terms most start records arrivals rs old new =
    WritesFull (reply_texts files terms) most start records arrivals rs old new

abbrev pub ServesInPart : List File → Terms → (most start : ℕ) → List Record → List Arrival → List Record
    → (old new : Option (List ℕ)) → Type 0
ServesInPart files terms most start records arrivals rs old new =
    WritesInPart (reply_texts files terms) most start records arrivals rs old new

-- a whole capture was written: as `Answers`, whatever is written of a message
pub record WritesWhole (t : Texts) (files : List File) (terms : Terms) (input old new : Option (List ℕ))
    (outcome : Outcome) : Type 0 where
  pub read : ArrivedCapture input
  pub written : Appends old new (t.whole read.capture.start read.arrivals)
  pub outcome_is : outcome ≡ outcome_of read.capture.version files terms read.arrivals
