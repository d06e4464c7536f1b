-- The slim text of recorded traffic: what of it answers depend on, and nothing else.
use Rattle.std.specs.Prelude.{◌≡◌, ℕ, ◌+◌, ◌*◌, ◌<◌, ◌≤◌, ◌==◌, ◌⊎◌, List, [], ◌∷◌, ◌++◌, Option, map, filter}
use Rattle.std.specs.Prelude.{length}
use Rattle.std.specs.Io.KnownBytes.{Appends}
use Rattle.devices.specs.Devices.{AppendsPrefix}
use Rattle.devices.specs.Reference.{WhereKnown}
use Rattle.captures.specs.declared.version.Version.{Version}
use Rattle.captures.specs.declared.record.Record.{Record}
use Rattle.captures.specs.declared.record.Record.TheVariants.{Piece, End, Tier}
use Rattle.captures.specs.declared.capture_fault.CaptureFault.{CaptureFault}
use Rattle.captures.specs.declared.capture_fault.CaptureFaultKind.TheVariants as kinds
use Rattle.captures.specs.declared.pass_fault.PassFault.{PassFault}
use Rattle.captures.specs.declared.pass_fault.PassFault.TheVariants.{Capture}
use Rattle.captures.specs.Reference.{IsCaptureText, WholeCapture, capture_text, format_of, text_before_stop, used_once}
use Rattle.captures.specs.Passes.{LeavesBy, RecordsRead}
use Rattle.captures.specs.Upgrades.{later}
use Rattle.http_requests.specs.declared.messages.Meaning.{Meaning}
use Rattle.arrivals.specs.Reference.{Arrival, AreArrivals}
use Rattle.arrivals.specs.declared.incoming.Origin.{Origin}
use Rattle.slim.specs.Blocks.{block_of}
use Rattle.slim.specs.Targets.{kept_arrivals}
use Rattle.slim.specs.declared.queries.Queries.{Queries}

-- the meanings of the messages that arrive with the record at this place, in their order
abbrev pub arrived_at : ℕ → List Arrival → List Meaning
arrived_at place arrivals = map (λ a. a.message.what) (filter (λ a. a.place == place) arrivals)

-- What stands for a record: for a piece one piece for each message that arrives with it, at the same tick and of the
-- same number, which holds the message's canonical block. An end and a tier stay. Nothing of a piece's bytes is kept.
abbrev pub slim_record : List Meaning → Record → List Record
slim_record whats (Piece tick conn bytes) = map (λ what. Piece tick conn (block_of what)) whats
slim_record whats (End tick conn) = End tick conn ∷ []
slim_record whats (Tier conn tier) = Tier conn tier ∷ []

-- the slim records of these, the first of which stands at a place
unfoldable pub slim_from : ℕ → List Record → List Arrival → List Record
slim_from place [] arrivals = []
slim_from place (r ∷ records) arrivals = slim_record (arrived_at place arrivals) r
    ++ slim_from (place + 1) records arrivals

-- the slim records of records and of the messages that arrive with them
unfoldable pub slim_records : List Record → List Arrival → List Record
slim_records records arrivals = slim_from 0 records arrivals

-- the same with what stays of the targets
abbrev pub slimmed : Queries → List Record → List Arrival → List Record
slimmed queries records arrivals = slim_records records (kept_arrivals queries arrivals)

-- The slim text of these records, in this format: with the same start.
abbrev pub slim_text : Queries → Version → ℕ → List Record → List Arrival → List ℕ
slim_text queries v start records arrivals = capture_text v start (slimmed queries records arrivals)

abbrev pub slim_before_stop : Queries → Version → ℕ → List Record → List Arrival → List ℕ
slim_before_stop queries v start records arrivals = text_before_stop v start (slimmed queries records arrivals)

-- what of an arrival an answer depends on: its number, tick and tier, its connection, and what it means
abbrev pub seen : Arrival → Origin × ℕ × Meaning
seen a = (a.origin, a.connection, a.message.what)

-- The slim records have the same arrivals, but for what goes of their targets, in the same order, up to where in a text
-- they end and which record brought them; and they are their own slim records.
pub record KeepsArrivals (queries : Queries) (records : List Record) (arrivals : List Arrival) : Type 0 where
  pub slims : List Arrival
  pub arrived : AreArrivals (used_once (slimmed queries records arrivals)) slims
  pub same : map seen slims ≡ map seen (kept_arrivals queries arrivals)
  pub again : slimmed queries (slimmed queries records arrivals) slims ≡ slimmed queries records arrivals

-- how many times as long as a text its slim text is at most
abbrev pub most_growth : ℕ
most_growth = 8300

-- The input is a capture's text, and the slim text of its records was written, in the later of its format and the one
-- asked for. The slim records keep the arrivals; their text is one of that format, and not much longer.
pub record Slims (queries : Queries) (to : Version) (input old new : Option (List ℕ)) : Type 0 where
  pub capture : WholeCapture input
  pub arrivals : List Arrival
  pub arrived : AreArrivals (used_once capture.records) arrivals
  pub kept : KeepsArrivals queries capture.records arrivals
  pub text : IsCaptureText (later to capture.version)
      (slim_text queries (later to capture.version) capture.start capture.records arrivals)
      capture.start (slimmed queries capture.records arrivals)
  pub size : length (slim_text queries (later to capture.version) capture.start capture.records arrivals)
      ≤ most_growth * length (capture_text capture.version capture.start capture.records)
  pub written : Appends old new (slim_text queries (later to capture.version) capture.start capture.records arrivals)

-- the first line and the slim records of those that were read were written
pub record WritesRead (queries : Queries) (to : Version) {input : Option (List ℕ)} (old new : Option (List ℕ))
    (read : RecordsRead input) : Type 0 where
  pub arrivals : List Arrival
  pub arrived : AreArrivals (used_once read.records) arrivals
  pub written : Appends old new (slim_before_stop queries (later to read.version) read.start read.records arrivals)

-- a prefix of that was written, or of the whole slim text, where the input is a capture's text
pub record WritesPart (queries : Queries) (to : Version) {input : Option (List ℕ)} (old new : Option (List ℕ))
    (read : RecordsRead input) : Type 0 where
  pub arrivals : List Arrival
  pub arrived : AreArrivals (used_once read.records) arrivals
  pub written : AppendsPrefix old new
      (slim_before_stop queries (later to read.version) read.start read.records arrivals)

pub record WritesWholeInPart (queries : Queries) (to : Version) (input old new : Option (List ℕ)) : Type 0 where
  pub capture : WholeCapture input
  pub arrivals : List Arrival
  pub arrived : AreArrivals (used_once capture.records) arrivals
  pub written : AppendsPrefix old new
      (slim_text queries (later to capture.version) capture.start capture.records arrivals)

abbrev pub IsCutShort : Queries → Version → (input old new : Option (List ℕ)) → Type 0
IsCutShort queries to input old new = ((read : RecordsRead input) × WritesPart queries to old new read)
    ⊎ WritesWholeInPart queries to input old new

-- The slim text of these records and of the one that comes after them is longer than its format allows.
pub record IsOver (queries : Queries) (to : Version) {input : Option (List ℕ)} (read : RecordsRead input)
    (next : Record) : Type 0 where
  pub begins : WhereKnown input (λ bytes. (rest : List ℕ)
      × (bytes ≡ text_before_stop read.version read.start (read.records ++ next ∷ []) ++ rest))
  pub arrivals : List Arrival
  pub arrived : AreArrivals (used_once (read.records ++ next ∷ [])) arrivals
  pub size : length (slim_before_stop queries (later to read.version) read.start (read.records ++ next ∷ []) arrivals)
      ≤ most_growth * length (text_before_stop read.version read.start (read.records ++ next ∷ []))
  pub over : (format_of (later to read.version)).max_text_bytes
      < length (slim_before_stop queries (later to read.version) read.start (read.records ++ next ∷ []) arrivals)

-- These are all records, and their slim text is longer than its format allows with its last line.
pub record IsOverAtEnd (queries : Queries) (to : Version) {input : Option (List ℕ)} (read : RecordsRead input)
    : Type 0 where
  pub whole : WhereKnown input (λ bytes. IsCaptureText read.version bytes read.start read.records)
  pub arrivals : List Arrival
  pub arrived : AreArrivals (used_once read.records) arrivals
  pub size : length (slim_text queries (later to read.version) read.start read.records arrivals)
      ≤ most_growth * length (capture_text read.version read.start read.records)
  pub over : (format_of (later to read.version)).max_text_bytes
      < length (slim_text queries (later to read.version) read.start read.records arrivals)

-- There is no room in the slim text for what stands for the record after these, or for the last line. The first line
-- and the slim records of these stand.
pub record IsTooLarge (queries : Queries) (to : Version) (input old new : Option (List ℕ)) (f : CaptureFault)
    : Type 0 where
  pub read : RecordsRead input
  pub over : ((next : Record) × IsOver queries to read next) ⊎ IsOverAtEnd queries to read
  pub fault : f ≡ record { at = length read.records + 1; kind = kinds.TooLarge }
  pub stands : WritesRead queries to old new read

-- What stands where the pass stopped, by its fault: after a fault of the capture the first line and the slim records of
-- the whole records before it, or nothing where the fault is in the first line; else a part. No message is too many.
-- Or the slim text is too large, which is reported as the capture's fault would be.
abbrev pub Leaves : Queries → Version → (input ahead old new : Option (List ℕ)) → PassFault → Type 0
Leaves queries to input ahead old new f = LeavesBy input ahead (new ≡ old)
    (λ read. WritesRead queries to old new read) (λ number. ⊥) (IsCutShort queries to input old new) f
    ⊎ ((own : CaptureFault) × (f ≡ Capture own) × IsTooLarge queries to input old new own)
