-- What recorded traffic holds: figures of its records, of the texts of its connections and of the messages that arrive.
use Rattle.std.specs.Prelude.{◌≡◌, ℕ, ◌+◌, ◌-◌, ◌/◌, ◌≤◌, ◌==◌, Bool, true, false, not, List, [], ◌∷◌, ◌++◌, length}
use Rattle.std.specs.Prelude.{map, count_by, sum_by, flat_map, take, drop, slice_get, nat_lt, bytes_eq, codes}
use Rattle.std.specs.Prelude.{if◌then◌else◌}
use Rattle.std.specs.List.{range_with_len}
use Rattle.captures.specs.declared.version.Version.TheVariants.{Traffic}
use Rattle.captures.specs.declared.record.Record.{Record}
use Rattle.captures.specs.declared.record.Record.TheVariants.{Piece, End, Tier}
use Rattle.captures.specs.Reference.{format_of, connection_now, used_once, last_of, ticks_of}
use Rattle.http_requests.specs.declared.messages.Message.{Message}
use Rattle.http_requests.specs.declared.messages.Meaning.{Meaning}
use Rattle.http_requests.specs.declared.messages.Meaning.TheVariants.{Request, Bad}
use Rattle.http_requests.specs.declared.messages.HttpVersion.TheVariants.{Http10, Http11}
use Rattle.http_requests.specs.declared.messages.MessageFault.TheVariants.{TooLong, Block, Host, Coding}
use Rattle.http_requests.specs.declared.messages.MessageFault.TheVariants.{Length, BodySize}
use Rattle.http_requests.specs.Reference.{is_get_or_head, blank_len}
use Rattle.arrivals.specs.Reference.{Arrival, text_of, messages_of}
use Rattle.arrivals.specs.Connections.{some_closes, text_now}
use Rattle.inspection.specs.declared.counts.RecordCounts.{RecordCounts}
use Rattle.inspection.specs.declared.counts.MethodCounts.{MethodCounts}
use Rattle.inspection.specs.declared.counts.VersionCounts.{VersionCounts}
use Rattle.inspection.specs.declared.counts.FaultCounts.{FaultCounts}
use Rattle.inspection.specs.declared.counts.MessageCounts.{MessageCounts}
use Rattle.inspection.specs.declared.inspection.Share.{Share}
use Rattle.inspection.specs.declared.inspection.Second.{Second}
use Rattle.inspection.specs.declared.inspection.Inspection.{Inspection}

-- the kinds of records
abbrev pub is_piece : Record → Bool
is_piece (Piece tick conn bytes) = true
is_piece (End tick conn) = false
is_piece (Tier conn tier) = false

abbrev pub is_end : Record → Bool
is_end (Piece tick conn bytes) = false
is_end (End tick conn) = true
is_end (Tier conn tier) = false

abbrev pub is_tier : Record → Bool
is_tier (Piece tick conn bytes) = false
is_tier (End tick conn) = false
is_tier (Tier conn tier) = true

abbrev pub records_by_kind : List Record → RecordCounts
records_by_kind records = record {
  all = length records;
  pieces = count_by is_piece records;
  ends = count_by is_end records;
  tiers = count_by is_tier records;
}

-- the kinds of messages: a request by its method (RFC 9110, 9.1) and its version (RFC 9112, 2.3), or a fault
abbrev pub is_request : Meaning → Bool
is_request (Request method target version closing since) = true
is_request (Bad fault) = false

abbrev pub has_method : List ℕ → Meaning → Bool
has_method name (Request method target version closing since) = bytes_eq method name
has_method name (Bad fault) = false

abbrev pub has_other_method : Meaning → Bool
has_other_method (Request method target version closing since) = not (is_get_or_head method)
has_other_method (Bad fault) = false

abbrev pub is_http10 : Meaning → Bool
is_http10 (Request method target Http10 closing since) = true
is_http10 (Request method target Http11 closing since) = false
is_http10 (Bad fault) = false

abbrev pub is_http11 : Meaning → Bool
is_http11 (Request method target Http10 closing since) = false
is_http11 (Request method target Http11 closing since) = true
is_http11 (Bad fault) = false

abbrev pub is_too_long : Meaning → Bool
is_too_long (Bad TooLong) = true
is_too_long _ = false

abbrev pub is_bad_block : Meaning → Bool
is_bad_block (Bad Block) = true
is_bad_block _ = false

abbrev pub is_bad_host : Meaning → Bool
is_bad_host (Bad Host) = true
is_bad_host _ = false

abbrev pub is_bad_coding : Meaning → Bool
is_bad_coding (Bad Coding) = true
is_bad_coding _ = false

abbrev pub is_bad_length : Meaning → Bool
is_bad_length (Bad Length) = true
is_bad_length _ = false

abbrev pub is_bad_body_size : Meaning → Bool
is_bad_body_size (Bad BodySize) = true
is_bad_body_size _ = false

abbrev pub methods_by_kind : List Meaning → MethodCounts
methods_by_kind whats = record {
  get = count_by (has_method (codes "GET")) whats;
  head = count_by (has_method (codes "HEAD")) whats;
  other = count_by has_other_method whats;
}

abbrev pub versions_by_kind : List Meaning → VersionCounts
versions_by_kind whats = record { http10 = count_by is_http10 whats; http11 = count_by is_http11 whats }

abbrev pub faults_by_kind : List Meaning → FaultCounts
faults_by_kind whats = record {
  too_long = count_by is_too_long whats;
  block = count_by is_bad_block whats;
  host = count_by is_bad_host whats;
  coding = count_by is_bad_coding whats;
  length = count_by is_bad_length whats;
  body_size = count_by is_bad_body_size whats;
}

abbrev pub messages_by_kind : List Meaning → MessageCounts
messages_by_kind whats = record {
  all = length whats;
  requests = count_by is_request whats;
  methods = methods_by_kind whats;
  versions = versions_by_kind whats;
  faults = faults_by_kind whats;
}

-- what the messages are that arrive
abbrev pub whats_of : List Arrival → List Meaning
whats_of arrivals = map (λ a. a.message.what) arrivals

-- where the last of these messages ends: the place after its last byte, 0 of no messages
abbrev pub end_of : List Message → ℕ
end_of ms = last_of (map (λ m. m.end) ms)

-- how many bytes of a connection's text come after the last of its messages
abbrev pub bytes_after : List ℕ → List Message → ℕ
bytes_after text ms = length text - end_of ms

-- those after a message that closes the connection
abbrev pub bytes_after_close : List ℕ → List Message → ℕ
bytes_after_close text ms = if some_closes ms then bytes_after text ms else 0

-- how many bytes of a text come after the empty lines that it begins with
abbrev pub bytes_begun : List ℕ → ℕ
bytes_begun rest = length rest - blank_len rest

-- Of a connection that none closes: those of a message that began after its last one. A server ignores empty lines
-- before a request line (RFC 9112, 2.2), so they are part of no message
abbrev pub bytes_unfinished : List ℕ → List Message → ℕ
bytes_unfinished text ms = if some_closes ms then 0 else bytes_begun (drop (end_of ms) text)

-- n bytes on each, summed up; and on how many there are some
abbrev pub share_over : {X : Type 0} → (X → ℕ) → List X → Share
share_over bytes_on xs = record {
  bytes = sum_by bytes_on xs;
  connections = count_by (λ x. nat_lt 0 (bytes_on x)) xs;
}

-- how many numbers connections may have, and these numbers, from 0 on
unfoldable pub connection_numbers : ℕ
connection_numbers = (format_of Traffic).last_connection + 1

abbrev pub every_number : List ℕ
every_number = range_with_len 0 connection_numbers

-- the connection that a record ends, and the connections that have ended
abbrev pub ended_by : Record → List ℕ
ended_by (Piece tick conn bytes) = []
ended_by (End tick conn) = conn ∷ []
ended_by (Tier conn tier) = []

abbrev pub ended : List Record → List ℕ
ended records = flat_map ended_by (used_once records)

-- the connections that there have been: those that have ended, and the one that each number names now
abbrev pub every_connection : List Record → List ℕ
every_connection records = ended records ++ map (λ c. connection_now c records) every_number

-- how many bytes came on a connection; those after a message that closes it, and those of a message that is unfinished
abbrev pub received_on : List Record → ℕ → ℕ
received_on records c = length (text_of c (used_once records))

abbrev pub after_close_on : List Record → List Arrival → ℕ → ℕ
after_close_on records arrivals c = bytes_after_close (text_of c (used_once records)) (messages_of c arrivals)

abbrev pub unfinished_on : List Record → List Arrival → ℕ → ℕ
unfinished_on records arrivals c = bytes_unfinished (text_of c (used_once records)) (messages_of c arrivals)

-- the shares over all connections
abbrev pub received : List Record → Share
received records = share_over (received_on records) (every_connection records)

abbrev pub after_close : List Record → List Arrival → Share
after_close records arrivals = share_over (after_close_on records arrivals) (every_connection records)

abbrev pub unfinished : List Record → List Arrival → Share
unfinished records arrivals = share_over (unfinished_on records arrivals) (every_connection records)

-- a number's connection is open once a piece of it came, until its end; how many connections are open
abbrev pub is_open : ℕ → List Record → Bool
is_open c records = nat_lt 0 (length (text_now c records))

abbrev pub open_count : List Record → ℕ
open_count records = count_by (λ c. is_open c records) every_number

-- the most connections that were open at once: so many were open after some of the records, and never more
pub record IsMostOpen (records : List Record) (n : ℕ) : Type 0 where
  pub is : (k : ℕ) × (k ≤ length records) × (n ≡ open_count (take k records))
  pub most : (k : ℕ) → k ≤ length records → open_count (take k records) ≤ n

-- a second has n ticks
abbrev pub ticks_of_a_second : ℕ
ticks_of_a_second = 1000000

-- the seconds in which messages arrive, one for each message
abbrev pub seconds_of : List Arrival → List ℕ
seconds_of arrivals = map (λ a. a.origin.tick / ticks_of_a_second) arrivals

-- how many of them are this one
abbrev pub count_in : ℕ → List ℕ → ℕ
count_in second seconds = count_by (λ s. s == second) seconds

-- it is the one of the most messages, the first of equals; of no messages it is second 0
pub record IsBusiest (seconds : List ℕ) (busiest : Second) : Type 0 where
  pub is : busiest.messages ≡ count_in busiest.number seconds
  pub most : (second : ℕ) → count_in second seconds ≤ busiest.messages
  pub first : (second : ℕ) → count_in second seconds ≡ busiest.messages → busiest.number ≤ second

-- these are the figures of the records, of which these are the arrivals
pub record AreFigures (records : List Record) (arrivals : List Arrival) (i : Inspection) : Type 0 where
  pub counts : i.records ≡ records_by_kind records
  pub first_tick : i.first_tick ≡ slice_get (ticks_of records) 0
  pub last_tick : i.last_tick ≡ slice_get (ticks_of records) (length (ticks_of records) - 1)
  pub received : i.received ≡ received records
  pub most_open : IsMostOpen records i.most_open
  pub messages : i.messages ≡ messages_by_kind (whats_of arrivals)
  pub after_close : i.after_close ≡ after_close records arrivals
  pub unfinished : i.unfinished ≡ unfinished records arrivals
  pub busiest : IsBusiest (seconds_of arrivals) i.busiest
