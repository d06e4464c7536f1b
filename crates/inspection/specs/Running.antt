-- What is kept of a capture while its records are read.
use Rattle.std.specs.Prelude.{◌≡◌, ◌≢◌, ℕ, ◌+◌, ◌-◌, ◌/◌, ◌^◌, ◌<◌, ◌≤◌, false, List, [], ◌∷◌, ◌++◌, length, map}
use Rattle.std.specs.Prelude.{replicate, sum_by, slice_get, slice_index_or, codes, bytes_eq, nat_lt, if◌then◌else◌}
use Rattle.std.specs.Prelude.{Some, unwrap_or, drop, ◌==◌, ◌&&◌}
use Rattle.captures.specs.declared.record.Record.{Record}
use Rattle.captures.specs.declared.record.Record.TheVariants.{Piece, End, Tier}
use Rattle.captures.specs.Reference.{last_of, ticks_of, used_once}
use Rattle.captures.specs.CaptureFaults.{longest_text}
use Rattle.captures.specs.Captures.{sizes_of, size_of}
use Rattle.http_requests.specs.declared.messages.Message.{Message}
use Rattle.http_requests.specs.declared.messages.Meaning.{Meaning}
use Rattle.http_requests.specs.declared.messages.Meaning.TheVariants.{Request, Bad}
use Rattle.http_requests.specs.declared.messages.HttpVersion.{HttpVersion}
use Rattle.http_requests.specs.declared.messages.HttpVersion.TheVariants.{Http10, Http11}
use Rattle.http_requests.specs.declared.messages.MessageFault.{MessageFault}
use Rattle.http_requests.specs.declared.messages.MessageFault.TheVariants.{TooLong, Block, Host, Coding}
use Rattle.http_requests.specs.declared.messages.MessageFault.TheVariants.{Length, BodySize}
use Rattle.http_requests.specs.Reference.{blank_len, begins_lf, carriage_return}
use Rattle.http_requests.specs.Cutting.{EndBetween}
use Rattle.arrivals.specs.Reference.{Arrival, AreArrivals}
use Rattle.arrivals.specs.Connections.{HaveRead, HaveNumbers, IsNumber, some_closes, text_now, messages_now}
use Rattle.arrivals.specs.declared.connections.Connection.{Connection}
use Rattle.inspection.specs.declared.counts.RecordCounts.{RecordCounts}
use Rattle.inspection.specs.declared.counts.MethodCounts.{MethodCounts}
use Rattle.inspection.specs.declared.counts.VersionCounts.{VersionCounts}
use Rattle.inspection.specs.declared.counts.FaultCounts.{FaultCounts}
use Rattle.inspection.specs.declared.counts.MessageCounts.{MessageCounts}
use Rattle.inspection.specs.declared.inspection.Share.{Share}
use Rattle.inspection.specs.declared.busy.Busy.{Busy}
use Rattle.inspection.specs.declared.tails.Tail.{Tail}
use Rattle.inspection.specs.declared.shares.Shares.{Shares}
use Rattle.inspection.specs.declared.opened.OpenCount.{OpenCount}
use Rattle.inspection.specs.declared.found.Found.{Found}
use Rattle.inspection.specs.Figures.{records_by_kind, messages_by_kind, whats_of, end_of, seconds_of, ticks_of_a_second}
use Rattle.inspection.specs.Figures.{count_in, IsBusiest, share_over, received_on, after_close_on, unfinished_on, ended}
use Rattle.inspection.specs.Figures.{open_count, IsMostOpen}

-- ---- counts

-- each of the counts is below n
pub record FewRecords (n : ℕ) (c : RecordCounts) : Type 0 where
  pub all : c.all < n
  pub pieces : c.pieces < n
  pub ends : c.ends < n
  pub tiers : c.tiers < n

pub record FewMethods (n : ℕ) (c : MethodCounts) : Type 0 where
  pub get : c.get < n
  pub head : c.head < n
  pub other : c.other < n

pub record FewVersions (n : ℕ) (c : VersionCounts) : Type 0 where
  pub http10 : c.http10 < n
  pub http11 : c.http11 < n

pub record FewFaults (n : ℕ) (c : FaultCounts) : Type 0 where
  pub too_long : c.too_long < n
  pub block : c.block < n
  pub host : c.host < n
  pub coding : c.coding < n
  pub length : c.length < n
  pub body_size : c.body_size < n

pub record FewMessages (n : ℕ) (c : MessageCounts) : Type 0 where
  pub all : c.all < n
  pub requests : c.requests < n
  pub methods : FewMethods n c.methods
  pub versions : FewVersions n c.versions
  pub faults : FewFaults n c.faults

-- the counts with one more record
abbrev pub with_piece : RecordCounts → RecordCounts
with_piece c = record c { all = c.all + 1; pieces = c.pieces + 1 }

abbrev pub with_end : RecordCounts → RecordCounts
with_end c = record c { all = c.all + 1; ends = c.ends + 1 }

abbrev pub with_tier : RecordCounts → RecordCounts
with_tier c = record c { all = c.all + 1; tiers = c.tiers + 1 }

-- the counts with one more request of this method, or of this version
abbrev pub with_method : MethodCounts → List ℕ → MethodCounts
with_method c method =
    if bytes_eq method (codes "GET") then record c { get = c.get + 1 }
    else if bytes_eq method (codes "HEAD") then record c { head = c.head + 1 }
    else record c { other = c.other + 1 }

abbrev pub with_version : VersionCounts → HttpVersion → VersionCounts
with_version c Http10 = record c { http10 = c.http10 + 1 }
with_version c Http11 = record c { http11 = c.http11 + 1 }

-- the counts with one more message of this fault
abbrev pub with_fault : FaultCounts → MessageFault → FaultCounts
with_fault c TooLong = record c { too_long = c.too_long + 1 }
with_fault c Block = record c { block = c.block + 1 }
with_fault c Host = record c { host = c.host + 1 }
with_fault c Coding = record c { coding = c.coding + 1 }
with_fault c Length = record c { length = c.length + 1 }
with_fault c BodySize = record c { body_size = c.body_size + 1 }

-- the counts with one more message
abbrev pub with_message : MessageCounts → Meaning → MessageCounts
with_message c (Request method target version closing since) = record {
  all = c.all + 1;
  requests = c.requests + 1;
  methods = with_method c.methods method;
  versions = with_version c.versions version;
  faults = c.faults;
}
with_message c (Bad fault) = record {
  all = c.all + 1;
  requests = c.requests;
  methods = c.methods;
  versions = c.versions;
  faults = with_fault c.faults fault;
}

-- ---- seconds

-- The last of these seconds and how many stand in it, and the busiest one.
pub record IsBusy (seconds : List ℕ) (busy : Busy) : Type 0 where
  pub now : busy.now.messages ≡ count_in busy.now.number seconds
  pub later : (second : ℕ) → busy.now.number < second → count_in second seconds ≡ 0
  pub busiest : IsBusiest seconds busy.busiest

-- ---- connections

-- where the next message begins: after the last one, and the empty lines there
abbrev pub next_of : List ℕ → List Message → ℕ
next_of text ms = end_of ms + blank_len (drop (end_of ms) text)

-- what is kept of a connection that has read this text, whose messages are these
abbrev pub tail_of : List ℕ → List Message → Tail
tail_of text ms = record {
  bytes = length text;
  end = end_of ms;
  next = next_of text ms;
  closed = some_closes ms;
  cr = last_of text == carriage_return;
}

abbrev pub empty_tail : Tail
empty_tail = record { bytes = 0; end = 0; next = 0; closed = false; cr = false }

-- how many of its bytes come after the last message and the empty lines there
abbrev pub begun_of : Tail → ℕ
begun_of t = t.bytes - t.next

-- the place after the empty lines that begin at a place of a text, of which n bytes came before this piece
abbrev pub after_blanks : ℕ → ℕ → List ℕ → ℕ
after_blanks bytes from piece = if nat_lt from bytes then from else from + blank_len (drop (from - bytes) piece)

-- Where empty lines can go on with a piece: where the next message begins, or at the piece where its LF makes a line of
-- the CR before it
abbrev pub blanks_from : Tail → List ℕ → ℕ
blanks_from t piece = if begun_of t == 1 && (t.cr && begins_lf piece) then t.bytes else t.next

-- what is kept of a connection by its number
abbrev pub tail_at : List Tail → ℕ → Tail
tail_at tails c = slice_index_or tails c empty_tail

-- how many of its bytes come after its last message; those where a message has closed it
abbrev pub rest_of : Tail → ℕ
rest_of t = t.bytes - t.end

abbrev pub rest_after_close : Tail → ℕ
rest_after_close t = if t.closed then rest_of t else 0

-- how many of them are part of a message, where none has closed it
abbrev pub rest_unfinished : Tail → ℕ
rest_unfinished t = if t.closed then 0 else begun_of t

-- a share with n bytes of one more connection, and two shares together
abbrev pub with_bytes : Share → ℕ → Share
with_bytes share bytes = record {
  bytes = share.bytes + bytes;
  connections = share.connections + (if nat_lt 0 bytes then 1 else 0);
}

abbrev pub joined : Share → Share → Share
joined a b = record { bytes = a.bytes + b.bytes; connections = a.connections + b.connections }

-- the shares, with those of one more connection
abbrev pub with_tail : Shares → Tail → Shares
with_tail shares tail = record {
  received = with_bytes shares.received tail.bytes;
  after_close = with_bytes shares.after_close (rest_after_close tail);
  unfinished = with_bytes shares.unfinished (rest_unfinished tail);
}

-- the bytes on these connections, and how many they are, can be added to the share of others
pub record CanAdd (share : Share) (bytes_on : Tail → ℕ) (tails : List Tail) : Type 0 where
  pub bytes : share.bytes + sum_by bytes_on tails < 2 ^ 64
  pub connections : share.connections + length tails < 2 ^ 64

pub record CanAddAll (shares : Shares) (tails : List Tail) : Type 0 where
  pub received : CanAdd shares.received (λ t. t.bytes) tails
  pub after_close : CanAdd shares.after_close rest_after_close tails
  pub unfinished : CanAdd shares.unfinished rest_unfinished tails

-- no more connections are kept than there are numbers for (`connection_numbers`)
abbrev pub most_connections : ℕ
most_connections = 65536

-- what is kept of the connection that each number names now
pub record AreTails (records : List Record) (arrivals : List Arrival) (tails : List Tail) : Type 0 where
  pub few : length tails ≤ most_connections
  pub each : (c : ℕ) → IsNumber c
      → tail_at tails c ≡ tail_of (text_now c records) (messages_now c records arrivals)

-- the shares of the connections that have ended
pub record AreShares (records : List Record) (arrivals : List Arrival)
    (shares : Shares) : Type 0 where
  pub received : shares.received ≡ share_over (received_on records) (ended records)
  pub after_close : shares.after_close ≡ share_over (after_close_on records arrivals) (ended records)
  pub unfinished : shares.unfinished ≡ share_over (unfinished_on records arrivals) (ended records)

-- ---- open connections

-- how many are open, and the most that were
pub record IsOpenCount (records : List Record) (o : OpenCount) : Type 0 where
  pub now : o.now ≡ open_count records
  pub most : IsMostOpen records o.most

-- one more is open, or one fewer
abbrev pub with_opened : OpenCount → OpenCount
with_opened o = record {
  now = o.now + 1;
  most = if nat_lt o.most (o.now + 1) then o.now + 1 else o.most;
}

abbrev pub with_ended : OpenCount → OpenCount
with_ended o = record { now = o.now - 1; most = o.most }

-- once n bytes came on a connection of which this was kept, and once such a connection has ended
abbrev pub opened_after_piece : Tail → ℕ → OpenCount → OpenCount
opened_after_piece tail bytes o =
    if nat_lt 0 tail.bytes then o else if nat_lt 0 bytes then with_opened o else o

abbrev pub opened_after_end : Tail → OpenCount → OpenCount
opened_after_end tail o = if nat_lt 0 tail.bytes then with_ended o else o

-- ---- all of it

-- what is kept after these records, of which these are the arrivals
pub record IsFound (records : List Record) (arrivals : List Arrival) (f : Found) : Type 0 where
  pub counts : f.records ≡ records_by_kind records
  pub first_tick : f.first_tick ≡ slice_get (ticks_of records) 0
  pub last_tick : f.last_tick ≡ slice_get (ticks_of records) (length (ticks_of records) - 1)
  pub messages : f.messages ≡ messages_by_kind (whats_of arrivals)
  pub busy : IsBusy (seconds_of arrivals) f.busy
  pub past : f.busy.now.number ≤ last_of (ticks_of records) / ticks_of_a_second
  pub tails : AreTails records arrivals f.tails
  pub ended : AreShares records arrivals f.ended
  pub opened : IsOpenCount records f.opened
  pub numbers : HaveNumbers records
  pub few : length arrivals ≤ sizes_of records

-- a piece was taken, in which these messages end
pub record TookPiece (tick conn : ℕ) (piece : List ℕ) (ms : List Message) (old new : Found) : Type 0 where
  pub counts : new.records ≡ with_piece old.records
  pub first_tick : new.first_tick ≡ Some (unwrap_or old.first_tick tick)
  pub last_tick : new.last_tick ≡ Some tick
  pub messages : (whats : List Meaning) → old.messages ≡ messages_by_kind whats
      → new.messages ≡ messages_by_kind (whats ++ map (λ m. m.what) ms)
  pub busy : (seconds : List ℕ) → IsBusy seconds old.busy → old.busy.now.number ≤ tick / ticks_of_a_second
      → IsBusy (seconds ++ replicate (length ms) (tick / ticks_of_a_second)) new.busy
  pub past : new.busy.now.number ≡ tick / ticks_of_a_second
  pub few : length new.tails ≤ most_connections
  pub own : (text : List ℕ) (sofar : List Message) → tail_at old.tails conn ≡ tail_of text sofar
      → EndBetween (length text) (length text + length piece) ms
      → tail_at new.tails conn ≡ tail_of (text ++ piece) (sofar ++ ms)
  pub others : (c : ℕ) → c ≢ conn → tail_at new.tails c ≡ tail_at old.tails c
  pub ended : new.ended ≡ old.ended
  pub opened : new.opened ≡ opened_after_piece (tail_at old.tails conn) (length piece) old.opened

-- a record gave a tick
abbrev pub with_tick : Found → ℕ → Found
with_tick f tick = record f { first_tick = Some (unwrap_or f.first_tick tick); last_tick = Some tick }

-- the connection of a number ended
pub record TookEnd (tick conn : ℕ) (old new : Found) : Type 0 where
  pub counts : new.records ≡ with_end old.records
  pub first_tick : new.first_tick ≡ Some (unwrap_or old.first_tick tick)
  pub last_tick : new.last_tick ≡ Some tick
  pub messages : new.messages ≡ old.messages
  pub busy : new.busy ≡ old.busy
  pub few : length new.tails ≤ length old.tails
  pub own : tail_at new.tails conn ≡ empty_tail
  pub others : (c : ℕ) → c ≢ conn → tail_at new.tails c ≡ tail_at old.tails c
  pub ended : new.ended ≡ with_tail old.ended (tail_at old.tails conn)
  pub opened : new.opened ≡ opened_after_end (tail_at old.tails conn) old.opened

-- the record comes no earlier than these
abbrev pub IsNoEarlier : List Record → Record → Type 0
IsNoEarlier records (Piece tick conn bytes) = last_of (ticks_of records) ≤ tick
IsNoEarlier records (End tick conn) = last_of (ticks_of records) ≤ tick
IsNoEarlier records (Tier conn tier) = Unit {0}

-- there is room for the record after these
abbrev pub HasCapacityFor : List Record → Record → Type 0
HasCapacityFor records r = length records + sizes_of records + (size_of r + 1) ≤ longest_text

-- these records were read, and what they hold is kept
pub record Holds (records : List Record) (arrivals : List Arrival) (connections : List Connection)
    (f : Found) : Type 0 where
  pub reads : HaveRead records arrivals connections
  pub arrived : AreArrivals (used_once records) arrivals
  pub found : IsFound records arrivals f

-- so it is with one more record, and with the messages that arrive with it
abbrev pub HoldsMore : List Record → List Arrival → Record → List Connection → Found → Type 0
HoldsMore records arrivals r connections f =
    (more : List Arrival) × Holds (records ++ r ∷ []) (arrivals ++ more) connections f
