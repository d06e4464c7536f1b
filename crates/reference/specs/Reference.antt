-- What a reader has to believe: the definitions of this crate that the headline stands on, in reading order.
use Rattle.std.specs.Prelude.{ℕ, List, Bool, true, false, length, codes, bytes_eq, nat_le, Option, Some, None}
use Rattle.std.specs.Prelude.{if◌then◌else◌, [], ◌∷◌, ◌++◌, flat_map, ◌+◌, ◌/◌, map, decimal, ◌==◌, filter, count_by}
use Rattle.std.specs.Prelude.{◌≡◌, ◌≤◌, ◌*◌}
use Rattle.std.specs.List.{list_any}
use Rattle.std.specs.Io.KnownBytes.{Appends}
use Rattle.stage_graph.specs.Layouts.{Layout}
use Rattle.cost_model.specs.Reference.{Tariff, Charge, charge}
use Rattle.admission.specs.declared.policy.PolicyNumbers.{PolicyNumbers}
use Rattle.admission.specs.Reference.{Station, Offer, is_rejected, decide, decided, rules_of, Decided, served, samples}
use Rattle.admission.specs.Reference.{of_tier, controls_until, tick_from, pools_of}
use Rattle.paths.specs.declared.file.File.{File}
use Rattle.paths.specs.Reference.{file_of, asked, outcome}
use Rattle.paths.specs.declared.resolution.Outcome.{Outcome as PathOutcome}
use Rattle.http_requests.specs.Reference.{MessagesOf}
use Rattle.http_requests.specs.declared.messages.HttpVersion.{HttpVersion}
use Rattle.http_requests.specs.declared.messages.HttpVersion.TheVariants.{Http10, Http11}
use Rattle.http_requests.specs.declared.messages.MessageFault.{MessageFault}
use Rattle.http_requests.specs.declared.messages.MessageFault.TheVariants.{Coding, BodySize}
use Rattle.http_requests.specs.declared.messages.Meaning.{Meaning}
use Rattle.http_requests.specs.declared.messages.Meaning.TheVariants.{Request, Bad}
use Rattle.page_cache.specs.Reference.{media_of}
use Rattle.responses.specs.declared.slip.Persistence.{Persistence}
use Rattle.responses.specs.declared.slip.Persistence.TheVariants.{Close, KeepAlive, Silent}
use Rattle.responses.specs.declared.slip.Status.{Status}
use Rattle.responses.specs.declared.slip.Status.TheVariants.{BadRequest, NotFound, MethodNotAllowed, ContentTooLarge}
use Rattle.responses.specs.declared.slip.Status.TheVariants.{NotImplemented, ServiceUnavailable}
use Rattle.responses.specs.declared.slip.ResponseKind.{ResponseKind}
use Rattle.responses.specs.declared.slip.ResponseKind.TheVariants.{Page, Known, Unmodified, Moved, Plain}
use Rattle.arrivals.specs.Reference.{Arrival, AreArrivals, text_of}
use Rattle.arrivals.specs.declared.incoming.Origin.{Origin}
use Rattle.responses.specs.declared.slip.Slip.{Slip}
use Rattle.responses.specs.Reference.{reply_text, record_text, status_of, statuses}
use Rattle.reference.specs.declared.summary.Counts.{Counts}
use Rattle.reference.specs.declared.summary.Summary.{Summary}
use Rattle.reference.specs.declared.summary.Tally.{Tally}
use Rattle.captures.specs.Reference.{WholeCapture, format_of, used_once}
use Rattle.reference.specs.declared.summary.Outcome.{Outcome}
use Rattle.paths.specs.declared.resolution.Outcome.TheVariants as outcomes

-- What an operator sets: how the engine works, and what is served.

-- how the engine works: the graphs of the two floors, the records of a batch, and the bytes of the cache
pub record FloorChoice : Type 0 where
  pub front : Layout
  pub back : Layout
  pub batch : ℕ
  pub cache : ℕ

-- what is served besides the files: what requests cost, the policies of the tiers, the seconds that a rejected request
-- is told to wait, and the percent of its speed at which traffic comes
pub record Terms : Type 0 where
  pub tariff : Tariff
  pub policies : List PolicyNumbers
  pub retry_after : ℕ
  pub speed : ℕ

pub record Choice : Type 0 where
  pub floors : FloorChoice
  pub served : Terms

-- the tick that a message from there counts with: traffic that comes faster has its ticks divided so, rounded down
abbrev pub tick_in : Terms → Origin → ℕ
tick_in terms origin = origin.tick * 100 / terms.speed

-- what requests come to
abbrev pub station_for : Terms → Station
station_for terms = record { policies = terms.policies; pools = terms.tariff.costs.servers ∷ terms.tariff.pools }

-- What each message is answered with: by the reference server, which has one thread, no stages and no cache, and takes
-- the messages one after another in the order of their arrival.

-- the status of a message that breaks a rule
abbrev pub fault_status : MessageFault → Status
fault_status Coding = NotImplemented
fault_status BodySize = ContentTooLarge
fault_status fault = BadRequest

-- a file was not modified since the date that the request names, where it names one (RFC 9110, 13.1.3)
abbrev pub is_unmodified : Option ℕ → ℕ → Bool
is_unmodified (Some date) mtime = nat_le mtime date
is_unmodified None mtime = false

-- a file is given, or only its head to HEAD; or it was not modified
abbrev pub file_answer : {X : Type 0} → List File → Bool → Option ℕ → ℕ → ResponseKind X
file_answer files head since file =
    if is_unmodified since (file_of files file).mtime then (Unmodified (file_of files file).mtime)
    else if head then (Known (media_of (file_of files file).name) (length (file_of files file).bytes)
    (file_of files file).mtime)
    else (Page file (file_of files file).mtime)

abbrev pub outcome_answer : {X : Type 0} → List File → Bool → Option ℕ → PathOutcome → ResponseKind X
outcome_answer files head since (outcomes.File file) = file_answer files head since file
outcome_answer files head since (outcomes.Move location) = Moved location
outcome_answer files head since outcomes.Missing = Plain NotFound
outcome_answer files head since outcomes.BadTarget = Plain BadRequest
outcome_answer files head since outcomes.NotAllowed = Plain MethodNotAllowed
outcome_answer files head since outcomes.NotKnown = Plain NotImplemented

-- whether a method is HEAD; the answer to a message that breaks a rule is never that to HEAD
abbrev pub is_head : List ℕ → Bool
is_head method = bytes_eq method (codes "HEAD")

abbrev pub answers_head : Meaning → Bool
answers_head (Request method target version closing since) = is_head method
answers_head (Bad fault) = false

-- what a message is answered with
abbrev pub answer : {X : Type 0} → List File → Meaning → ResponseKind X
answer files (Request method target version closing since) = outcome_answer files (is_head method) since
    (outcome files (asked method target))
answer files (Bad fault) = Plain (fault_status fault)

-- what the reply says of its connection (RFC 9112, 9.3)
abbrev pub request_persistence : HttpVersion → Bool → Persistence
request_persistence version true = Close
request_persistence Http10 false = KeepAlive
request_persistence Http11 false = Silent

abbrev pub persistence_of : Meaning → Persistence
persistence_of (Request method target version closing since) = request_persistence version closing
persistence_of (Bad fault) = Close

-- how a message is answered: a request that is turned away may come again in n seconds; each other message is
-- answered
abbrev pub response : {X : Type 0} → List File → Terms → Bool → Meaning → ResponseKind X
response files terms true what = Plain (ServiceUnavailable terms.retry_after)
response files terms false what = answer files what

-- Which messages are offered to the admission control, and which of them it turns away.

-- how many bytes the file has that a request is answered with, and whether they were not modified since the date that
-- it names
abbrev pub length_found : List File → PathOutcome → ℕ
length_found files (outcomes.File file) = length (file_of files file).bytes
length_found files other = 0

abbrev pub is_unmodified_file : List File → Option ℕ → PathOutcome → Bool
is_unmodified_file files since (outcomes.File file) = is_unmodified since (file_of files file).mtime
is_unmodified_file files since other = false

-- what a request with this target and this outcome costs
abbrev pub charge_of : List File → Terms → List ℕ → Bool → Option ℕ → PathOutcome → Charge
charge_of files terms target head since o = charge terms.tariff target o head (is_unmodified_file files since o)
    (length_found files o)

-- the offer of a request that came from there and costs this
abbrev pub offer_of : Terms → Origin → Charge → Offer
offer_of terms origin cost = record {
  pool = cost.pool;
  tier = origin.tier;
  tick = tick_in terms origin;
  service = cost.service;
  delay = cost.delay;
}

-- the offer of a message that came from there: none where it breaks a rule, and so is no request
abbrev pub offer_at : List File → Terms → Origin → Meaning → List Offer
offer_at files terms origin (Request method target version closing since) = offer_of terms origin
    (charge_of files terms target (is_head method) since (outcome files (asked method target))) ∷ []
offer_at files terms origin (Bad fault) = []

-- the offers of these arrivals, in their order
unfoldable pub offers_of : List File → Terms → List Arrival → List Offer
offers_of files terms arrivals = flat_map (λ a. offer_at files terms a.origin a.message.what) arrivals

-- whether an offer that comes after these is turned away
unfoldable pub rejects : Station → List Offer → Offer → Bool
rejects station offers offer = is_rejected (decide station (decided station offers) offer)

-- a message is turned away where the offer that it makes after those of the earlier ones is
abbrev pub is_turned_away : List File → Terms → List Arrival → Arrival → Bool
is_turned_away files terms earlier a = list_any (rejects (station_for terms) (offers_of files terms earlier))
    (offer_at files terms a.origin a.message.what)

-- a message, its number, and whether it was turned away
pub record Handled : Type 0 where
  pub number : ℕ
  pub arrival : Arrival
  pub turned_away : Bool

abbrev pub handled_next : List File → Terms → List Arrival → Arrival → Handled
handled_next files terms earlier a = record {
  number = length earlier;
  arrival = a;
  turned_away = is_turned_away files terms earlier a;
}

-- these messages after the earlier ones, each in turn, as those before it decide
unfoldable pub handled_after : List File → Terms → List Arrival → List Arrival → List Handled
handled_after files terms earlier [] = []
handled_after files terms earlier (a ∷ arrivals) = handled_next files terms earlier a
    ∷ handled_after files terms (earlier ++ a ∷ []) arrivals

abbrev pub handled : List File → Terms → List Arrival → List Handled
handled files terms arrivals = handled_after files terms [] arrivals

-- The replies to the messages of a capture, and their text.

-- the slip of a message, of a capture that begins at `start` (seconds since 1970-01-01); a tick is a microsecond
abbrev pub slip_of : {X : Type 0} → List File → Terms → ℕ → Handled → Slip X
slip_of files terms start h = record {
  number = h.number;
  conn = h.arrival.origin.conn;
  date = start + tick_in terms h.arrival.origin / 1000000;
  head = answers_head h.arrival.message.what;
  link = persistence_of h.arrival.message.what;
  what = response files terms h.turned_away h.arrival.message.what;
}

-- the reply to a message: its number, its connection, and the reply's text
unfoldable pub reply_of : List File → Terms → ℕ → Handled → ℕ × ℕ × List ℕ
reply_of files terms start h =
    (h.number, h.arrival.origin.conn, reply_text files (slip_of {X = Unit {0}} files terms start h))

abbrev pub replies_of : List File → Terms → ℕ → List Handled → List (ℕ × ℕ × List ℕ)
replies_of files terms start messages = map (reply_of files terms start) messages

-- the first line, the replies' records, and the last line
abbrev pub first_line : List ℕ
first_line = codes "haboob-replies 1\n"

abbrev pub last_line : ℕ → List ℕ
last_line count = codes "stop " ++ decimal count ++ codes "\n"

-- the text without its last line: what is written while messages may still come
abbrev pub text_before_stop : List (ℕ × ℕ × List ℕ) → List ℕ
text_before_stop replies = first_line ++ flat_map record_text replies

abbrev pub replies_text : List (ℕ × ℕ × List ℕ) → List ℕ
replies_text replies = text_before_stop replies ++ last_line (length replies)

-- How many messages there were of each kind, and how long the admitted requests took.

-- a message that breaks a rule is no request: it is offered to nobody
abbrev pub breaks_a_rule : Meaning → Bool
breaks_a_rule (Bad fault) = true
breaks_a_rule (Request method target version closing since) = false

-- the status that a message is answered with
abbrev pub status_for : List File → Terms → Handled → ℕ
status_for files terms h = status_of (response {X = Unit {0}} files terms h.turned_away h.arrival.message.what)

abbrev pub count_of : List File → Terms → List Handled → ℕ → ℕ
count_of files terms messages status = count_by (λ h. status_for files terms h == status) messages

-- how many messages were answered with each status
abbrev pub counts_of : List File → Terms → List Handled → Counts
counts_of files terms messages = record { by_status = map (count_of files terms messages) statuses }

abbrev pub bypassed_of : List Arrival → ℕ
bypassed_of arrivals = count_by (λ a. breaks_a_rule a.message.what) arrivals

-- the numbers of the messages that were turned away
abbrev pub rejected_of : List Handled → List ℕ
rejected_of messages = map (λ h. h.number) (filter (λ h. h.turned_away) messages)

-- how long the response to each admitted request took
unfoldable pub samples_of : Station → List Offer → List ℕ
samples_of station offers = samples (served (decided station offers))

-- the requests of one tier, and what became of them
abbrev pub decided_in : Station → List Offer → ℕ → List Decided
decided_in station offers tier = of_tier tier (decided station offers)

-- what became of the requests of one tier: how many were admitted and how many rejected, and the changes of its rate,
-- up to the tick of the last offer of any tier
unfoldable pub tally_of : Station → List Offer → ℕ → Tally
tally_of station offers tier = record {
  admitted = length (served (decided_in station offers tier));
  rejected = count_by (λ r. is_rejected r.decision) (decided_in station offers tier);
  controls = controls_until (rules_of station tier) (served (decided_in station offers tier)) (tick_from 0 offers);
}

abbrev pub tallies_of : Station → List Offer → List Tally
tallies_of station offers = map (tally_of station offers) (0 ∷ 1 ∷ 2 ∷ 3 ∷ [])

-- what became of these arrivals
abbrev pub summary_of : List File → Terms → List Arrival → Summary
summary_of files terms arrivals = record {
  counts = counts_of files terms (handled files terms arrivals);
  bypassed = bypassed_of arrivals;
  samples = samples_of (station_for terms) (offers_of files terms arrivals);
  tiers = tallies_of (station_for terms) (offers_of files terms arrivals);
  pools = pools_of (station_for terms) (offers_of files terms arrivals);
}

-- What a replay comes to: its outcome, or a fault, and what it has written.

-- the input is a text of recorded traffic, and these are the messages that arrive with its records: no more than its
-- format allows
pub record ArrivedCapture (input : Option (List ℕ)) : Type 0 where
  pub capture : WholeCapture input
  pub arrivals : List Arrival
  pub are : AreArrivals (used_once capture.records) arrivals
  pub few : length arrivals ≤ (format_of capture.version).max_messages

-- the replies text of messages that one thread handles, one after another
abbrev pub one_thread : List File → Terms → ℕ → List Arrival → List ℕ
one_thread files terms start arrivals = replies_text (replies_of files terms start (handled files terms arrivals))

-- the messages that were handled on a connection, in this order
abbrev pub handled_on : ℕ → List Handled → List Handled
handled_on c messages = filter (λ h. h.arrival.connection == c) messages

-- The answer of the reference server to a capture.
pub record Answers (files : List File) (terms : Terms) (input old new : Option (List ℕ))
    (outcome : Outcome) : Type 0 where
  -- the captured requests, in arrival order
  pub read : ArrivedCapture input
  -- exactly the replies text of one thread that handles them one after another was written
  pub written_exactly : Appends old new (one_thread files terms read.capture.start read.arrivals)
  -- exactly the rejected requests are listed
  pub listed_exactly : outcome.rejected ≡ rejected_of (handled files terms read.arrivals)
  -- what was handled on each connection is, in this order, what its text asks for
  pub in_request_order : (c : ℕ) → MessagesOf (text_of c (used_once read.capture.records))
      (map (λ h. h.arrival.message) (handled_on c (handled files terms read.arrivals)))
  -- the counts, the samples, each tier's tally, and the pools' figures
  pub figures : outcome.summary ≡ summary_of files terms read.arrivals
  -- the format of the text
  pub format : outcome.version ≡ read.capture.version
