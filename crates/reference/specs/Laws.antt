-- What follows from the definitions.
use Rattle.std.specs.Prelude.{◌≡◌, ℕ, ◌+◌, ◌-◌, Bool, List, [], ◌++◌, take, Option, Some, None, true}
use Rattle.std.specs.Prelude.{false, is_some, map, filter, ◌==◌, ◌*◌, ◌/◌}
use Rattle.captures.specs.declared.record.Record.{Record}
use Rattle.captures.specs.declared.version.Version.{Version}
use Rattle.captures.specs.declared.version.Version.TheVariants.{One, Two}
use Rattle.captures.specs.Reference.{format_of, used_once}
use Rattle.captures.specs.declared.capture_fault.CaptureFault.{CaptureFault}
use Rattle.captures.specs.CaptureFaults.{is_unforeseen_kind}
use Rattle.captures.specs.Upgrades.{later, IsUpgrade}
use Rattle.admission.specs.Reference.{rules_of, Offer, is_rejected}
use Rattle.admission.specs.declared.control.Decision.TheVariants.{Admitted}
use Rattle.decision_table.specs.declared.row.Offered.{Offered}
use Rattle.paths.specs.declared.file.File.{File}
use Rattle.reference.specs.declared.summary.Outcome.{Outcome}
use Rattle.arrivals.specs.Reference.{Arrival, AreArrivals}
use Rattle.arrivals.specs.Connections.{IsNumber}
use Rattle.http_requests.specs.declared.messages.Meaning.{Meaning}
use Rattle.arrivals.specs.declared.incoming.Origin.{Origin}
use Rattle.reference.specs.Reference.{Terms, station_for, Handled, handled, handled_next, Answers}
use Rattle.reference.specs.Reference.{handled_on, replies_of, reply_of, rejected_of, summary_of}
use Rattle.cost_model.specs.Reference.{Tariff}
use Rattle.admission.specs.declared.policy.PolicyNumbers.{PolicyNumbers}
use Rattle.reference.specs.Choices.{with_tariff, with_policies, at_speed}
use Rattle.reference.specs.Explaining.{offered_after, row_of, table}
use Rattle.reference.specs.Outcomes.{Stops, StopsFull}
use Rattle.reference.specs.Former.{FormerAnswers}

-- a capture has one answer: what is written to a device of known bytes, and the outcome
abbrev pub OneAnswer : Type 0
OneAnswer = (files : List File) (terms : Terms) (input old new other : Option (List ℕ)) (outcome another : Outcome)
    → is_some input ≡ true → is_some old ≡ true
    → Answers files terms input old new outcome → Answers files terms input old other another → (new ≡ other)
    × (outcome ≡ another)

-- No input of known bytes has two of these: an answer; a fault of the capture that isn't a failed read or being out of
-- memory; messages beyond the limit. Settings make no difference.
abbrev pub AnsweredNotFaulty : Type 0
AnsweredNotFaulty = (files : List File) (terms : Terms) (other_files : List File) (others : Terms)
    (input ahead old new before after : Option (List ℕ)) (outcome : Outcome)
    → (f : CaptureFault) → is_some input ≡ true → is_unforeseen_kind f.kind ≡ false
    → Answers files terms input old new outcome → Stops other_files others input ahead before after f → ⊥

abbrev pub AnsweredNotFull : Type 0
AnsweredNotFull = (files : List File) (terms : Terms) (other_files : List File) (others : Terms)
    (input old new before after : Option (List ℕ)) (outcome : Outcome) (number : ℕ)
    → is_some input ≡ true → Answers files terms input old new outcome
    → StopsFull other_files others input before after number → ⊥

abbrev pub FaultyNotFull : Type 0
FaultyNotFull = (files : List File) (terms : Terms) (other_files : List File) (others : Terms)
    (input ahead old new before after : Option (List ℕ)) (f : CaptureFault)
    → (number : ℕ) → is_some input ≡ true → is_unforeseen_kind f.kind ≡ false
    → Stops files terms input ahead old new f → StopsFull other_files others input before after number → ⊥

-- such a fault is one, and so is what is written to a device of known bytes
abbrev pub OneFault : Type 0
OneFault = (files : List File) (terms : Terms) (input ahead following old new other : Option (List ℕ))
    (f g : CaptureFault)
    → is_some input ≡ true → is_some old ≡ true → is_unforeseen_kind f.kind ≡ false → is_unforeseen_kind g.kind ≡ false
    → Stops files terms input ahead old new f → Stops files terms input following old other g → (new ≡ other) × (f ≡ g)

-- what is written up to the limit is one too
abbrev pub OneLimit : Type 0
OneLimit = (files : List File) (terms : Terms) (input old new other : Option (List ℕ)) (number another : ℕ)
    → is_some input ≡ true → is_some old ≡ true
    → StopsFull files terms input old new number → StopsFull files terms input old other another
    → (new ≡ other) × (number ≡ another)

-- What requests cost changes no reply, and so no route does: a message that is turned away by both tariffs, or by
-- neither, has one reply.
abbrev pub TariffsChangeNoReply : Type 0
TariffsChangeNoReply = (files : List File) (terms : Terms) (tariff : Tariff) (start : ℕ) (earlier : List Arrival)
    (a : Arrival)
    → (handled_next files terms earlier a).turned_away
    ≡ (handled_next files (with_tariff tariff terms) earlier a).turned_away
    → reply_of files terms start (handled_next files terms earlier a)
    ≡ reply_of files (with_tariff tariff terms) start (handled_next files (with_tariff tariff terms) earlier a)

-- Where numbers are used once, the replies of a number are those to the messages of its connection, in their order.
abbrev pub RepliesInRequestOrder : Type 0
RepliesInRequestOrder = (files : List File) (terms : Terms) (input old new : Option (List ℕ)) (outcome : Outcome)
    → (answers : Answers files terms input old new outcome) → (c : ℕ)
    → IsNumber c → (format_of answers.read.capture.version).used_again ≡ false
    → filter (λ reply. reply.1 == c)
    (replies_of files terms answers.read.capture.start (handled files terms answers.read.arrivals))
    ≡ replies_of files terms answers.read.capture.start (handled_on c (handled files terms answers.read.arrivals))

-- more arrivals change nothing of the numbers and the rejections of those before
abbrev pub HandledBegin : Type 0
HandledBegin = (files : List File) (terms : Terms) (arrivals more : List Arrival) → (rest : List Handled)
    × (handled files terms (arrivals ++ more) ≡ handled files terms arrivals ++ rest)

-- the replies that are due for messages that arrived: to those within the limit of the format
abbrev pub due : Version → List File → Terms → ℕ → List Arrival → List (ℕ × ℕ × List ℕ)
due v files terms start arrivals = replies_of files terms start
    (handled files terms (take (format_of v).max_messages arrivals))

-- more records add replies that are due at the end: those due for the first records are the first of those due for all
abbrev pub DueBegin : Type 0
DueBegin = (v : Version) (files : List File) (terms : Terms) (start : ℕ) (records more : List Record)
    (xs ys : List Arrival)
    → AreArrivals (used_once records) xs → AreArrivals (used_once (records ++ more)) ys
    → (rest : List (ℕ × ℕ × List ℕ)) × (due v files terms start ys ≡ due v files terms start xs ++ rest)

-- ---- rows and replies

abbrev pub is_row_rejected : Option Offered → Bool
is_row_rejected None = false
is_row_rejected (Some o) = is_rejected o.decision

-- a row says that a request was rejected exactly where its reply turns it away
abbrev pub RowsAgree : Type 0
RowsAgree = (files : List File) (terms : Terms) (earlier : List Arrival) (a : Arrival)
    → is_row_rejected (row_of files terms earlier a).offered ≡ (handled_next files terms earlier a).turned_away

-- the service of an admitted request begins when it came, or once it has waited as long as its row says
abbrev pub StartsOnceFree : Type 0
StartsOnceFree = (files : List File) (terms : Terms) (earlier : List Arrival) (offer : Offer) (finish : ℕ)
    → (offered_after files terms earlier offer).decision ≡ Admitted finish
    → finish - offer.service ≡ offer.tick + ((offered_after files terms earlier offer).found.free - offer.tick)

-- ---- one policy and four

-- each key that came since then is at its default
pub record AtDefaults (terms : Terms) : Type 0 where
  pub routes : terms.tariff.routes ≡ []
  pub servers : terms.tariff.costs.servers ≡ 1
  pub pools : terms.tariff.pools ≡ []
  pub delay : terms.tariff.costs.delay ≡ 0
  pub speed : terms.speed ≡ 100

-- the answer to a capture of version 1 is the former one, with the first policy
abbrev pub SameInVersionOne : Type 0
SameInVersionOne = (files : List File) (terms : Terms) (input old new : Option (List ℕ)) (outcome : Outcome)
    → AtDefaults terms → (answers : Answers files terms input old new outcome)
    → answers.read.capture.version ≡ One → FormerAnswers files terms input old new outcome

-- and each former answer is that to a capture of version 1, whatever the policies of tiers 1 to 3
abbrev pub FormerAnswersHold : Type 0
FormerAnswersHold = (files : List File) (terms : Terms) (input old new : Option (List ℕ)) (outcome : Outcome)
    → AtDefaults terms → FormerAnswers files terms input old new outcome
    → (answers : Answers files terms input old new outcome) × (answers.read.capture.version ≡ One)

-- the outcome of the same records in another format
abbrev pub reported_in : Version → Outcome → Outcome
reported_in version outcome =
    record { version = version; rejected = outcome.rejected; summary = outcome.summary }

-- a capture of version 1 and its upgraded text have the same answers but for their format, whatever the policies of
-- tiers 1 to 3
abbrev pub UpgradeKeepsAnswers : Type 0
UpgradeKeepsAnswers = (files : List File) (terms : Terms) (policies : List PolicyNumbers)
    (text upgraded : List ℕ) (old new : Option (List ℕ)) (outcome : Outcome)
    → (upgrade : IsUpgrade Two text upgraded) → upgrade.version ≡ One
    → rules_of (station_for terms) 0 ≡ rules_of (station_for (with_policies policies terms)) 0
    → (Answers files terms (Some text) old new outcome
    → Answers files (with_policies policies terms) (Some upgraded) old new (reported_in Two outcome))
    × (Answers files terms (Some upgraded) old new outcome
    → Answers files (with_policies policies terms) (Some text) old new (reported_in One outcome))

-- a text of recorded traffic and its upgraded one have the same answers but for their format: so have a capture and the
-- same traffic in the format that is days long
abbrev pub UpgradeKeepsReplies : Type 0
UpgradeKeepsReplies = (files : List File) (terms : Terms) (to : Version) (text upgraded : List ℕ)
    (old new : Option (List ℕ))
    (outcome : Outcome) → (upgrade : IsUpgrade to text upgraded)
    → Answers files terms (Some text) old new outcome
    → Answers files terms (Some upgraded) old new (reported_in (later to upgrade.version) outcome)

-- what of an arrival answers depend on: its number, tick and tier, and what it means
abbrev pub asked_by : Arrival → Origin × Meaning
asked_by a = (a.origin, a.message.what)

-- Messages that come from the same origins with the same meanings have the same replies, the same are turned away, and
-- the summary and the table of decisions are the same, whatever the terms: neither where a message lies in a text nor
-- which record brought it, nor how a number's connections are counted, changes an answer.
abbrev pub AnswersByMeaning : Type 0
AnswersByMeaning = (files : List File) (terms : Terms) (start : ℕ) (xs ys : List Arrival)
    → map asked_by xs ≡ map asked_by ys
    → (replies_of files terms start (handled files terms xs) ≡ replies_of files terms start (handled files terms ys))
    × (rejected_of (handled files terms xs) ≡ rejected_of (handled files terms ys))
    × (summary_of files terms xs ≡ summary_of files terms ys)
    × (table files terms xs ≡ table files terms ys)

-- a message whose tick is divided, for so many percent of the speed
abbrev pub hurried : ℕ → Arrival → Arrival
hurried speed a = record {
  origin = record { conn = a.origin.conn; tick = a.origin.tick * 100 / speed; tier = a.origin.tier };
  connection = a.connection;
  place = a.place;
  message = a.message;
}

-- At a speed the replies, the messages that are turned away, the summary and the table are those of the same messages
-- in the same order, as if they had been recorded with their ticks divided so.
abbrev pub SpeedDividesTicks : Type 0
SpeedDividesTicks = (files : List File) (terms : Terms) (start : ℕ) (arrivals : List Arrival)
    → (replies_of files terms start (handled files terms arrivals)
    ≡ replies_of files (at_speed 100 terms) start
    (handled files (at_speed 100 terms) (map (hurried terms.speed) arrivals)))
    × (rejected_of (handled files terms arrivals)
    ≡ rejected_of (handled files (at_speed 100 terms) (map (hurried terms.speed) arrivals)))
    × (summary_of files terms arrivals ≡ summary_of files (at_speed 100 terms) (map (hurried terms.speed) arrivals))
    × (table files terms arrivals ≡ table files (at_speed 100 terms) (map (hurried terms.speed) arrivals))
