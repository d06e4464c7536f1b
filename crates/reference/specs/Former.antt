-- What the reference server did when there was one class of requests, one policy and one server, in the words of that
-- time: no request had a tier, no response a delay, no path a price of its own, and no traffic came faster. Texts,
-- arrivals and replies are those of today.
use Rattle.std.specs.Prelude.{◌≡◌, ℕ, ◌+◌, ◌-◌, ◌*◌, ◌/◌, List, [], ◌∷◌, ◌++◌, length, map, filter, count_by}
use Rattle.std.specs.Prelude.{flat_map, All, slice_index_or, Option, max, nat_le, if◌then◌else◌}
use Rattle.std.specs.List.{list_any, prefix_len, range_with_len}
use Rattle.std.specs.Io.KnownBytes.{Appends}
use Rattle.captures.specs.declared.version.Version.TheVariants.{One}
use Rattle.paths.specs.Reference.{asked, outcome}
use Rattle.paths.specs.declared.file.File.{File}
use Rattle.http_requests.specs.declared.messages.Meaning.{Meaning}
use Rattle.http_requests.specs.declared.messages.Meaning.TheVariants.{Request, Bad}
use Rattle.cost_model.specs.Reference.{CostTable, service}
use Rattle.admission.specs.declared.policy.PolicyNumbers.{PolicyNumbers}
use Rattle.admission.specs.declared.control.Control.{Control}
use Rattle.admission.specs.declared.control.Decision.{Decision}
use Rattle.admission.specs.declared.control.Decision.TheVariants.{Admitted, Rejected}
use Rattle.admission.specs.Reference.{rules_of, Offer, Decided, is_rejected, percentile_at, smoothed_at, rate_after}
use Rattle.admission.specs.Reference.{least_balance, tick_from}
use Rattle.arrivals.specs.Reference.{Arrival}
use Rattle.reference.specs.declared.summary.Outcome.{Outcome}
use Rattle.reference.specs.declared.summary.Tally.{Tally}
use Rattle.reference.specs.Reference.{Terms, station_for, is_head, Handled, length_found, is_unmodified_file, counts_of}
use Rattle.reference.specs.Choices.{at_speed}
use Rattle.reference.specs.Reference.{bypassed_of, rejected_of, replies_of, replies_text, ArrivedCapture}

-- what decisions depended on: the files, what a file and an error cost, and the one policy
pub record FormerTerms : Type 0 where
  pub files : List File
  pub costs : CostTable
  pub rules : PolicyNumbers

-- when an admitted request was finished
abbrev pub finish_in : Decision → List ℕ
finish_in (Admitted finish) = finish ∷ []
finish_in Rejected = []

-- the finishes of the admitted requests in their order, in which they never fell
abbrev pub former_finishes : List Decided → List ℕ
former_finishes past = flat_map (λ r. finish_in r.decision) past

-- how long each admitted request took, from its arrival to its finish
abbrev pub former_samples : List Decided → List ℕ
former_samples past = flat_map (λ r. map (λ finish. finish - r.offer.tick) (finish_in r.decision)) past

-- control k stood at the finish that made up k times `every`
abbrev pub former_control : PolicyNumbers → List Decided → ℕ → Control
former_control rules past k = record {
  instant = slice_index_or (former_finishes past) (k * rules.every - 1) 0;
  percentile = percentile_at rules (former_samples past) k;
  smoothed = smoothed_at rules (former_samples past) k;
  rate = rate_after rules (former_samples past) k;
}

-- the controls that there were up to a tick
abbrev pub former_controls : PolicyNumbers → List Decided → ℕ → List Control
former_controls rules past tick = filter (λ c. nat_le c.instant tick)
    (map (former_control rules past) (range_with_len 1 (length (former_finishes past) / rules.every)))

-- the rate in force at a tick: that of the last control whose requests were finished
abbrev pub former_rate : PolicyNumbers → List Decided → ℕ → ℕ
former_rate rules past tick = rate_after rules (former_samples past)
    (prefix_len (λ finish. nat_le finish tick) (former_finishes past) / rules.every)

-- the last of these ticks
unfoldable pub last_of : ℕ → List ℕ → ℕ
last_of before [] = before
last_of before (tick ∷ ticks) = last_of tick ticks

-- how many units of credit made a token
abbrev pub token : ℕ
token = 1000000000

-- A request was admitted exactly where the bucket held a token. Its service began when it came, or at the finish
-- before, whichever was later.
abbrev pub former_decision : PolicyNumbers → List Decided → Offer → Decision
former_decision rules past offer =
    if nat_le token (least_balance (former_rate rules past) (rules.depth * token) offer.tick past)
    then (Admitted (max (last_of 0 (former_finishes past)) offer.tick + offer.service)) else Rejected

-- the offer of a message that came at a tick: none where it broke a rule, and so was no request (an offer has a
-- tier, a pool and a delay now: no decision here looks at them)
abbrev pub former_offer : FormerTerms → ℕ → Meaning → List Offer
former_offer terms tick (Request method target version closing since) =
    (let answer = outcome terms.files (asked method target) in
    let unmodified = is_unmodified_file terms.files since answer in
    record {
      pool = 0;
      tier = 0;
      tick = tick;
      service = service terms.costs answer (is_head method) unmodified (length_found terms.files answer);
      delay = 0;
    }) ∷ []
former_offer terms tick (Bad fault) = []

-- what became of a message that came after these requests
abbrev pub former_next : FormerTerms → List Decided → Arrival → List Decided
former_next terms past a = map (λ offer. record { offer = offer; decision = former_decision terms.rules past offer })
    (former_offer terms a.origin.tick a.message.what)

-- these requests, and those of messages that came after them, each decided by those before it
unfoldable pub former_decided : FormerTerms → List Decided → List Arrival → List Decided
former_decided terms past [] = past
former_decided terms past (a ∷ arrivals) = former_decided terms (past ++ former_next terms past a) arrivals

-- messages that came after these requests, the first of which has this number
unfoldable pub former_handled : FormerTerms → List Decided → ℕ → List Arrival → List Handled
former_handled terms past number [] = []
former_handled terms past number (a ∷ arrivals) = record {
  number = number;
  arrival = a;
  turned_away = list_any (λ r. is_rejected r.decision) (former_next terms past a);
} ∷ former_handled terms (past ++ former_next terms past a) (number + 1) arrivals

-- what became of the requests, and the controls up to the tick of the last of them
abbrev pub former_tally : PolicyNumbers → List Decided → Tally
former_tally rules past = record {
  admitted = length (former_samples past);
  rejected = count_by (λ r. is_rejected r.decision) past;
  controls = former_controls rules past (tick_from 0 (map (λ r. r.offer) past));
}

-- the tally of a tier that no request came in
abbrev pub no_requests : Tally
no_requests = record { admitted = 0; rejected = 0; controls = [] }

-- what there was of the terms: of the policies the first
abbrev pub former_terms : List File → Terms → FormerTerms
former_terms files terms = record { files = files; costs = terms.tariff.costs; rules = rules_of (station_for terms) 0 }

-- which messages were turned away, and what became of all, by tiers: all requests came in tier 0; and no pools
abbrev pub former_outcome : List File → Terms → List Arrival → Outcome
former_outcome files terms arrivals =
    (let messages = former_handled (former_terms files terms) [] 0 arrivals in
    let requests = former_decided (former_terms files terms) [] arrivals in
    record {
      version = One;
      rejected = rejected_of messages;
      summary = record {
        counts = counts_of files terms messages;
        bypassed = bypassed_of arrivals;
        samples = former_samples requests;
        tiers = former_tally (former_terms files terms).rules requests ∷ no_requests ∷ no_requests ∷ no_requests ∷ [];
        pools = [];
      };
    })

-- The former answer to a capture, which was of version 1, where a connection was its number and all were of one class
-- (an arrival has a tier now). Traffic came as it was recorded.
pub record FormerAnswers (files : List File) (terms : Terms) (input old new : Option (List ℕ))
    (outcome : Outcome) : Type 0 where
  pub read : ArrivedCapture input
  pub version : read.capture.version ≡ One
  pub plain : All (λ a. (a.origin.conn ≡ a.connection) × (a.origin.tier ≡ 0)) read.arrivals
  pub written : Appends old new (replies_text (replies_of files (at_speed 100 terms) read.capture.start
      (former_handled (former_terms files terms) [] 0 read.arrivals)))
  pub reported : outcome ≡ former_outcome files terms read.arrivals
