-- Messages without their queries are answered the same.
use Rattle.std.proofs.Common.{◌≡◌, ℕ, ◌+◌, ◌/◌, ◌==◌, Bool, true, false, cond, List, [], ◌∷◌, ◌++◌, codes, map, filter, Some, refl, sym, ap, ap₂, ◌∙◌}
use Rattle.std.specs.List.{list_any}
use Rattle.std.proofs.lemmas.List.{length-map, map-append}
use Rattle.std.proofs.lemmas.List.Sums.{sum_by-cons}
use Rattle.admission.specs.Reference.{Offer, decide, decided, pools_of}
use Rattle.admission.specs.After.{outlook}
use Rattle.cost_model.specs.Reference.{charge_on, route_of}
use Rattle.paths.specs.Reference.{asked, outcome}
use Rattle.http_requests.specs.declared.messages.Meaning.{Meaning}
use Rattle.http_requests.specs.declared.messages.Meaning.TheVariants.{Request, Bad}
use Rattle.responses.specs.Reference.{statuses, status_of, reply_text}
use Rattle.arrivals.specs.Reference.{Arrival}
use Rattle.arrivals.specs.declared.incoming.Origin.{Origin}
use Rattle.reference.specs.Reference.{Terms, station_for, tick_in, offer_of, is_unmodified_file, length_found, Handled, offer_at, offers_of, rejects, handled_next, handled_after, handled, reply_of, replies_of, slip_of, response, answers_head, persistence_of, is_head, outcome_answer, rejected_of, status_for, count_of, bypassed_of, breaks_a_rule, summary_of, samples_of, tallies_of}
use Rattle.reference.specs.Explaining.{has_pools, first_offered, method_of, row_of}
use Rattle.slim.specs.declared.queries.Queries.{Queries}
use Rattle.slim.specs.declared.queries.Queries.TheVariants.{Kept, Dropped}
use Rattle.slim.specs.Targets.{kept_target, kept_what, kept_arrival, kept_arrivals}
use Rattle.slim.specs.Laws.{rows_but_targets, QueriesChangeNothing}
use Rattle.slim.proofs.WithoutQuery.{asks_the_same}
use Rattle.paths.specs.declared.file.File.{File}

-- ---- one message

asked_same : (queries : Queries) (method target : List ℕ) → asked method (kept_target queries target) ≡ asked method target
asked_same Kept method target = refl
asked_same Dropped method target = asks_the_same method target

offer_same : (q : Queries) (files : List File) (t : Terms) (o : Origin) (what : Meaning) → offer_at files t o (kept_what q what) ≡ offer_at files t o what
offer_same q files t o (Request method target version closing since) =
    ap₂ (λ a g. offer_of t o (charge_on t.tariff.costs (route_of t.tariff.routes g) (outcome files a) (is_head method) (is_unmodified_file files since (outcome files a)) (length_found files (outcome files a))) ∷ [])
    (asked_same q method target) (asked_same q (codes "GET") target)
offer_same q files t o (Bad fault) = refl

given_same : {X : Type 0} (q : Queries) (files : List File) (t : Terms) (away : Bool) (what : Meaning) → response {X = X} files t away (kept_what q what) ≡ response {X = X} files t away what
given_same q files t true what = refl
given_same {X} q files t false (Request method target version closing since) =
    ap (λ a. outcome_answer {X = X} files (is_head method) since (outcome files a)) (asked_same q method target)
given_same q files t false (Bad fault) = refl

head_same : (q : Queries) (what : Meaning) → answers_head (kept_what q what) ≡ answers_head what
head_same q (Request method target version closing since) = refl
head_same q (Bad fault) = refl

link_same : (q : Queries) (what : Meaning) → persistence_of (kept_what q what) ≡ persistence_of what
link_same q (Request method target version closing since) = refl
link_same q (Bad fault) = refl

breaks_same : (q : Queries) (what : Meaning) → breaks_a_rule (kept_what q what) ≡ breaks_a_rule what
breaks_same q (Request method target version closing since) = refl
breaks_same q (Bad fault) = refl

method_same : (q : Queries) (what : Meaning) → method_of (kept_what q what) ≡ method_of what
method_same q (Request method target version closing since) = refl
method_same q (Bad fault) = refl

-- ---- what is decided on it

offers_same : (q : Queries) (files : List File) (t : Terms) (xs : List Arrival) → offers_of files t (map (kept_arrival q) xs) ≡ offers_of files t xs
unfolding offers_of
offers_same q files t [] = refl
offers_same q files t (x ∷ xs) = ap₂ (λ a b. a ++ b) (offer_same q files t x.origin x.message.what) (offers_same q files t xs)

abbrev without : Queries → Handled → Handled
without q h = record { number = h.number; arrival = kept_arrival q h.arrival; turned_away = h.turned_away }

next_same : (q : Queries) (files : List File) (t : Terms) (earlier : List Arrival) (a : Arrival) → handled_next files t (map (kept_arrival q) earlier) (kept_arrival q a) ≡ without q (handled_next files t earlier a)
next_same q files t earlier a = λ i. record {
  number = length-map earlier (kept_arrival q) i;
  arrival = kept_arrival q a;
  turned_away = list_any (rejects (station_for t) (offers_same q files t earlier i)) (offer_same q files t a.origin a.message.what i);
}

handled_same : (q : Queries) (files : List File) (t : Terms) (earlier xs : List Arrival) → handled_after files t (map (kept_arrival q) earlier) (map (kept_arrival q) xs) ≡ map (without q) (handled_after files t earlier xs)
unfolding handled_after
handled_same q files t earlier [] = refl
handled_same q files t earlier (a ∷ xs) =
    ap (λ e. handled_next files t (map (kept_arrival q) earlier) (kept_arrival q a) ∷ handled_after files t e (map (kept_arrival q) xs)) (sym (map-append (kept_arrival q) earlier (a ∷ [])))
    ∙ ap (λ l. handled_next files t (map (kept_arrival q) earlier) (kept_arrival q a) ∷ l) (handled_same q files t (earlier ++ a ∷ []) xs)
    ∙ ap (λ h. h ∷ map (without q) (handled_after files t (earlier ++ a ∷ []) xs)) (next_same q files t earlier a)

-- ---- what comes of it

reply_same : (q : Queries) (files : List File) (t : Terms) (start : ℕ) (h : Handled) → reply_of files t start (without q h) ≡ reply_of files t start h
unfolding reply_of
reply_same q files t start h = λ i. (h.number, h.arrival.origin.conn, reply_text files (slip i))
  where
    slip : slip_of {X = Unit {0}} files t start (without q h) ≡ slip_of {X = Unit {0}} files t start h
    slip = λ i. record {
      number = h.number;
      conn = h.arrival.origin.conn;
      date = start + tick_in t h.arrival.origin / 1000000;
      head = head_same q h.arrival.message.what i;
      link = link_same q h.arrival.message.what i;
      what = given_same {X = Unit {0}} q files t h.turned_away h.arrival.message.what i;
    }

replies_same : (q : Queries) (files : List File) (t : Terms) (start : ℕ) (hs : List Handled) → replies_of files t start (map (without q) hs) ≡ replies_of files t start hs
replies_same q files t start [] = refl
replies_same q files t start (h ∷ hs) = ap₂ (λ r l. r ∷ l) (reply_same q files t start h) (replies_same q files t start hs)

rejected_same : (q : Queries) (hs : List Handled) → rejected_of (map (without q) hs) ≡ rejected_of hs
rejected_same q [] = refl
rejected_same q (h ∷ hs) = go h.turned_away (rejected_same q hs)
  where
    go : (b : Bool) → rejected_of (map (without q) hs) ≡ rejected_of hs
        → map (λ h. h.number) (cond b (without q h ∷ filter (λ h. h.turned_away) (map (without q) hs)) (filter (λ h. h.turned_away) (map (without q) hs)))
        ≡ map (λ h. h.number) (cond b (h ∷ filter (λ h. h.turned_away) hs) (filter (λ h. h.turned_away) hs))
    go true rest = ap (λ l. h.number ∷ l) rest
    go false rest = rest

status_same : (q : Queries) (files : List File) (t : Terms) (h : Handled) → status_for files t (without q h) ≡ status_for files t h
status_same q files t h = ap (λ g. status_of g) (given_same {X = Unit {0}} q files t h.turned_away h.arrival.message.what)

count_same : (q : Queries) (files : List File) (t : Terms) (status : ℕ) (hs : List Handled) → count_of files t (map (without q) hs) status ≡ count_of files t hs status
count_same q files t status [] = refl
count_same q files t status (h ∷ hs) =
    sum_by-cons (λ h. cond (status_for files t h == status) 1 0) (without q h) (map (without q) hs)
    ∙ ap₂ (λ m n. cond (m == status) 1 0 + n) (status_same q files t h) (count_same q files t status hs)
    ∙ sym (sum_by-cons (λ h. cond (status_for files t h == status) 1 0) h hs)

bypassed_same : (q : Queries) (xs : List Arrival) → bypassed_of (map (kept_arrival q) xs) ≡ bypassed_of xs
bypassed_same q [] = refl
bypassed_same q (a ∷ xs) =
    sum_by-cons (λ a. cond (breaks_a_rule a.message.what) 1 0) (kept_arrival q a) (map (kept_arrival q) xs)
    ∙ ap₂ (λ b n. cond b 1 0 + n) (breaks_same q a.message.what) (bypassed_same q xs)
    ∙ sym (sum_by-cons (λ a. cond (breaks_a_rule a.message.what) 1 0) a xs)

summary_same : (q : Queries) (files : List File) (t : Terms) (xs : List Arrival) → summary_of files t (map (kept_arrival q) xs) ≡ summary_of files t xs
summary_same q files t xs =
    let hs : handled files t (map (kept_arrival q) xs) ≡ map (without q) (handled files t xs) = handled_same q files t [] xs in
    λ i. record {
      counts = record { by_status = (ap (λ l. map (count_of files t l) statuses) hs ∙ (λ j. map (λ status. count_same q files t status (handled files t xs) j) statuses)) i };
      bypassed = bypassed_same q xs i;
      samples = samples_of (station_for t) (offers_same q files t xs i);
      tiers = tallies_of (station_for t) (offers_same q files t xs i);
      pools = pools_of (station_for t) (offers_same q files t xs i);
    }

first_same : (q : Queries) (files : List File) (t : Terms) (earlier : List Arrival) (offers : List Offer) → first_offered files t (map (kept_arrival q) earlier) offers ≡ first_offered files t earlier offers
first_same q files t earlier [] = refl
first_same q files t earlier (o ∷ offers) = λ i. Some (record {
  service = o.service;
  pool = o.pool;
  found = outlook (station_for t) (decided (station_for t) (offers_same q files t earlier i)) o.pool o.tier o.tick;
  decision = decide (station_for t) (decided (station_for t) (offers_same q files t earlier i)) o;
})

row_same : (q : Queries) (files : List File) (t : Terms) (earlier : List Arrival) (a : Arrival) → row_of files t (map (kept_arrival q) earlier) (kept_arrival q a) ≡ row_of files t earlier a
row_same q files t earlier a =
    let status : status_for files t (handled_next files t (map (kept_arrival q) earlier) (kept_arrival q a)) ≡ status_for files t (handled_next files t earlier a) =
    ap (status_for files t) (next_same q files t earlier a) ∙ status_same q files t (handled_next files t earlier a) in
    let offered = ap (first_offered files t (map (kept_arrival q) earlier)) (offer_same q files t a.origin a.message.what) ∙ first_same q files t earlier (offer_at files t a.origin a.message.what) in
    λ i. record {
      number = length-map earlier (kept_arrival q) i;
      conn = a.origin.conn;
      tick = tick_in t a.origin;
      tier = a.origin.tier;
      status = status i;
      pools = has_pools t;
      offered = offered i;
    }

rows_same : (q : Queries) (files : List File) (t : Terms) (earlier xs : List Arrival) → rows_but_targets files t (map (kept_arrival q) earlier) (map (kept_arrival q) xs) ≡ rows_but_targets files t earlier xs
unfolding rows_but_targets
rows_same q files t earlier [] = refl
rows_same q files t earlier (a ∷ xs) =
    ap (λ e. (row_of files t (map (kept_arrival q) earlier) (kept_arrival q a), method_of (kept_what q a.message.what)) ∷ rows_but_targets files t e (map (kept_arrival q) xs)) (sym (map-append (kept_arrival q) earlier (a ∷ [])))
    ∙ ap (λ l. (row_of files t (map (kept_arrival q) earlier) (kept_arrival q a), method_of (kept_what q a.message.what)) ∷ l) (rows_same q files t (earlier ++ a ∷ []) xs)
    ∙ ap₂ (λ r m. (r, m) ∷ rows_but_targets files t (earlier ++ a ∷ []) xs) (row_same q files t earlier a) (method_same q a.message.what)

pub change_nothing : QueriesChangeNothing
unfolding kept_arrivals
change_nothing q files t start xs = (
  ap (replies_of files t start) (handled_same q files t [] xs) ∙ replies_same q files t start (handled files t xs),
  ap rejected_of (handled_same q files t [] xs) ∙ rejected_same q (handled files t xs),
  summary_same q files t xs,
  rows_same q files t [] xs,
)
