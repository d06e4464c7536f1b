-- Traffic that comes faster is answered as if it had been recorded with its ticks divided.
use Rattle.std.proofs.Common.{◌≡◌, ℕ, ◌+◌, ◌*◌, ◌/◌, ◌==◌, Bool, true, false, cond, List, [], ◌∷◌, ◌++◌, map, filter, Some, refl, sym, ap, ◌∙◌, arith}
use Rattle.std.proofs.Math.Nat.{mul-div_cancel}
use Rattle.std.specs.List.{list_any}
use Rattle.std.proofs.lemmas.List.{length-map, map-append}
use Rattle.std.proofs.lemmas.List.Sums.{sum_by-cons}
use Rattle.admission.specs.Reference.{Offer, decide, decided, pools_of}
use Rattle.admission.specs.After.{outlook}
use Rattle.http_requests.specs.declared.messages.Meaning.{Meaning}
use Rattle.http_requests.specs.declared.messages.Meaning.TheVariants.{Request, Bad}
use Rattle.paths.specs.Reference.{asked, outcome}
use Rattle.responses.specs.Reference.{reply_text, statuses}
use Rattle.responses.specs.declared.slip.Slip.{Slip}
use Rattle.arrivals.specs.Reference.{Arrival}
use Rattle.decision_table.specs.Rows.{heading, row_text}
use Rattle.reference.specs.Reference.{Terms, station_for, tick_in, is_head, answers_head, persistence_of, response, charge_of, Handled, offer_at, offers_of, rejects, handled_next, handled_after, handled, slip_of, reply_of, replies_of, rejected_of, status_for, count_of, bypassed_of, breaks_a_rule, summary_of, samples_of, tallies_of}
use Rattle.reference.specs.Explaining.{has_pools, first_offered, row_after, rows_after, method_of, target_of}
use Rattle.reference.specs.Choices.{at_speed}
use Rattle.reference.specs.Laws.{hurried, SpeedDividesTicks}
use Rattle.paths.specs.declared.file.File.{File}

-- ---- the tick

tick_same : (t : Terms) (a : Arrival) → tick_in (at_speed 100 t) (hurried t.speed a).origin ≡ tick_in t a.origin
tick_same t a = mul-div_cancel (a.origin.tick * 100 / t.speed) (omega arith)

-- ---- what is decided

offer_same : (files : List File) (t : Terms) (a : Arrival) (what : Meaning) → offer_at files (at_speed 100 t) (hurried t.speed a).origin what ≡ offer_at files t a.origin what
offer_same files t a (Request method target version closing since) =
    let cost = charge_of files t target (is_head method) since (outcome files (asked method target)) in
    λ i. record { pool = cost.pool; tier = a.origin.tier; tick = tick_same t a i; service = cost.service; delay = cost.delay } ∷ []
offer_same files t a (Bad fault) = refl

offers_same : (files : List File) (t : Terms) (xs : List Arrival) → offers_of files (at_speed 100 t) (map (hurried t.speed) xs) ≡ offers_of files t xs
unfolding offers_of
offers_same files t [] = refl
offers_same files t (x ∷ xs) = λ i. offer_same files t x x.message.what i ++ offers_same files t xs i

abbrev sooner : ℕ → Handled → Handled
sooner speed h = record { number = h.number; arrival = hurried speed h.arrival; turned_away = h.turned_away }

next_same : (files : List File) (t : Terms) (earlier : List Arrival) (a : Arrival) → handled_next files (at_speed 100 t) (map (hurried t.speed) earlier) (hurried t.speed a) ≡ sooner t.speed (handled_next files t earlier a)
next_same files t earlier a = λ i. record {
  number = length-map earlier (hurried t.speed) i;
  arrival = hurried t.speed a;
  turned_away = list_any (rejects (station_for t) (offers_same files t earlier i)) (offer_same files t a a.message.what i);
}

handled_same : (files : List File) (t : Terms) (earlier xs : List Arrival) → handled_after files (at_speed 100 t) (map (hurried t.speed) earlier) (map (hurried t.speed) xs) ≡ map (sooner t.speed) (handled_after files t earlier xs)
unfolding handled_after
handled_same files t earlier [] = refl
handled_same files t earlier (a ∷ xs) =
    ap (λ e. handled_next files (at_speed 100 t) (map (hurried t.speed) earlier) (hurried t.speed a) ∷ handled_after files (at_speed 100 t) e (map (hurried t.speed) xs)) (sym (map-append (hurried t.speed) earlier (a ∷ [])))
    ∙ ap (λ l. handled_next files (at_speed 100 t) (map (hurried t.speed) earlier) (hurried t.speed a) ∷ l) (handled_same files t (earlier ++ a ∷ []) xs)
    ∙ ap (λ h. h ∷ map (sooner t.speed) (handled_after files t (earlier ++ a ∷ []) xs)) (next_same files t earlier a)

-- ---- what comes of it

slip_same : (files : List File) (t : Terms) (start : ℕ) (h : Handled) → ◌≡◌ {A = Slip Unit} (slip_of files (at_speed 100 t) start (sooner t.speed h)) (slip_of files t start h)
slip_same files t start h = λ i. record {
  number = h.number;
  conn = h.arrival.origin.conn;
  date = start + tick_same t h.arrival i / 1000000;
  head = answers_head h.arrival.message.what;
  link = persistence_of h.arrival.message.what;
  what = response files t h.turned_away h.arrival.message.what;
}

reply_same : (files : List File) (t : Terms) (start : ℕ) (h : Handled) → reply_of files (at_speed 100 t) start (sooner t.speed h) ≡ reply_of files t start h
unfolding reply_of
reply_same files t start h = λ i. (h.number, h.arrival.origin.conn, reply_text files (slip_same files t start h i))

replies_same : (files : List File) (t : Terms) (start : ℕ) (hs : List Handled) → replies_of files (at_speed 100 t) start (map (sooner t.speed) hs) ≡ replies_of files t start hs
replies_same files t start [] = refl
replies_same files t start (h ∷ hs) = λ i. reply_same files t start h i ∷ replies_same files t start hs i

rejected_same : (speed : ℕ) (hs : List Handled) → rejected_of (map (sooner speed) hs) ≡ rejected_of hs
rejected_same speed [] = refl
rejected_same speed (h ∷ hs) = go h.turned_away (rejected_same speed hs)
  where
    go : (b : Bool) → rejected_of (map (sooner speed) hs) ≡ rejected_of hs
        → map (λ h. h.number) (cond b (sooner speed h ∷ filter (λ h. h.turned_away) (map (sooner speed) hs)) (filter (λ h. h.turned_away) (map (sooner speed) hs)))
        ≡ map (λ h. h.number) (cond b (h ∷ filter (λ h. h.turned_away) hs) (filter (λ h. h.turned_away) hs))
    go true rest = ap (λ l. h.number ∷ l) rest
    go false rest = rest

count_same : (files : List File) (t : Terms) (status : ℕ) (hs : List Handled) → count_of files (at_speed 100 t) (map (sooner t.speed) hs) status ≡ count_of files t hs status
count_same files t status [] = refl
count_same files t status (h ∷ hs) =
    sum_by-cons (λ h. cond (status_for files (at_speed 100 t) h == status) 1 0) (sooner t.speed h) (map (sooner t.speed) hs)
    ∙ ap (λ n. cond (status_for files t h == status) 1 0 + n) (count_same files t status hs)
    ∙ sym (sum_by-cons (λ h. cond (status_for files t h == status) 1 0) h hs)

bypassed_same : (speed : ℕ) (xs : List Arrival) → bypassed_of (map (hurried speed) xs) ≡ bypassed_of xs
bypassed_same speed [] = refl
bypassed_same speed (a ∷ xs) =
    sum_by-cons (λ a. cond (breaks_a_rule a.message.what) 1 0) (hurried speed a) (map (hurried speed) xs)
    ∙ ap (λ n. cond (breaks_a_rule a.message.what) 1 0 + n) (bypassed_same speed xs)
    ∙ sym (sum_by-cons (λ a. cond (breaks_a_rule a.message.what) 1 0) a xs)

summary_same : (files : List File) (t : Terms) (xs : List Arrival) → summary_of files (at_speed 100 t) (map (hurried t.speed) xs) ≡ summary_of files t xs
summary_same files t xs =
    let hs : handled files (at_speed 100 t) (map (hurried t.speed) xs) ≡ map (sooner t.speed) (handled files t xs) = handled_same files t [] xs in
    λ i. record {
      counts = record { by_status = (ap (λ l. map (count_of files (at_speed 100 t) l) statuses) hs ∙ (λ j. map (λ status. count_same files t status (handled files t xs) j) statuses)) i };
      bypassed = bypassed_same t.speed xs i;
      samples = samples_of (station_for t) (offers_same files t xs i);
      tiers = tallies_of (station_for t) (offers_same files t xs i);
      pools = pools_of (station_for t) (offers_same files t xs i);
    }

first_same : (files : List File) (t : Terms) (earlier : List Arrival) (offers : List Offer) → first_offered files (at_speed 100 t) (map (hurried t.speed) earlier) offers ≡ first_offered files t earlier offers
first_same files t earlier [] = refl
first_same files t earlier (o ∷ offers) = λ i. Some (record {
  service = o.service;
  pool = o.pool;
  found = outlook (station_for t) (decided (station_for t) (offers_same files t earlier i)) o.pool o.tier o.tick;
  decision = decide (station_for t) (decided (station_for t) (offers_same files t earlier i)) o;
})

row_same : (files : List File) (t : Terms) (earlier : List Arrival) (a : Arrival) → row_after files (at_speed 100 t) (map (hurried t.speed) earlier) (hurried t.speed a) ≡ row_after files t earlier a
unfolding row_after
row_same files t earlier a = λ i. row_text (record {
  number = length-map earlier (hurried t.speed) i;
  conn = a.origin.conn;
  tick = tick_same t a i;
  tier = a.origin.tier;
  status = status_for files (at_speed 100 t) (next_same files t earlier a i);
  pools = has_pools t;
  offered = (ap (first_offered files (at_speed 100 t) (map (hurried t.speed) earlier)) (offer_same files t a a.message.what) ∙ first_same files t earlier (offer_at files t a.origin a.message.what)) i;
}) (method_of a.message.what) (target_of a.message.what)

rows_same : (files : List File) (t : Terms) (earlier xs : List Arrival) → rows_after files (at_speed 100 t) (map (hurried t.speed) earlier) (map (hurried t.speed) xs) ≡ rows_after files t earlier xs
unfolding rows_after
rows_same files t earlier [] = refl
rows_same files t earlier (a ∷ xs) =
    ap (λ e. row_after files (at_speed 100 t) (map (hurried t.speed) earlier) (hurried t.speed a) ++ rows_after files (at_speed 100 t) e (map (hurried t.speed) xs)) (sym (map-append (hurried t.speed) earlier (a ∷ [])))
    ∙ ap (λ l. row_after files (at_speed 100 t) (map (hurried t.speed) earlier) (hurried t.speed a) ++ l) (rows_same files t (earlier ++ a ∷ []) xs)
    ∙ ap (λ l. l ++ rows_after files t (earlier ++ a ∷ []) xs) (row_same files t earlier a)

pub by_speed : SpeedDividesTicks
by_speed files t start xs =
    let hs = handled_same files t [] xs in (
      sym (ap (replies_of files (at_speed 100 t) start) hs ∙ replies_same files t start (handled files t xs)),
      sym (ap rejected_of hs ∙ rejected_same t.speed (handled files t xs)),
      sym (summary_same files t xs),
      sym (ap (λ r. heading (has_pools t) ++ r) (rows_same files t [] xs)),
    )
