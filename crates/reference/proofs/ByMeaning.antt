-- Answers depend on where messages come from and on what they mean.
use Rattle.std.proofs.Common.{◌≡◌, ℕ, ◌+◌, ◌==◌, Bool, true, false, cond, List, [], ◌∷◌, ◌++◌, map, filter, Some, refl, sym, ap, ◌∙◌}
use Rattle.std.specs.List.{list_any}
use Rattle.std.proofs.lemmas.List.{length-map, map-append}
use Rattle.std.proofs.lemmas.List.Sums.{sum_by-cons}
use Rattle.admission.specs.Reference.{Offer, decide, decided, pools_of}
use Rattle.admission.specs.After.{outlook}
use Rattle.http_requests.specs.declared.messages.Meaning.{Meaning}
use Rattle.responses.specs.Reference.{statuses}
use Rattle.arrivals.specs.Reference.{Arrival}
use Rattle.arrivals.specs.declared.incoming.Origin.{Origin}
use Rattle.decision_table.specs.Rows.{heading, row_text}
use Rattle.reference.specs.Reference.{Terms, station_for, tick_in, Handled, offer_at, offers_of, rejects, handled_next, handled_after, handled, reply_of, replies_of, rejected_of, status_for, count_of, bypassed_of, breaks_a_rule, summary_of, samples_of, tallies_of}
use Rattle.reference.specs.Explaining.{has_pools, first_offered, row_after, rows_after, table, method_of, target_of}
use Rattle.reference.specs.Laws.{asked_by, AnswersByMeaning}
use Rattle.paths.specs.declared.file.File.{File}

-- ---- the same message somewhere else

asking : Origin × Meaning → Arrival
asking q = record { origin = q.0; connection = 0; place = 0; message = record { end = 0; what = q.1 } }

abbrev normal : Arrival → Arrival
normal a = record { origin = a.origin; connection = 0; place = 0; message = record { end = 0; what = a.message.what } }

normal_by : (xs : List Arrival) → map normal xs ≡ map asking (map asked_by xs)
unfolding asking
normal_by [] = refl
normal_by (x ∷ xs) = ap (λ l. normal x ∷ l) (normal_by xs)

same_normal : (xs ys : List Arrival) → map asked_by xs ≡ map asked_by ys → map normal xs ≡ map normal ys
same_normal xs ys same = normal_by xs ∙ ap (map asking) same ∙ sym (normal_by ys)

-- ---- what is decided on it

offers_normal : (files : List File) (t : Terms) (xs : List Arrival) → offers_of files t (map normal xs) ≡ offers_of files t xs
unfolding offers_of
offers_normal files t [] = refl
offers_normal files t (x ∷ xs) = ap (λ l. offer_at files t x.origin x.message.what ++ l) (offers_normal files t xs)

abbrev elsewhere : Handled → Handled
elsewhere h = record { number = h.number; arrival = normal h.arrival; turned_away = h.turned_away }

next_normal : (files : List File) (t : Terms) (earlier : List Arrival) (a : Arrival) → handled_next files t (map normal earlier) (normal a) ≡ elsewhere (handled_next files t earlier a)
next_normal files t earlier a = λ i. record {
  number = length-map earlier normal i;
  arrival = normal a;
  turned_away = list_any (rejects (station_for t) (offers_normal files t earlier i)) (offer_at files t a.origin a.message.what);
}

handled_normal : (files : List File) (t : Terms) (earlier xs : List Arrival) → handled_after files t (map normal earlier) (map normal xs) ≡ map elsewhere (handled_after files t earlier xs)
unfolding handled_after
handled_normal files t earlier [] = refl
handled_normal files t earlier (a ∷ xs) =
    ap (λ e. handled_next files t (map normal earlier) (normal a) ∷ handled_after files t e (map normal xs)) (sym (map-append normal earlier (a ∷ [])))
    ∙ ap (λ l. handled_next files t (map normal earlier) (normal a) ∷ l) (handled_normal files t (earlier ++ a ∷ []) xs)
    ∙ ap (λ h. h ∷ map elsewhere (handled_after files t (earlier ++ a ∷ []) xs)) (next_normal files t earlier a)

-- ---- what comes of it

replies_normal : (files : List File) (t : Terms) (start : ℕ) (hs : List Handled) → replies_of files t start (map elsewhere hs) ≡ replies_of files t start hs
unfolding reply_of
replies_normal files t start [] = refl
replies_normal files t start (h ∷ hs) = ap (λ l. reply_of files t start h ∷ l) (replies_normal files t start hs)

rejected_normal : (hs : List Handled) → rejected_of (map elsewhere hs) ≡ rejected_of hs
rejected_normal [] = refl
rejected_normal (h ∷ hs) = go h.turned_away (rejected_normal hs)
  where
    go : (b : Bool) → rejected_of (map elsewhere hs) ≡ rejected_of hs
        → map (λ h. h.number) (cond b (elsewhere h ∷ filter (λ h. h.turned_away) (map elsewhere hs)) (filter (λ h. h.turned_away) (map elsewhere hs)))
        ≡ map (λ h. h.number) (cond b (h ∷ filter (λ h. h.turned_away) hs) (filter (λ h. h.turned_away) hs))
    go true rest = ap (λ l. h.number ∷ l) rest
    go false rest = rest

count_normal : (files : List File) (t : Terms) (status : ℕ) (hs : List Handled) → count_of files t (map elsewhere hs) status ≡ count_of files t hs status
count_normal files t status [] = refl
count_normal files t status (h ∷ hs) =
    sum_by-cons (λ h. cond (status_for files t h == status) 1 0) (elsewhere h) (map elsewhere hs)
    ∙ ap (λ n. cond (status_for files t h == status) 1 0 + n) (count_normal files t status hs)
    ∙ sym (sum_by-cons (λ h. cond (status_for files t h == status) 1 0) h hs)

bypassed_normal : (xs : List Arrival) → bypassed_of (map normal xs) ≡ bypassed_of xs
bypassed_normal [] = refl
bypassed_normal (a ∷ xs) =
    sum_by-cons (λ a. cond (breaks_a_rule a.message.what) 1 0) (normal a) (map normal xs)
    ∙ ap (λ n. cond (breaks_a_rule a.message.what) 1 0 + n) (bypassed_normal xs)
    ∙ sym (sum_by-cons (λ a. cond (breaks_a_rule a.message.what) 1 0) a xs)

summary_normal : (files : List File) (t : Terms) (xs : List Arrival) → summary_of files t (map normal xs) ≡ summary_of files t xs
summary_normal files t xs =
    let hs : handled files t (map normal xs) ≡ map elsewhere (handled files t xs) = handled_normal files t [] xs in
    λ i. record {
      counts = record { by_status = (ap (λ l. map (count_of files t l) statuses) hs ∙ (λ j. map (λ status. count_normal files t status (handled files t xs) j) statuses)) i };
      bypassed = bypassed_normal xs i;
      samples = samples_of (station_for t) (offers_normal files t xs i);
      tiers = tallies_of (station_for t) (offers_normal files t xs i);
      pools = pools_of (station_for t) (offers_normal files t xs i);
    }

first_normal : (files : List File) (t : Terms) (earlier : List Arrival) (offers : List Offer) → first_offered files t (map normal earlier) offers ≡ first_offered files t earlier offers
first_normal files t earlier [] = refl
first_normal files t earlier (o ∷ offers) = λ i. Some (record {
  service = o.service;
  pool = o.pool;
  found = outlook (station_for t) (decided (station_for t) (offers_normal files t earlier i)) o.pool o.tier o.tick;
  decision = decide (station_for t) (decided (station_for t) (offers_normal files t earlier i)) o;
})

row_normal : (files : List File) (t : Terms) (earlier : List Arrival) (a : Arrival) → row_after files t (map normal earlier) (normal a) ≡ row_after files t earlier a
unfolding row_after
row_normal files t earlier a = λ i. row_text (record {
  number = length-map earlier normal i;
  conn = a.origin.conn;
  tick = tick_in t a.origin;
  tier = a.origin.tier;
  status = status_for files t (next_normal files t earlier a i);
  pools = has_pools t;
  offered = first_normal files t earlier (offer_at files t a.origin a.message.what) i;
}) (method_of a.message.what) (target_of a.message.what)

rows_normal : (files : List File) (t : Terms) (earlier xs : List Arrival) → rows_after files t (map normal earlier) (map normal xs) ≡ rows_after files t earlier xs
unfolding rows_after
rows_normal files t earlier [] = refl
rows_normal files t earlier (a ∷ xs) =
    ap (λ e. row_after files t (map normal earlier) (normal a) ++ rows_after files t e (map normal xs)) (sym (map-append normal earlier (a ∷ [])))
    ∙ ap (λ l. row_after files t (map normal earlier) (normal a) ++ l) (rows_normal files t (earlier ++ a ∷ []) xs)
    ∙ ap (λ l. l ++ rows_after files t (earlier ++ a ∷ []) xs) (row_normal files t earlier a)

pub by_meaning : AnswersByMeaning
by_meaning files t start xs ys same =
    let n = same_normal xs ys same in
    let hx = handled_normal files t [] xs in
    let hy = handled_normal files t [] ys in (
      sym (replies_normal files t start (handled files t xs)) ∙ ap (replies_of files t start) (sym hx ∙ ap (handled files t) n ∙ hy) ∙ replies_normal files t start (handled files t ys),
      sym (rejected_normal (handled files t xs)) ∙ ap rejected_of (sym hx ∙ ap (handled files t) n ∙ hy) ∙ rejected_normal (handled files t ys),
      sym (summary_normal files t xs) ∙ ap (summary_of files t) n ∙ summary_normal files t ys,
      sym (ap (λ r. heading (has_pools t) ++ r) (rows_normal files t [] xs)) ∙ ap (table files t) n ∙ ap (λ r. heading (has_pools t) ++ r) (rows_normal files t [] ys),
    )
