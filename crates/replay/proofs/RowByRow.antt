-- The row of one more message, and the rows of more.
use Rattle.std.proofs.Common.{◌≡◌, ℕ, Bool, true, false, List, [], ◌∷◌, ◌||◌, Option, Some, refl, sym, ap, ◌∙◌}
use Rattle.std.specs.Prelude.{if◌then◌else◌}
use Rattle.std.specs.List.{list_any}
use Rattle.std.specs.Option.{option_map}
use Rattle.paths.specs.Reference.{asked, outcome, file_of}
use Rattle.paths.specs.declared.file.File.{File}
use Rattle.paths.specs.declared.resolution.Outcome.{Outcome}
use Rattle.paths.specs.declared.resolution.Outcome.TheVariants as outcomes
use Rattle.cost_model.specs.Reference.{Tariff, Charge}
use Rattle.http_requests.specs.declared.messages.MessageFault.TheVariants as faults
use Rattle.http_requests.specs.declared.messages.Meaning.{Meaning}
use Rattle.http_requests.specs.declared.messages.Meaning.TheVariants.{Request, Bad}
use Rattle.admission.specs.declared.control.Outlook.{Outlook}
use Rattle.admission.specs.declared.control.Decision.TheVariants.{Admitted, Rejected}
use Rattle.admission.specs.Reference.{Station, Offer, served, finish_in, is_rejected, decide, decided}
use Rattle.admission.specs.After.{outlook, ControllerAfter, StandsAsBefore}
use Rattle.admission.specs.Standing.{Standing, station_of}
use Rattle.responses.specs.Reference.{status_of}
use Rattle.responses.specs.declared.slip.ResponseKind.{ResponseKind}
use Rattle.responses.specs.declared.slip.Slip.{Slip}
use Rattle.decision_table.specs.declared.row.Row.{Row}
use Rattle.decision_table.specs.Rows.{row_text}
use Rattle.arrivals.specs.Reference.{Arrival}
use Rattle.arrivals.specs.declared.incoming.Origin.{Origin}
use Rattle.reference.specs.Reference.{station_for, Terms, tick_in, response, outcome_answer, is_unmodified, is_head, charge_of, offer_at, offers_of, rejects, is_turned_away, handled_next, slip_of}
use Rattle.replay.specs.Fronts.{lookup_of}
use Rattle.replay.specs.Serving.{Counted}
use Rattle.reference.specs.Explaining.{has_pools, first_offered, row_of, method_of, target_of, row_after, rows_after}
use Rattle.replay.specs.Rowing.{charge_in, pool_of, turns_away, offered_with, outlook_after}
use Rattle.replay.specs.declared.decider.Decider.{Decider}
use Rattle.replay.specs.declared.lookup.Lookup.{Lookup}
use Rattle.reference.proofs.Table.{rows_one, alone}
use Rattle.reference.proofs.SameAnswer.{status_same}

-- ---- what became of a message

-- no answer turns a request away
if_answered : {X : Type 0} (t : Bool) (x y : ResponseKind X) → turns_away x ≡ false → turns_away y ≡ false → turns_away (if t then x else y) ≡ false
if_answered true x y one other = one
if_answered false x y one other = other

answered : (X : Type 0) (files : List File) (head : Bool) (since : Option ℕ) (o : Outcome) → turns_away (outcome_answer {X = X} files head since o) ≡ false
answered X files head since (outcomes.File file) =
    if_answered (is_unmodified since (file_of files file).mtime) _ _ refl (if_answered head _ _ refl refl)
answered X files head since (outcomes.Move location) = refl
answered X files head since outcomes.Missing = refl
answered X files head since outcomes.BadTarget = refl
answered X files head since outcomes.NotAllowed = refl
answered X files head since outcomes.NotKnown = refl

away_is : (X : Type 0) (files : List File) (terms : Terms) (away : Bool) (what : Meaning) → turns_away (response {X = X} files terms away what) ≡ away
away_is X files terms true what = refl
away_is X files terms false (Request method target version closing since) = answered X files (is_head method) since (outcome files (asked method target))
away_is X files terms false (Bad faults.TooLong) = refl
away_is X files terms false (Bad faults.Block) = refl
away_is X files terms false (Bad faults.Host) = refl
away_is X files terms false (Bad faults.Coding) = refl
away_is X files terms false (Bad faults.Length) = refl
away_is X files terms false (Bad faults.BodySize) = refl

-- the decision on an offer, by whether it is turned away
by_away : (enough : Bool) (own : ℕ) (away : Bool) → away ≡ is_rejected (if enough then (Admitted own) else Rejected)
    → (if away then Rejected else (Admitted own)) ≡ (if enough then (Admitted own) else Rejected)
by_away true own away e = rw e refl
by_away false own away e = rw e refl

decision_is : (station : Station) (offers : List Offer) (offer : Offer) (away : Bool) → away ≡ list_any (rejects station offers) (offer ∷ [])
    → (if away then Rejected else (Admitted (finish_in station (served (decided station offers)) offer))) ≡ decide station (decided station offers) offer
unfolding rejects
decision_is station offers offer away e =
    let d = decide station (decided station offers) offer in
    let any : list_any (rejects station offers) (offer ∷ []) ≡ (is_rejected d || false) = refl in
    by_away _ _ away (e ∙ any ∙ alone (is_rejected d))

offered_is : (files : List File) (terms : Terms) (arrivals : List Arrival) (origin : Origin) (what : Meaning) (charge : Option Charge) (found : Outlook) (away : Bool)
    → charge ≡ charge_in (lookup_of files terms.tariff what) → found ≡ outlook_after files terms arrivals (pool_of charge) origin.tier (tick_in terms origin)
    → away ≡ list_any (rejects (station_for terms) (offers_of files terms arrivals)) (offer_at files terms origin what)
    → option_map (λ c. offered_with found (tick_in terms origin) c away) charge ≡ first_offered files terms arrivals (offer_at files terms origin what)
offered_is files terms arrivals origin (Request method target version closing since) charge found away costs finds is =
    let decision = decision_is (station_for terms) (offers_of files terms arrivals) _ away is in
    let cost = charge_of files terms target (is_head method) since (outcome files (asked method target)) in
    let found_is : found ≡ outlook_after files terms arrivals cost.pool origin.tier (tick_in terms origin) =
    finds ∙ ap (λ c. outlook_after files terms arrivals (pool_of c) origin.tier (tick_in terms origin)) costs in
    rw (costs, found_is)
    (ap (λ d. Some (record { service = cost.service; pool = cost.pool; found = outlook_after files terms arrivals cost.pool origin.tier (tick_in terms origin); decision = d })) decision)
offered_is files terms arrivals origin (Bad fault) charge found away costs finds is = rw costs refl

pub row_is : (X : Type 0) (files : List File) (terms : Terms) (start : ℕ) (arrivals : List Arrival) (a : Arrival) (origin : Origin) (tick : ℕ) (charge : Option Charge) (found : Outlook) (slip : Slip X) (pools : Bool) (row : Row)
    → a.origin ≡ origin → tick ≡ tick_in terms origin → pools ≡ has_pools terms → charge ≡ charge_in (lookup_of files terms.tariff a.message.what)
    → found ≡ outlook_after files terms arrivals (pool_of charge) origin.tier tick → slip ≡ slip_of files terms start (handled_next files terms arrivals a)
    → row ≡ record { number = slip.number; conn = slip.conn; tick = tick; tier = origin.tier; status = status_of slip.what; pools = pools; offered = option_map (λ c. offered_with found tick c (turns_away slip.what)) charge }
    → row ≡ row_of files terms arrivals a
row_is X files terms start arrivals a origin tick charge found slip pools row from timed pooled costs finds slips is =
    let away = is_turned_away files terms arrivals a in
    let response_of = offered_is files terms arrivals a.origin a.message.what charge found away costs (rw (from, ← timed) finds) refl in
    is ∙ rw (timed, pooled, slips, ← from, away_is X files terms away a.message.what, status_same X (Unit {0}) files terms away a.message.what, response_of) refl

-- ---- one row written

-- the decider has seen the same messages after it was asked what a request finds
pub stands_still : (files : List File) (terms : Terms) (arrivals : List Arrival) (decider : Decider) (controller : Standing) → StandsAsBefore decider.controller controller → Counted files terms arrivals decider
    → Counted files terms arrivals (record { start = decider.start; most = decider.most; controller = controller; totals = decider.totals })
stands_still files terms arrivals decider controller same stands = record {
  early = stands.early;
  most = stands.most;
  station = same.station ∙ stands.station;
  fits = same.fits (offers_of files terms arrivals) stands.fits;
  totals = stands.totals;
  few = stands.few;
}

-- what the decider foresees
pub foreseen : (files : List File) (terms : Terms) (arrivals : List Arrival) (decider : Decider) (found : Outlook) (pool tier tick : ℕ) → Counted files terms arrivals decider
    → ((offers : List Offer) → ControllerAfter offers decider.controller → found ≡ outlook (station_of decider.controller) (decided (station_of decider.controller) offers) pool tier tick)
    → found ≡ outlook_after files terms arrivals pool tier tick
foreseen files terms arrivals decider found pool tier tick stands finds = rw stands.station at (finds (offers_of files terms arrivals) stands.fits)

pub row_written : (files : List File) (terms : Terms) (arrivals : List Arrival) (a : Arrival) (row : Row) (what : Meaning) (method target : List ℕ) → row ≡ row_of files terms arrivals a → a.message.what ≡ what
    → method ≡ method_of what → target ≡ target_of what → row_text row method target ≡ rows_after files terms arrivals (a ∷ [])
unfolding row_after
row_written files terms arrivals a row what method target is meaning methods targets =
    ap (λ r. row_text r method target) is ∙ ap (λ m. row_text (row_of files terms arrivals a) m target) (methods ∙ ap method_of (sym meaning))
    ∙ ap (λ t. row_text (row_of files terms arrivals a) (method_of a.message.what) t) (targets ∙ ap target_of (sym meaning)) ∙ sym (rows_one files terms arrivals a)

-- what a message comes to, as it was looked into
pub costs_known : (files : List File) (tariff : Tariff) (said what : Meaning) (lookup : Lookup) (charge : Option Charge)
    → charge ≡ charge_in lookup → lookup ≡ lookup_of files tariff said → what ≡ said → charge ≡ charge_in (lookup_of files tariff what)
costs_known files tariff said what lookup charge is sees meaning = is ∙ ap charge_in sees ∙ ap (λ w. charge_in (lookup_of files tariff w)) (sym meaning)
