-- A capture of version 1 is answered as before there were tiers, and its upgraded text as it is.
use Rattle.std.proofs.Common.{◌≡◌, ℕ, ◌+◌, ◌-◌, ◌*◌, ◌/◌, ◌≤◌, ◌||◌, max, Bool, List, [], ◌∷◌, ◌++◌, length, map, take, get_or, Option, None, Some, refl, sym, ap, ◌∙◌, subst, arith, All, append-nil, append_assoc}
use Rattle.std.specs.List.{list_any, filter, range_with_len}
use Rattle.std.specs.Prelude.{nat_le, codes, if◌then◌else◌}
use Rattle.std.specs.Io.KnownBytes.{Appends}
use Rattle.std.proofs.Math.Nat.{zero-div, mul-div_cancel}
use Rattle.std.proofs.lemmas.List.{length-map, length-append, map-append}
use Rattle.std.proofs.lemmas.List.Elements.{All-nil, All-head, All-tail, All-take, All-push}
use Rattle.http_requests.specs.declared.messages.Meaning.{Meaning}
use Rattle.http_requests.specs.declared.messages.Meaning.TheVariants.{Request, Bad}
use Rattle.captures.specs.declared.record.Record.{Record}
use Rattle.captures.specs.declared.version.Version.{Version}
use Rattle.captures.specs.declared.version.Version.TheVariants.{One, Two}
use Rattle.captures.specs.Reference.{format_of, used_once, IsRecord, IsCapture, IsCaptureText}
use Rattle.captures.specs.Upgrades.{later, upgraded}
use Rattle.captures.proofs.Agree.{one_list}
use Rattle.captures.proofs.Tiers.{tiers_of_version_one}
use Rattle.captures.proofs.UpgradeLaws.{upgrade_is, numbers_once, more_messages}
use Rattle.cost_model.specs.Reference.{route_of}
use Rattle.paths.specs.declared.target.Asked.{Asked}
use Rattle.paths.specs.declared.target.Asked.TheVariants as asked_for
use Rattle.admission.specs.declared.policy.PolicyNumbers.{PolicyNumbers}
use Rattle.admission.specs.declared.control.Decision.{Decision}
use Rattle.admission.specs.declared.control.Decision.TheVariants.{Admitted, Rejected}
use Rattle.admission.specs.Reference.{Station, rules_of, Offer, Decided, Served, servers_of, of_tier, of_pool, as_served, served, finishes, samples, sample, is_rejected, by_completion, control_at, controls_until, least_balance, rate_at, finish_in as finish_of, decide, decided_next, decided_from, decided, tick_from, figures_of, figures_in, with_figures, pools_of}
use Rattle.admission.specs.OneTier.{AreOfTier}
use Rattle.admission.specs.Pools.{AreOfPool}
use Rattle.admission.specs.Laws.{RunsTo}
use Rattle.admission.specs.Servers.{HaveNoDelay, last_finish, offers_served, AreInOrder}
use Rattle.admission.proofs.RequestLemmas.{decided_from-push, of_tier-same, of_tier-other, of_tier-none, last_finish-push}
use Rattle.admission.proofs.PoolLemmas.{one_pool_serves_all}
use Rattle.admission.proofs.OrderLemmas.{one_server_in_order}
use Rattle.admission.proofs.TurnLemmas.{one_server_finishes, finish_from_finish}
use Rattle.arrivals.specs.declared.incoming.Origin.{Origin}
use Rattle.arrivals.specs.Reference.{Arrival, AreArrivals}
use Rattle.paths.specs.declared.file.File.{File}
use Rattle.paths.specs.Reference.{asked, outcome}
use Rattle.reference.specs.declared.summary.Outcome.{Outcome}
use Rattle.reference.proofs.InOrder.{outcome_is, numbers_are, answered}
use Rattle.reference.proofs.Offering.{offers_more}
use Rattle.reference.specs.Reference.{station_for, Terms, Handled, offer_at, offers_of, rejects, handled_after, handled, reply_of, replies_of, replies_text, counts_of, bypassed_of, rejected_of, samples_of, tally_of, tallies_of, Answers}
use Rattle.reference.specs.Outcomes.{outcome_of}
use Rattle.reference.specs.Choices.{with_policies, at_speed}
use Rattle.reference.specs.Former.{FormerTerms, finish_in, former_finishes, former_samples, former_control, former_controls, former_rate, last_of, token, former_decision, former_offer, former_next, former_decided, former_handled, former_tally, no_requests, former_terms, former_outcome}
use Rattle.reference.specs.Laws.{AtDefaults, reported_in, SameInVersionOne, FormerAnswersHold, UpgradeKeepsAnswers, UpgradeKeepsReplies}

-- ---- offers of tier 0

abbrev AreLowest : List Arrival → Type 0
AreLowest arrivals = All (λ a. a.origin.tier ≡ 0) arrivals

lowest_offers : (files : List File) (terms : Terms) (arrivals : List Arrival) → AreLowest arrivals → AreOfTier 0 (offers_of files terms arrivals)
unfolding offers_of AreOfTier
lowest_offers files terms [] lowest = tt
lowest_offers files terms (a ∷ arrivals) lowest = go a.message.what (lowest_offers files terms arrivals (All-tail (λ a. a.origin.tier ≡ 0) a arrivals lowest))
  where
    go : (what : Meaning) → AreOfTier 0 (offers_of files terms arrivals) → AreOfTier 0 (offer_at files terms a.origin what ++ offers_of files terms arrivals)
    go (Request method target version closing since) rest = (All-head (λ a. a.origin.tier ≡ 0) a arrivals lowest, rest)
    go (Bad fault) rest = rest

all_from : (station : Station) (past : List Decided) (offers : List Offer) → AreOfTier 0 offers → of_tier 0 past ≡ past
    → of_tier 0 (decided_from station past offers) ≡ decided_from station past offers
unfolding decided_from AreOfTier
all_from station past [] of all = all
all_from station past (offer ∷ offers) of all =
    all_from station (past ++ decided_next station past offer ∷ []) offers of.1
    (of_tier-same 0 past (decided_next station past offer) of.0
    ∙ ap (λ (ds : List Decided). ds ++ decided_next station past offer ∷ []) all)

all_first : (station : Station) (offers : List Offer) → AreOfTier 0 offers → of_tier 0 (decided station offers) ≡ decided station offers
all_first station offers of = all_from station [] offers of (of_tier-none 0)

others_none : (station : Station) (tier : ℕ) (past : List Decided) (offers : List Offer) → (0 ≡ tier → ⊥) → AreOfTier 0 offers → of_tier tier past ≡ []
    → of_tier tier (decided_from station past offers) ≡ []
unfolding decided_from AreOfTier
others_none station tier past [] apart of none = none
others_none station tier past (offer ∷ offers) apart of none =
    others_none station tier (past ++ decided_next station past offer ∷ []) offers apart of.1
    (of_tier-other tier past (decided_next station past offer) (λ e. apart (sym of.0 ∙ e)) ∙ none)

other_tally : (station : Station) (offers : List Offer) (tier : ℕ) → (0 ≡ tier → ⊥) → AreOfTier 0 offers → tally_of station offers tier ≡ no_requests
unfolding tally_of served
other_tally station offers tier apart of =
    let none : of_tier tier (decided station offers) ≡ [] = others_none station tier [] offers apart of (of_tier-none tier) in
    let controls : controls_until (rules_of station tier) [] (tick_from 0 offers) ≡ [] =
    ap (λ n. filter (λ c. nat_le c.instant (tick_from 0 offers))
    (map (control_at (rules_of station tier) (by_completion [])) (range_with_len 1 n))) (zero-div (rules_of station tier).every) in
    rw (none, controls) refl

first_alone : (station : Station) (offers : List Offer) → AreOfTier 0 offers
    → tallies_of station offers ≡ tally_of station offers 0 ∷ no_requests ∷ no_requests ∷ no_requests ∷ []
first_alone station offers of =
    λ i. tally_of station offers 0 ∷ other_tally station offers 1 (λ e. omega (arith, e)) of i
    ∷ other_tally station offers 2 (λ e. omega (arith, e)) of i ∷ other_tally station offers 3 (λ e. omega (arith, e)) of i ∷ []

-- ---- the first policy alone decides

-- two lists of policies with the same first
abbrev SameFirst : Terms → List PolicyNumbers → Type 0
SameFirst terms policies = rules_of (station_for terms) 0 ≡ rules_of (station_for (with_policies policies terms)) 0

next_same : (terms : Terms) (policies : List PolicyNumbers) (past : List Decided) (offer : Offer) → SameFirst terms policies → offer.tier ≡ 0
    → decided_next (station_for terms) past offer ≡ decided_next (station_for (with_policies policies terms)) past offer
unfolding servers_of
next_same terms policies past offer same at = rw (at, same) refl

from_same : (terms : Terms) (policies : List PolicyNumbers) (past : List Decided) (offers : List Offer) → SameFirst terms policies → AreOfTier 0 offers
    → decided_from (station_for terms) past offers ≡ decided_from (station_for (with_policies policies terms)) past offers
unfolding decided_from AreOfTier
from_same terms policies past [] same of = refl
from_same terms policies past (offer ∷ offers) same of =
    from_same terms policies (past ++ decided_next (station_for terms) past offer ∷ []) offers same of.1
    ∙ ap (λ (d : Decided). decided_from (station_for (with_policies policies terms)) (past ++ d ∷ []) offers)
    (next_same terms policies past offer same of.0)

decided_same : (terms : Terms) (policies : List PolicyNumbers) (offers : List Offer) → SameFirst terms policies → AreOfTier 0 offers
    → decided (station_for terms) offers ≡ decided (station_for (with_policies policies terms)) offers
decided_same terms policies offers same of = from_same terms policies [] offers same of

turned_same : (files : List File) (terms : Terms) (policies : List PolicyNumbers) (offers : List Offer) (origin : Origin) (what : Meaning)
    → SameFirst terms policies → AreOfTier 0 offers → origin.tier ≡ 0
    → list_any (rejects (station_for terms) offers) (offer_at files terms origin what)
    ≡ list_any (rejects (station_for (with_policies policies terms)) offers) (offer_at files terms origin what)
unfolding rejects servers_of
turned_same files terms policies offers origin (Request method target version closing since) same of at =
    rw (at, decided_same terms policies offers same of, same) refl
turned_same files terms policies offers origin (Bad fault) same of at = refl

handled_same : (files : List File) (terms : Terms) (policies : List PolicyNumbers) (earlier arrivals : List Arrival) → SameFirst terms policies
    → AreLowest earlier → AreLowest arrivals → handled_after files terms earlier arrivals ≡ handled_after files (with_policies policies terms) earlier arrivals
unfolding handled_after offers_of
handled_same files terms policies earlier [] same before lowest = refl
handled_same files terms policies earlier (a ∷ arrivals) same before lowest =
    let at = All-head (λ a. a.origin.tier ≡ 0) a arrivals lowest in
    let away = turned_same files terms policies (offers_of files terms earlier) a.origin a.message.what same (lowest_offers files terms earlier before) at in
    let rest = handled_same files terms policies (earlier ++ a ∷ []) arrivals same (All-push (λ a. a.origin.tier ≡ 0) earlier a before at)
    (All-tail (λ a. a.origin.tier ≡ 0) a arrivals lowest) in
    λ i. record { number = length earlier; arrival = a; turned_away = away i } ∷ rest i

-- messages of tier 0 are answered alike under policies with the same first
shared : (files : List File) (terms : Terms) (policies : List PolicyNumbers) (start : ℕ) (v : Version) (arrivals : List Arrival) → SameFirst terms policies
    → AreLowest arrivals
    → (replies_of files terms start (handled files terms arrivals)
    ≡ replies_of files (with_policies policies terms) start (handled files (with_policies policies terms) arrivals))
    × (outcome_of v files terms arrivals ≡ outcome_of v files (with_policies policies terms) arrivals)
unfolding reply_of samples_of tally_of offers_of pools_of
shared files terms policies start v arrivals same lowest =
    let hs = handled_same files terms policies [] arrivals same (All-nil (λ a. a.origin.tier ≡ 0)) lowest in
    let offers : List Offer = offers_of files terms arrivals in
    let of = lowest_offers files terms arrivals lowest in
    let requests = decided_same terms policies offers same of in
    let first : tally_of (station_for terms) offers 0 ≡ tally_of (station_for (with_policies policies terms)) offers 0 = rw (requests, same) refl in
    let tallies = first_alone (station_for terms) offers of ∙ ap (λ t. t ∷ no_requests ∷ no_requests ∷ no_requests ∷ []) first
    ∙ sym (first_alone (station_for (with_policies policies terms)) offers of) in (
      λ i. replies_of files terms start (hs i),
      λ i. record {
        version = v;
        rejected = rejected_of (hs i);
        summary = record {
          counts = counts_of files terms (hs i);
          bypassed = bypassed_of arrivals;
          samples = samples (served (requests i));
          tiers = tallies i;
          pools = map (λ p. figures_of (of_pool p (served (requests i)))) (range_with_len 0 (with_figures (length (station_for terms).pools)));
        };
      },
    )

-- ---- the law of the upgrade

-- in a capture of version 1 no connection has a tier but 0
lowest_of : (start : ℕ) (records : List Record) (arrivals : List Arrival) → IsCapture One start records → AreArrivals (used_once records) arrivals → AreLowest arrivals
lowest_of start records arrivals rules arrived k d lt =
    let a = get_or arrivals k d in
    let are = subst (λ rs. AreArrivals rs arrivals) (numbers_once One start records refl rules) arrived in
    (are.with k d lt).tier ∙ tiers_of_version_one a.connection (take a.place records) (All-take (IsRecord One) a.place records rules.each)

-- the answer to another text of the same records, by terms that answer their messages alike
carried : (files : List File) (terms other : Terms) (from to : List ℕ) (old new : Option (List ℕ)) (outcome : Outcome) (v w : Version) (start : ℕ) (records : List Record)
    → IsCaptureText v from start records → IsCaptureText w to start records → (format_of v).max_messages ≤ (format_of w).max_messages
    → ((arrivals : List Arrival) → AreArrivals (used_once records) arrivals
    → (replies_of files terms start (handled files terms arrivals) ≡ replies_of files other start (handled files other arrivals))
    × (outcome_of w files terms arrivals ≡ outcome_of w files other arrivals))
    → Answers files terms (Some from) old new outcome → Answers files other (Some to) old new (reported_in w outcome)
carried files terms other from to old new outcome v w start records first second wider alike a =
    let both = one_list from a.read.capture.version v a.read.capture.start start a.read.capture.records records (a.read.capture.text refl) first in
    let few = a.read.few in
    let most = ap (λ v. (format_of v).max_messages) both.0 in
    let are = subst (λ rs. AreArrivals (used_once rs) a.read.arrivals) both.2 a.read.are in
    let same = alike a.read.arrivals are in
    answered files other (Some to) old new (reported_in w outcome)
    (record {
      capture = record { version = w; start = start; records = records; rules = second.rules; text = λ known. second };
      arrivals = a.read.arrivals;
      are = are;
      few = omega (arith, few, most, wider);
    })
    (subst (λ rs. Appends old new (replies_text rs)) (ap (λ s. replies_of files terms s (handled files terms a.read.arrivals)) both.1 ∙ same.0) a.written_exactly)
    (ap (reported_in w) (outcome_is a) ∙ same.1)

pub upgrade_keeps_answers : UpgradeKeepsAnswers
upgrade_keeps_answers files terms policies text later old new outcome u one same =
    let first : IsCaptureText One text u.start u.records = subst (λ v. IsCaptureText v text u.start u.records) one u.capture in
    let second : IsCaptureText Two later u.start u.records =
    subst (λ w. IsCaptureText Two w u.start u.records) (sym (u.text ∙ ap (λ v. upgraded Two v u.start u.records) one)) (upgrade_is Two One text u.start u.records first) in (
      carried files terms (with_policies policies terms) text later old new outcome One Two u.start u.records first second (omega arith)
          (λ arrivals are. shared files terms policies u.start Two arrivals same (lowest_of u.start u.records arrivals first.rules are)),
      carried files terms (with_policies policies terms) later text old new outcome Two One u.start u.records second first (omega arith)
          (λ arrivals are. shared files terms policies u.start One arrivals same (lowest_of u.start u.records arrivals first.rules are)),
    )

-- the answer to the same records in a later format
pub upgrade_keeps_replies : UpgradeKeepsReplies
upgrade_keeps_replies files terms to text upgraded old new outcome u =
    carried files terms terms text upgraded old new outcome u.version (later to u.version) u.start u.records u.capture
    (subst (λ w. IsCaptureText (later to u.version) w u.start u.records) (sym u.text) (upgrade_is to u.version text u.start u.records u.capture))
    (more_messages to u.version) (λ arrivals are. (refl, refl))

-- ---- the requests of that time

no_route : (asked : Asked) → route_of [] asked ≡ None
no_route (asked_for.Path segments folder) = refl
no_route other = refl

offer_same : (files : List File) (terms : Terms) (origin : Origin) (what : Meaning) → AtDefaults terms → origin.tier ≡ 0
    → offer_at files terms origin what ≡ former_offer (former_terms files terms) origin.tick what
offer_same files terms origin (Request method target version closing since) d at =
    let tick : origin.tick * 100 / 100 ≡ origin.tick = mul-div_cancel origin.tick (omega arith) in
    rw (at, d.routes, no_route (asked (codes "GET") target), d.delay, d.speed, tick) refl
offer_same files terms origin (Bad fault) d at = refl

-- they have no delay, and all come to pool 0
abbrev ArePlain : List Offer → Type 0
ArePlain offers = HaveNoDelay offers × AreOfPool 0 offers

plain_offers : (files : List File) (terms : Terms) (arrivals : List Arrival) → AtDefaults terms → AreLowest arrivals
    → ArePlain (offers_of files terms arrivals)
unfolding offers_of HaveNoDelay AreOfPool
plain_offers files terms [] d lowest = (tt, tt)
plain_offers files terms (a ∷ arrivals) d lowest =
    rw (offer_same files terms a.origin a.message.what d (All-head (λ a. a.origin.tier ≡ 0) a arrivals lowest))
    (go a.message.what (plain_offers files terms arrivals d (All-tail (λ a. a.origin.tier ≡ 0) a arrivals lowest)))
  where
    go : (what : Meaning) → ArePlain (offers_of files terms arrivals)
        → ArePlain (former_offer (former_terms files terms) a.origin.tick what ++ offers_of files terms arrivals)
    go (Request method target version closing since) rest = ((refl, rest.0), (refl, rest.1))
    go (Bad fault) rest = rest

delays_none : (station : Station) (past : List Decided) (offers : List Offer) → All (λ r. r.offer.delay ≡ 0) past → HaveNoDelay offers
    → All (λ r. r.offer.delay ≡ 0) (decided_from station past offers)
unfolding decided_from HaveNoDelay
delays_none station past [] before none = before
delays_none station past (offer ∷ offers) before none =
    delays_none station (past ++ decided_next station past offer ∷ []) offers
    (All-push (λ (r : Decided). r.offer.delay ≡ 0) past (decided_next station past offer) before none.0) none.1

taken_are : (past : List Decided) → All (λ r. r.offer.delay ≡ 0) past
    → (former_finishes past ≡ finishes (served past)) × (former_samples past ≡ samples (served past))
unfolding served
taken_are [] none = (refl, refl)
taken_are (r ∷ past) none =
    let rest = taken_are past (All-tail (λ r. r.offer.delay ≡ 0) r past none) in
    go r.decision (All-head (λ r. r.offer.delay ≡ 0) r past none) rest.0 rest.1
  where
    go : (d : Decision) → r.offer.delay ≡ 0 → former_finishes past ≡ finishes (served past) → former_samples past ≡ samples (served past)
        → (finish_in d ++ former_finishes past ≡ finishes (as_served r.offer d ++ served past))
        × (map (λ finish. finish - r.offer.tick) (finish_in d) ++ former_samples past ≡ samples (as_served r.offer d ++ served past))
    go (Admitted finish) own fs ss =
        let sample : finish - r.offer.tick ≡ finish + r.offer.delay - r.offer.tick = omega (arith, own) in
        (ap (λ fs. finish ∷ fs) fs, λ i. sample i ∷ ss i)
    go Rejected own fs ss = (fs, ss)

offers_are : (station : Station) (past : List Decided) (offers : List Offer)
    → map (λ r. r.offer) (decided_from station past offers) ≡ map (λ r. r.offer) past ++ offers
unfolding decided_from
offers_are station past [] = sym (append-nil (map (λ r. r.offer) past))
offers_are station past (offer ∷ offers) =
    offers_are station (past ++ decided_next station past offer ∷ []) offers
    ∙ ap (λ os. os ++ offers) (map-append (λ (r : Decided). r.offer) past (decided_next station past offer ∷ []))
    ∙ append_assoc (map (λ r. r.offer) past) (offer ∷ []) offers

runs_last : (before last : ℕ) (requests : List Served) → RunsTo before requests last → last_of before (finishes requests) ≡ last
unfolding RunsTo last_of
runs_last before last [] runs = runs
runs_last before last (request ∷ requests) runs = runs_last request.finish last requests runs.1

-- what becomes of offers of tier 0 without a delay, which come to one server
record AreFormer (station : Station) (offers : List Offer) : Type 0 where
  pub next : (more : List Offer) → AreOfTier 0 more → AreOfPool 0 more → map (decided_next station (decided station offers)) more
      ≡ map (λ offer. record { offer = offer; decision = former_decision (rules_of station 0) (decided station offers) offer }) more
  pub samples : samples (served (decided station offers)) ≡ former_samples (decided station offers)
  pub tally : tally_of station offers 0 ≡ former_tally (rules_of station 0) (decided station offers)

are_former : (station : Station) (offers : List Offer) → servers_of station 0 ≡ 1 → AreOfTier 0 offers → ArePlain offers → AreFormer station offers
unfolding tally_of AreOfTier AreOfPool
are_former station offers one lowest plain = record {
  next = next_are;
  samples = sym taken.1;
  tally =
      rw (all_first station offers lowest, controls_are (tick_from 0 offers), offers_are station [] offers, taken.1, length-map (served past) sample) refl;
}
  where
    rules : PolicyNumbers
    rules = rules_of station 0

    past : List Decided
    past = decided station offers

    taken : (former_finishes past ≡ finishes (served past)) × (former_samples past ≡ samples (served past))
    taken = taken_are past (delays_none station [] offers (All-nil (λ (r : Decided). r.offer.delay ≡ 0)) plain.0)

    in_pool : of_pool 0 (served past) ≡ served past
    in_pool = (one_pool_serves_all station offers (record { pool = 0; tier = 0; tick = 0; service = 0; delay = 0 }) plain.1).0

    in_order : (tick k : ℕ) → AreInOrder rules (served past) tick k
    in_order tick k =
        subst (λ (ds : List Decided). AreInOrder rules (served ds) tick k) (all_first station offers lowest) (one_server_in_order station offers 0 0 tick k one plain.1 plain.0)

    rate_is : (tick : ℕ) → rate_at rules (served past) tick ≡ former_rate rules past tick
    rate_is tick = rw ((in_order tick 0).order, (in_order tick 0).complete, taken.0, taken.1) refl

    runs : RunsTo 0 (served past) (last_finish (offers_served (served past)))
    runs = subst (λ (rs : List Served). RunsTo 0 rs (last_finish (offers_served rs))) in_pool (finish_from_finish station offers 0 one)

    finish_is : (offer : Offer) → offer.pool ≡ 0 → finish_of station (served past) offer ≡ max (last_of 0 (former_finishes past)) offer.tick + offer.service
    finish_is offer place =
        one_server_finishes station offers offer (rw place one)
        ∙ ap (λ (rs : List Served). last_finish (offers_served rs ++ offer ∷ [])) (rw place in_pool)
        ∙ last_finish-push (offers_served (served past)) offer
        ∙ ap (λ n. max n offer.tick + offer.service)
        (sym (ap (last_of 0) taken.0 ∙ runs_last 0 (last_finish (offers_served (served past))) (served past) runs))

    decision_is : (offer : Offer) → offer.tier ≡ 0 → offer.pool ≡ 0 → decide station past offer ≡ former_decision rules past offer
    decision_is offer at place =
        rw (at, all_first station offers lowest)
        (λ i. if nat_le token (least_balance (λ tick. rate_is tick i) (rules.depth * token) offer.tick past) then (Admitted (finish_is offer place i)) else Rejected)

    next_are : (more : List Offer) → AreOfTier 0 more → AreOfPool 0 more
        → map (decided_next station past) more ≡ map (λ offer. record { offer = offer; decision = former_decision rules past offer }) more
    next_are [] of in_place = refl
    next_are (offer ∷ more) of in_place =
        λ i. record { offer = offer; decision = decision_is offer of.0 in_place.0 i } ∷ next_are more of.1 in_place.1 i

    control_is : (k : ℕ) → control_at rules (served past) k ≡ former_control rules past k
    control_is k = rw ((in_order 0 k).instant, taken.0, taken.1) refl

    controls_are : (tick : ℕ) → controls_until rules (served past) tick ≡ former_controls rules past tick
    controls_are tick =
        rw ((in_order 0 0).order, taken.0, length-map (served past) (λ (r : Served). r.finish))
        (λ i. filter (λ c. nat_le c.instant tick) (map (λ k. control_is k i) (range_with_len 1 (length (served past) / rules.every))))

-- ---- the messages of that time

abbrev past_of : List File → Terms → List Arrival → List Decided
past_of files terms earlier = decided (station_for terms) (offers_of files terms earlier)

former_lowest : (terms : FormerTerms) (tick : ℕ) (what : Meaning) → AreOfTier 0 (former_offer terms tick what)
unfolding AreOfTier
former_lowest terms tick (Request method target version closing since) = (refl, tt)
former_lowest terms tick (Bad fault) = tt

former_pool : (terms : FormerTerms) (tick : ℕ) (what : Meaning) → AreOfPool 0 (former_offer terms tick what)
unfolding AreOfPool
former_pool terms tick (Request method target version closing since) = (refl, tt)
former_pool terms tick (Bad fault) = tt

one_server : (terms : Terms) → AtDefaults terms → servers_of (station_for terms) 0 ≡ 1
unfolding servers_of
one_server terms d = d.servers

-- what becomes of a message after earlier ones
next_is : (files : List File) (terms : Terms) (earlier : List Arrival) (a : Arrival) → AtDefaults terms → AreLowest earlier → a.origin.tier ≡ 0
    → map (decided_next (station_for terms) (past_of files terms earlier)) (offer_at files terms a.origin a.message.what)
    ≡ former_next (former_terms files terms) (past_of files terms earlier) a
next_is files terms earlier a d lowest at =
    rw (offer_same files terms a.origin a.message.what d at)
    ((are_former (station_for terms) (offers_of files terms earlier) (one_server terms d) (lowest_offers files terms earlier lowest) (plain_offers files terms earlier d lowest)).next _
    (former_lowest (former_terms files terms) a.origin.tick a.message.what) (former_pool (former_terms files terms) a.origin.tick a.message.what))

past_next : (files : List File) (terms : Terms) (earlier : List Arrival) (a : Arrival) → AtDefaults terms → AreLowest earlier → a.origin.tier ≡ 0
    → past_of files terms (earlier ++ a ∷ []) ≡ past_of files terms earlier ++ former_next (former_terms files terms) (past_of files terms earlier) a
past_next files terms earlier a d lowest at =
    ap (decided (station_for terms)) (offers_more files terms earlier a) ∙ go a.message.what
    ∙ ap (λ ds. past_of files terms earlier ++ ds) (next_is files terms earlier a d lowest at)
  where
    offers : List Offer
    offers = offers_of files terms earlier

    go : (what : Meaning) → decided (station_for terms) (offers ++ offer_at files terms a.origin what)
        ≡ decided (station_for terms) offers ++ map (decided_next (station_for terms) (decided (station_for terms) offers)) (offer_at files terms a.origin what)
    go (Request method target version closing since) = decided_from-push (station_for terms) [] offers _
    go (Bad fault) = ap (decided (station_for terms)) (append-nil offers) ∙ sym (append-nil (decided (station_for terms) offers))

turned_is : (station : Station) (offers more : List Offer)
    → list_any (rejects station offers) more ≡ list_any (λ r. is_rejected r.decision) (map (decided_next station (decided station offers)) more)
unfolding rejects
turned_is station offers [] = refl
turned_is station offers (offer ∷ more) = ap (λ (away : Bool). is_rejected (decide station (decided station offers) offer) || away) (turned_is station offers more)

all_are : (files : List File) (terms : Terms) (earlier arrivals : List Arrival) → AtDefaults terms → AreLowest earlier → AreLowest arrivals
    → (past_of files terms (earlier ++ arrivals) ≡ former_decided (former_terms files terms) (past_of files terms earlier) arrivals)
    × (handled_after files terms earlier arrivals ≡ former_handled (former_terms files terms) (past_of files terms earlier) (length earlier) arrivals)
unfolding former_decided handled_after former_handled
all_are files terms earlier [] d before lowest = (ap (past_of files terms) (append-nil earlier), refl)
all_are files terms earlier (a ∷ arrivals) d before lowest =
    let at = All-head (λ a. a.origin.tier ≡ 0) a arrivals lowest in
    let past = past_next files terms earlier a d before at in
    let away = turned_is (station_for terms) (offers_of files terms earlier) (offer_at files terms a.origin a.message.what)
    ∙ ap (list_any (λ (r : Decided). is_rejected r.decision)) (next_is files terms earlier a d before at) in
    let rest = all_are files terms (earlier ++ a ∷ []) arrivals d (All-push (λ a. a.origin.tier ≡ 0) earlier a before at) (All-tail (λ a. a.origin.tier ≡ 0) a arrivals lowest) in
    let more = rest.1 ∙ (λ i. former_handled (former_terms files terms) (past i) (length-append earlier (a ∷ []) i) arrivals) in (
      ap (past_of files terms) (sym (append_assoc earlier (a ∷ []) arrivals)) ∙ rest.0 ∙ ap (λ past. former_decided (former_terms files terms) past arrivals) past,
      λ i. record { number = length earlier; arrival = a; turned_away = away i } ∷ more i,
    )

-- there was one pool
no_pools : (terms : Terms) (offers : List Offer) → AtDefaults terms → pools_of (station_for terms) offers ≡ []
unfolding pools_of
no_pools terms offers d =
    ap (λ (ps : List ℕ). map (figures_in (station_for terms) offers) (range_with_len 0 (with_figures (length (terms.tariff.costs.servers ∷ ps))))) d.pools

-- messages of tier 0 are answered as they were
as_before : (files : List File) (terms : Terms) (arrivals : List Arrival) → AtDefaults terms → AreLowest arrivals
    → (handled files terms arrivals ≡ former_handled (former_terms files terms) [] 0 arrivals)
    × (outcome_of One files terms arrivals ≡ former_outcome files terms arrivals)
unfolding samples_of offers_of decided_from
as_before files terms arrivals d lowest =
    let offers = offers_of files terms arrivals in
    let of = lowest_offers files terms arrivals lowest in
    let are = are_former (station_for terms) offers (one_server terms d) of (plain_offers files terms arrivals d lowest) in
    let all = all_are files terms [] arrivals d (All-nil (λ (a : Arrival). a.origin.tier ≡ 0)) lowest in
    let samples = are.samples ∙ ap former_samples all.0 in
    let tally = are.tally ∙ ap (former_tally (rules_of (station_for terms) 0)) all.0 in
    let tallies = first_alone (station_for terms) offers of ∙ ap (λ t. t ∷ no_requests ∷ no_requests ∷ no_requests ∷ []) tally in (
      all.1,
      λ i. record {
        version = One;
        rejected = rejected_of (all.1 i);
        summary = record {
          counts = counts_of files terms (all.1 i);
          bypassed = bypassed_of arrivals;
          samples = samples i;
          tiers = tallies i;
          pools = no_pools terms offers d i;
        };
      },
    )

-- ---- the law of version 1

at_same : (files : List File) (terms : Terms) (start : ℕ) {xs ys : List Handled} → AtDefaults terms → xs ≡ ys → replies_of files terms start xs ≡ replies_of files (at_speed 100 terms) start ys
at_same files terms start d same =
    λ i. replies_of files (record { tariff = terms.tariff; policies = terms.policies; retry_after = terms.retry_after; speed = d.speed i }) start (same i)

pub same_in_version_one : SameInVersionOne
same_in_version_one files terms input old new outcome d a one =
    let c = a.read.capture in
    let rules : IsCapture One c.start c.records = subst (λ v. IsCapture v c.start c.records) one c.rules in
    let lowest = lowest_of c.start c.records a.read.arrivals rules a.read.are in
    let both = as_before files terms a.read.arrivals d lowest in
    record {
      read = a.read;
      version = one;
      plain = λ k e lt. (numbers_are One c.start c.records a.read.arrivals rules refl a.read.are k e lt, lowest k e lt);
      written = subst (λ rs. Appends old new (replies_text rs)) (at_same files terms c.start d both.0) a.written_exactly;
      reported = outcome_is a ∙ ap (λ v. outcome_of v files terms a.read.arrivals) one ∙ both.1;
    }

pub former_answers_hold : FormerAnswersHold
former_answers_hold files terms input old new outcome d f =
    let both = as_before files terms f.read.arrivals d (λ k e lt. (f.plain k e lt).1) in (
      answered files terms input old new outcome f.read
          (subst (λ rs. Appends old new (replies_text rs)) (sym (at_same files terms f.read.capture.start d both.0)) f.written)
          (f.reported ∙ sym both.1 ∙ ap (λ v. outcome_of v files terms f.read.arrivals) (sym f.version)),
      f.version,
    )
