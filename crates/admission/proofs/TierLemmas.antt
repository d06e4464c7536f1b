-- The tiers and the pools beside one another: one of each takes one more offer.
use Rattle.std.proofs.Common.{◌≡◌, ℕ, zero, suc, ◌+◌, ◌*◌, ◌<◌, ◌≤◌, max, List, [], ◌∷◌, ◌++◌, length, map, Bool, true, false, nat_le, if◌then◌else◌, refl, sym, ◌∙◌, ap, arith, append-nil, length-append, subst, Some, slice_get, slice_set, slice_index_or, replicate, inl, inr}
use Rattle.std.proofs.Math.Seq.{map-set_same}
use Rattle.std.specs.List.{range_with_len}
use Rattle.std.proofs.lemmas.Bool.{cases_eq, lt-ltb}
use Rattle.std.specs.Prelude.{All}
use Rattle.std.proofs.lemmas.List.{length-map, length-set, length-replicate, get_or-replicate}
use Rattle.std.proofs.lemmas.Option.{get_or_from_slice_get, slice_get-get_or, slice_get_within}
use Rattle.token_bucket.specs.Reference.{TOKEN}
use Rattle.admission.specs.declared.policy.PolicyNumbers.{PolicyNumbers}
use Rattle.token_bucket.specs.Standing.{MAX_TICK}
use Rattle.admission.specs.Limits.{MAX_OFFERS, MAX_SERVERS, MAX_SERVICE}
use Rattle.admission.specs.declared.control.Control.{Control}
use Rattle.admission.specs.declared.control.Decision.{Decision}
use Rattle.admission.specs.declared.control.Outlook.{Outlook}
use Rattle.admission.specs.declared.control.Decision.TheVariants.{Admitted, Rejected}
use Rattle.admission.specs.Reference.{no_rules, rules_of, servers_of, Offer, Decided, Served, of_tier, served, of_pool, free_at, controls_until, credit, decide, decided_from, decided, tick_from, with_figures, figures_in, pools_of}
use Rattle.admission.specs.declared.control.PoolFigures.{PoolFigures}
use Rattle.admission.specs.After.{outlook, controls_in, all_controls, TierFits, ServersFit, FiguresFit, ControllerAfter}
use Rattle.admission.specs.Standing.{TierStanding, PoolStanding, Standing, station_of, first_free, ArePools, HasPool, IsShare, IsPool, AreFew, IsSound}
use Rattle.admission.specs.Running.{decision_after, finish_or, with_start, waits_until, new_pool, pool_after, no_figures, with_request, figures_with, figures_after}
use Rattle.admission.specs.TierCalls.{AreNew, IsComplete, AreComplete, Decides, Takes, Shows, Foresees, AllShare, AllShow}
use Rattle.admission.proofs.RequestLemmas.{decided_from-push, served-push, of_tier-same, of_tier-other, of_tier-none, of_pool-same, of_pool-apart, of_pool-none, tick_from-push}
use Rattle.admission.proofs.ServerLemmas.{free_first, first-exchanged, length-exchanged}
use Rattle.admission.proofs.QueueLemmas.{free_none, free_served, figures_none, figures_later, figures_served, figures-few}
use Rattle.admission.proofs.SoundLemmas.{share_later, share_complete_at}

-- ---- one of the tiers

pub get_at : {X : Type 0} (ts : List X) (i : ℕ) (t : X) → i < length ts → t ≡ slice_index_or ts i t → slice_get ts i ≡ Some t
get_at [] i t within at = absurd (omega arith)
get_at {X} (first ∷ ts) zero t within at = ap (λ (t : X). Some t) (sym at)
get_at (first ∷ ts) (suc i) t within at = get_at ts i t (omega arith) at

pub same_some : {X : Type 0} (a b : X) → Some a ≡ Some b → a ≡ b
same_some a b same = cc

pub set_here : {X : Type 0} (ts : List X) (i : ℕ) (next t : X) → i < length ts → slice_get (slice_set ts i next) i ≡ Some t → t ≡ next
set_here [] i next t within at = absurd (omega arith)
set_here (first ∷ ts) zero next t within at = sym (same_some next t at)
set_here (first ∷ ts) (suc i) next t within at = set_here ts i next t (omega arith) at

pub set_there : {X : Type 0} (ts : List X) (i j : ℕ) (next t : X) → (j ≡ i → ⊥) → slice_get (slice_set ts i next) j ≡ Some t
    → slice_get ts j ≡ Some t
set_there [] i j next t apart at = at
set_there (first ∷ ts) zero zero next t apart at = absurd (apart refl)
set_there (first ∷ ts) zero (suc j) next t apart at = at
set_there (first ∷ ts) (suc i) zero next t apart at = at
set_there (first ∷ ts) (suc i) (suc j) next t apart at = set_there ts i j next t (λ same. apart (ap suc same)) at

rules_in : (ts : List TierStanding) (i : ℕ) (t : TierStanding) → slice_get ts i ≡ Some t
    → slice_index_or (map (λ (t : TierStanding). t.rules) ts) i no_rules ≡ t.rules
rules_in [] i t at = absurd (cc)
rules_in (first ∷ ts) zero t at = ap (λ (t : TierStanding). t.rules) (same_some first t at)
rules_in (first ∷ ts) (suc i) t at = rules_in ts i t at

pub rules_at : (c : Standing) (i : ℕ) (t : TierStanding) → slice_get c.tiers i ≡ Some t → rules_of (station_of c) i ≡ t.rules
unfolding rules_of station_of
rules_at c i t at = rules_in c.tiers i t at

-- the controller with one tier and one pool changed
abbrev pub with_offer : Standing → ℕ → TierStanding → ℕ → PoolStanding → List PoolFigures → ℕ → Standing
with_offer c i next p after figures tick = record {
  tiers = slice_set c.tiers i next;
  pools = slice_set c.pools p after;
  figures = figures;
  offers = c.offers + 1;
  tick = tick;
  clock = c.clock;
}

pub station_kept : (c : Standing) (i : ℕ) (t next : TierStanding) (p : ℕ) (pool after : PoolStanding) (figures : List PoolFigures) (tick : ℕ)
    → slice_get c.tiers i ≡ Some t → slice_get c.pools p ≡ Some pool → next.rules ≡ t.rules → length after.free ≡ length pool.free
    → station_of (with_offer c i next p after figures tick) ≡ station_of c
unfolding station_of
station_kept c i t next p pool after figures tick at place same many =
    let policies : map (λ (t : TierStanding). t.rules) (slice_set c.tiers i next) ≡ map (λ (t : TierStanding). t.rules) c.tiers =
    map-set_same (λ (t : TierStanding). t.rules) c.tiers i next t
    (same ∙ sym (ap (λ (t : TierStanding). t.rules) (get_or_from_slice_get c.tiers i t t at))) in
    let pools : map (λ (p : PoolStanding). length p.free) (slice_set c.pools p after) ≡ map (λ (p : PoolStanding). length p.free) c.pools =
    map-set_same (λ (p : PoolStanding). length p.free) c.pools p after pool
    (many ∙ sym (ap (λ (p : PoolStanding). length p.free) (get_or_from_slice_get c.pools p pool pool place))) in
    rw (policies, pools) refl

-- how many servers a pool has
lengths_in : (pools : List PoolStanding) (p : ℕ) (pool : PoolStanding) → slice_get pools p ≡ Some pool
    → slice_index_or (map (λ (p : PoolStanding). length p.free) pools) p 0 ≡ length pool.free
lengths_in [] p pool place = absurd (cc)
lengths_in (first ∷ pools) zero pool place = ap (λ (p : PoolStanding). length p.free) (same_some first pool place)
lengths_in (first ∷ pools) (suc p) pool place = lengths_in pools p pool place

servers_at : (c : Standing) (p : ℕ) (pool : PoolStanding) → slice_get c.pools p ≡ Some pool
    → servers_of (station_of c) p ≡ length pool.free
unfolding servers_of station_of
servers_at c p pool place = lengths_in c.pools p pool place

-- a pool of the station is one of the controller's
pub pool_within : (c : Standing) (p own : ℕ) → HasPool c p → own ≡ p → own < length c.pools
unfolding station_of
pool_within c p own has same = omega (arith, has, same, length-map c.pools (λ (p : PoolStanding). length p.free))

pub pool_at : (c : Standing) (p own : ℕ) (pool : PoolStanding) → HasPool c p → own ≡ p → pool ≡ slice_index_or c.pools own pool
    → slice_get c.pools own ≡ Some pool
pool_at c p own pool has same at = get_at c.pools own pool (pool_within c p own has same) at

pub has_default : (c : Standing) → IsSound c → HasPool c 0
unfolding station_of
has_default c sound = omega (arith, sound.default, length-map c.pools (λ (p : PoolStanding). length p.free))

-- ---- the decision

-- when the first server of a pool is free
first_is : (c : Standing) (offers : List Offer) (p : ℕ) (pool : PoolStanding) → IsSound c → ControllerAfter offers c
    → slice_get c.pools p ≡ Some pool
    → free_at (servers_of (station_of c) p) (of_pool p (served (decided (station_of c) offers))) ≡ first_free pool.free
first_is c offers p pool sound fits place =
    let own : List Served = of_pool p (served (decided (station_of c) offers)) in
    ap (λ n. free_at n own) (servers_at c p pool place)
    ∙ free_first (length pool.free) own (sound.pools p pool place).some
    ∙ ap first_free (sym (fits.pools p pool place))

-- the decision of a tier is that of the definitions
pub decide_is : (c : Standing) (offers : List Offer) (offer : Offer) (t : TierStanding) (pool : PoolStanding) → IsSound c
    → ControllerAfter offers c → slice_get c.tiers offer.tier ≡ Some t → slice_get c.pools offer.pool ≡ Some pool
    → decision_after t.rules (of_tier offer.tier (decided (station_of c) offers)) (first_free pool.free) offer.tick offer.service
    ≡ decide (station_of c) (decided (station_of c) offers) offer
decide_is c offers offer t pool sound fits at place =
    rw (rules_at c offer.tier t at, first_is c offers offer.pool pool sound fits place) refl

abbrev Chosen : ℕ → Bool → Decision
Chosen finish b = if b then (Admitted finish) else Rejected

-- the requests of a pool with one more that is admitted
served_more : (past : List Decided) (offer : Offer) (finish : ℕ)
    → of_pool offer.pool (served (past ++ record { offer = offer; decision = Admitted finish } ∷ []))
    ≡ of_pool offer.pool (served past) ++ record { offer = offer; finish = finish } ∷ []
served_more past offer finish =
    ap (of_pool offer.pool) (served-push past (record { offer = offer; decision = Admitted finish }))
    ∙ of_pool-same offer.pool (served past) (record { offer = offer; finish = finish }) refl

served_same : (past : List Decided) (offer : Offer) → served (past ++ record { offer = offer; decision = Rejected } ∷ []) ≡ served past
served_same past offer = served-push past (record { offer = offer; decision = Rejected }) ∙ append-nil (served past)

-- the servers of a pool after one more offer of it
servers_next : (past : List Decided) (offer : Offer) (pool : PoolStanding) (until : ℕ) (decision : Decision)
    → ServersFit (of_pool offer.pool (served past)) pool
    → ServersFit (of_pool offer.pool (served (past ++ record { offer = offer; decision = decision } ∷ [])))
    (pool_after pool until offer.tick decision)
servers_next past offer pool until (Admitted finish) fits =
    rw (served_more past offer finish)
    (free_served (of_pool offer.pool (served past)) pool until offer.tick (record { offer = offer; finish = finish }) fits)
servers_next past offer pool until Rejected fits = rw (served_same past offer) fits

-- the servers of the pools after it
servers_after : (c : Standing) (past : List Decided) (offer : Offer) (pool after : PoolStanding) (decision : Decision)
    → ((p : ℕ) (s : PoolStanding) → slice_get c.pools p ≡ Some s → ServersFit (of_pool p (served past)) s)
    → slice_get c.pools offer.pool ≡ Some pool
    → ServersFit (of_pool offer.pool (served (past ++ record { offer = offer; decision = decision } ∷ []))) after
    → (p : ℕ) (s : PoolStanding) → slice_get (slice_set c.pools offer.pool after) p ≡ Some s
    → ServersFit (of_pool p (served (past ++ record { offer = offer; decision = decision } ∷ []))) s
servers_after c past offer pool after decision fits place own p s at =
    elim (cases_eq p offer.pool) [
      | inl same ↦
          let within : offer.pool < length c.pools = slice_get_within c.pools offer.pool pool place in
          let is : s ≡ after = set_here c.pools offer.pool after s within (rw same at at) in
          rw (is, same) own
      | inr apart ↦
          rw (of_pool-apart p past offer decision (λ same. apart (sym same))) (fits p s (set_there c.pools offer.pool p after s apart at))
    ]

-- ---- the figures

pub some_at : {X : Type 0} (xs : List X) (i : ℕ) → i < length xs → (x : X) × (slice_get xs i ≡ Some x)
some_at [] i within = absurd (omega (arith, within))
some_at (x ∷ xs) zero within = (x, refl)
some_at (x ∷ xs) (suc i) within = some_at xs i (omega (arith, within))

-- the figures of a pool after one more request of it are those before with that request
counted_here : (figures : List PoolFigures) (pool service waiting : ℕ) (f : PoolFigures)
    → slice_get (figures_with figures pool service waiting) pool ≡ Some f
    → (before : PoolFigures) × (slice_get figures pool ≡ Some before) × (f ≡ with_request before service waiting)
counted_here figures pool service waiting f at =
    let next : PoolFigures = with_request (slice_index_or figures pool no_figures) service waiting in
    let within : pool < length figures =
    omega (arith, slice_get_within (slice_set figures pool next) pool f at, length-set figures pool next) in
    (slice_index_or figures pool no_figures, slice_get-get_or figures pool no_figures within, set_here figures pool next f within at)

pub counted : (figures : List PoolFigures) (pool service waiting : ℕ) (f : PoolFigures) → pool < length figures
    → f ≡ slice_index_or figures pool f
    → slice_set figures pool (with_request f service waiting) ≡ figures_with figures pool service waiting
counted figures pool service waiting f within at =
    ap (λ (g : PoolFigures). slice_set figures pool (with_request g service waiting))
    (sym (get_or_from_slice_get figures pool f no_figures (get_at figures pool f within at)))

-- the figures of other pools stay
counted_there : (figures : List PoolFigures) (pool service : ℕ) (starts : List ℕ) (decision : Decision) (p : ℕ) (f : PoolFigures)
    → (p ≡ pool → ⊥) → slice_get (figures_after figures pool service starts decision) p ≡ Some f → slice_get figures p ≡ Some f
counted_there figures pool service starts (Admitted finish) p f apart at =
    set_there figures pool p (with_request (slice_index_or figures pool no_figures) service (length starts)) f apart at
counted_there figures pool service starts Rejected p f apart at = at

abbrev pub Next : Standing → Offer → PoolStanding → Decision → PoolStanding
Next c offer pool decision = pool_after pool (waits_until c.figures offer.pool pool.free) offer.tick decision

abbrev pub Counted : Standing → Offer → PoolStanding → Decision → List PoolFigures
Counted c offer pool decision = figures_after c.figures offer.pool offer.service (Next c offer pool decision).starts decision

-- the figures of its own pool
figures_own : (c : Standing) (past : List Decided) (offer : Offer) (pool : PoolStanding) (b : Bool)
    → ServersFit (of_pool offer.pool (served past)) pool
    → ((f : PoolFigures) → slice_get c.figures offer.pool ≡ Some f → FiguresFit (of_pool offer.pool (served past)) c.tick pool f)
    → c.tick ≤ offer.tick → 1 ≤ length pool.free
    → (f : PoolFigures)
    → slice_get (Counted c offer pool (Chosen (max (first_free pool.free) offer.tick + offer.service) b)) offer.pool ≡ Some f
    → FiguresFit (of_pool offer.pool
    (served (past ++ record { offer = offer; decision = Chosen (max (first_free pool.free) offer.tick + offer.service) b } ∷ []))) offer.tick
    (Next c offer pool (Chosen (max (first_free pool.free) offer.tick + offer.service) b)) f
figures_own c past offer pool true servers fits later some f at =
    let finish : ℕ = max (first_free pool.free) offer.tick + offer.service in
    let until : ℕ = waits_until c.figures offer.pool pool.free in
    let before = counted_here c.figures offer.pool offer.service (length (with_start offer.tick until pool.starts)) f at in
    let has : until ≡ first_free pool.free =
    ap (λ (b : Bool). if b then (first_free pool.free) else 0)
    (lt-ltb offer.pool (length c.figures) (slice_get_within c.figures offer.pool before.0 before.1)) in
    let is : f ≡ with_request before.0 offer.service (length (with_start offer.tick (first_free pool.free) pool.starts)) =
    before.2 ∙ ap (λ n. with_request before.0 offer.service (length (with_start offer.tick n pool.starts))) has in
    let own : List Served = of_pool offer.pool (served past) ++ record { offer = offer; finish = finish } ∷ [] in
    subst (λ (rs : List Served). FiguresFit rs offer.tick (Next c offer pool (Admitted finish)) f) (sym (served_more past offer finish))
    (subst (λ (n : ℕ). FiguresFit own offer.tick (pool_after pool n offer.tick (Admitted finish)) f) (sym has)
    (subst (λ (g : PoolFigures). FiguresFit own offer.tick (pool_after pool (first_free pool.free) offer.tick (Admitted finish)) g) (sym is)
    (figures_served (of_pool offer.pool (served past)) c.tick pool before.0 offer servers (fits before.0 before.1) later some)))
figures_own c past offer pool false servers fits later some f at =
    rw (served_same past offer) (figures_later (of_pool offer.pool (served past)) c.tick offer.tick pool f (fits f at) later)

-- the figures of the pools after one more offer
figures_fit : (c : Standing) (past : List Decided) (offer : Offer) (pool : PoolStanding) (b : Bool)
    → ((p : ℕ) (s : PoolStanding) → slice_get c.pools p ≡ Some s → ServersFit (of_pool p (served past)) s)
    → ((p : ℕ) (s : PoolStanding) (f : PoolFigures) → slice_get c.pools p ≡ Some s → slice_get c.figures p ≡ Some f
    → FiguresFit (of_pool p (served past)) c.tick s f)
    → slice_get c.pools offer.pool ≡ Some pool → c.tick ≤ offer.tick → 1 ≤ length pool.free
    → (decision : Decision) → decision ≡ Chosen (max (first_free pool.free) offer.tick + offer.service) b
    → (p : ℕ) (s : PoolStanding) (f : PoolFigures) → slice_get (slice_set c.pools offer.pool (Next c offer pool decision)) p ≡ Some s
    → slice_get (Counted c offer pool decision) p ≡ Some f
    → FiguresFit (of_pool p (served (past ++ record { offer = offer; decision = decision } ∷ []))) offer.tick s f
figures_fit c past offer pool b servers fits place later some decision is p s f at counted =
    elim (cases_eq p offer.pool) [
      | inl same ↦
          let within : offer.pool < length c.pools = slice_get_within c.pools offer.pool pool place in
          let now : s ≡ Next c offer pool decision = set_here c.pools offer.pool (Next c offer pool decision) s within (rw same at at) in
          rw (now, same, is)
          (figures_own c past offer pool b (servers offer.pool pool place) (λ f there. fits offer.pool pool f place there) later some f
          (rw (same, is) at counted))
      | inr apart ↦
          rw (of_pool-apart p past offer decision (λ same. apart (sym same)))
          (figures_later (of_pool p (served past)) c.tick offer.tick s f
          (fits p s f (set_there c.pools offer.pool p (Next c offer pool decision) s apart at)
          (counted_there c.figures offer.pool offer.service (Next c offer pool decision).starts decision p f apart counted)) later)
    ]

-- ---- the controller after one more offer

-- the tiers after it
tiers_after : (c : Standing) (past : List Decided) (request : Decided) (t next : TierStanding)
    → ((i : ℕ) (t : TierStanding) → slice_get c.tiers i ≡ Some t → TierFits (of_tier i past) t)
    → request.offer.tier < length c.tiers
    → TierFits (of_tier request.offer.tier past ++ request ∷ []) next
    → (i : ℕ) (t : TierStanding) → slice_get (slice_set c.tiers request.offer.tier next) i ≡ Some t
    → TierFits (of_tier i (past ++ request ∷ [])) t
tiers_after c past request t next fits within own i found at =
    elim (cases_eq i request.offer.tier) [
      | inl same ↦
          let is : found ≡ next = set_here c.tiers request.offer.tier next found within (rw same at at) in
          rw (is, same, of_tier-same request.offer.tier past request refl) own
      | inr apart ↦
          rw (of_tier-other i past request (λ same. apart (sym same)))
          (fits i found (set_there c.tiers request.offer.tier i next found apart at))
    ]

-- as many servers as before
many_after : (pool : PoolStanding) (until tick : ℕ) (decision : Decision) → length (pool_after pool until tick decision).free ≡ length pool.free
many_after pool until tick (Admitted finish) = length-exchanged finish pool.free
many_after pool until tick Rejected = refl

pub offer_fits : (c : Standing) (offers : List Offer) (offer : Offer) (t next : TierStanding) (pool : PoolStanding) (decision : Decision)
    → IsSound c → ControllerAfter offers c → offer.tier < length c.tiers → slice_get c.tiers offer.tier ≡ Some t
    → slice_get c.pools offer.pool ≡ Some pool → c.tick ≤ offer.tick → next.rules ≡ t.rules
    → decision
    ≡ decision_after t.rules (of_tier offer.tier (decided (station_of c) offers)) (first_free pool.free) offer.tick offer.service
    → TierFits (of_tier offer.tier (decided (station_of c) offers) ++ record { offer = offer; decision = decision } ∷ []) next
    → ControllerAfter (offers ++ offer ∷ [])
    (with_offer c offer.tier next offer.pool (Next c offer pool decision) (Counted c offer pool decision) offer.tick)
offer_fits c offers offer t next pool decision sound fits within at place later rules is own =
    let past : List Decided = decided (station_of c) offers in
    let request : Decided = record { offer = offer; decision = decision } in
    let until : ℕ = waits_until c.figures offer.pool pool.free in
    let after : PoolStanding = Next c offer pool decision in
    let figures : List PoolFigures = Counted c offer pool decision in
    let chosen : Bool = nat_le TOKEN (credit t.rules (of_tier offer.tier past) offer.tick) in
    let kept : station_of (with_offer c offer.tier next offer.pool after figures offer.tick) ≡ station_of c =
    station_kept c offer.tier t next offer.pool pool after figures offer.tick at place rules (many_after pool until offer.tick decision) in
    let more : decided (station_of c) (offers ++ offer ∷ []) ≡ past ++ request ∷ [] =
    decided_from-push (station_of c) [] offers offer
    ∙ ap (λ (d : Decision). past ++ record { offer = offer; decision = d } ∷ [])
    (sym (is ∙ decide_is c offers offer t pool sound fits at place)) in
    record {
      offered = ap (λ n. n + 1) fits.offered ∙ sym (length-append offers (offer ∷ []));
      tick = sym (tick_from-push 0 offers offer);
      pools = rw (kept, more) (servers_after c past offer pool after decision fits.pools place
          (servers_next past offer pool until decision (fits.pools offer.pool pool place)));
      figures = rw (kept, more) (figures_fit c past offer pool chosen fits.pools fits.figures place later
          (sound.pools offer.pool pool place).some decision is);
      tiers = rw (kept, more) (tiers_after c past request t next fits.tiers within own);
    }

-- a pool after an offer of it
pool_sound : (offers until tick service : ℕ) (pool : PoolStanding) (decision : Decision) → IsPool offers pool → tick ≤ MAX_TICK
    → service ≤ MAX_SERVICE → first_free pool.free ≤ finish_or (first_free pool.free) decision
    → finish_or (first_free pool.free) decision ≤ max (first_free pool.free) tick + service
    → IsPool (offers + 1) (pool_after pool until tick decision)
pool_sound offers until tick service pool (Admitted finish) own early short longer bound = record {
  some = omega (arith, length-exchanged finish pool.free, own.some);
  free = omega (arith, own.free, first-exchanged finish pool.free own.some longer);
}
pool_sound offers until tick service pool Rejected own early short longer bound = record {
  some = own.some;
  free = omega (arith, own.free);
}

-- the figures after an offer
few_later : (offers : ℕ) (figures : List PoolFigures) → AreFew offers figures → AreFew (offers + 1) figures
few_later offers figures few = record {
  each = λ i f at. record {
    admitted = omega (arith, (few.each i f at).admitted);
    busy = omega (arith, (few.each i f at).busy);
  };
}

few_after : (offers pool service : ℕ) (figures : List PoolFigures) (starts : List ℕ) (decision : Decision) → AreFew offers figures
    → service ≤ MAX_SERVICE → AreFew (offers + 1) (figures_after figures pool service starts decision)
few_after offers pool service figures starts (Admitted finish) few short = record {
  each = λ i f at. elim (cases_eq i pool) [
    | inl same ↦
        let before = counted_here figures pool service (length starts) f (rw same at at) in
        let own = few.each pool before.0 before.1 in
        rw before.2 (record { admitted = omega (arith, own.admitted); busy = omega (arith, own.busy, short) })
    | inr apart ↦
        (few_later offers figures few).each i f (counted_there figures pool service starts (Admitted finish) i f apart at)
  ];
}
few_after offers pool service figures starts Rejected few short = few_later offers figures few

as_many : (figures : List PoolFigures) (pool service : ℕ) (starts : List ℕ) (decision : Decision)
    → length (figures_after figures pool service starts decision) ≡ length figures
as_many figures pool service starts (Admitted finish) =
    length-set figures pool (with_request (slice_index_or figures pool no_figures) service (length starts))
as_many figures pool service starts Rejected = refl

-- a finish fits beside a delay
pub finish_bound : (offers free tick service : ℕ) (decision : Decision) → finish_or free decision ≤ max free tick + service
    → free ≤ MAX_TICK + MAX_SERVICE * offers → offers < MAX_OFFERS → tick ≤ MAX_TICK → service ≤ MAX_SERVICE
    → finish_or 0 decision ≤ MAX_TICK + MAX_SERVICE * MAX_OFFERS
finish_bound offers free tick service (Admitted finish) bound early room before short = omega arith
finish_bound offers free tick service Rejected bound early room before short = omega arith

pub offer_sound : (c : Standing) (i tick service p until : ℕ) (decision : Decision) (next : TierStanding) (pool : PoolStanding)
    → IsSound c → c.clock ≡ tick → AreComplete c.tiers tick → i < length c.tiers → slice_get c.pools p ≡ Some pool
    → c.offers < MAX_OFFERS → service ≤ MAX_SERVICE
    → first_free pool.free ≤ finish_or (first_free pool.free) decision
    → finish_or (first_free pool.free) decision ≤ max (first_free pool.free) tick + service
    → IsShare (c.offers + 1) tick tick next
    → IsSound (with_offer c i next p (pool_after pool until tick decision)
    (figures_after c.figures p service (pool_after pool until tick decision).starts decision) tick)
offer_sound c i tick service p until decision next pool sound now complete within place room short longer bound share = record {
  four = length-set c.tiers i next ∙ sound.four;
  offers = omega arith;
  default = omega (arith, length-set c.pools p (pool_after pool until tick decision), sound.default);
  pools = λ q s at. elim (cases_eq q p) [
    | inl same ↦
        let is : s ≡ pool_after pool until tick decision =
        set_here c.pools p (pool_after pool until tick decision) s (slice_get_within c.pools p pool place) (rw same at at) in
        rw is
        (pool_sound c.offers until tick service pool decision (sound.pools p pool place) (omega (arith, now, sound.clock.1)) short longer
        bound)
    | inr apart ↦
        let there = sound.pools q s (set_there c.pools p q (pool_after pool until tick decision) s apart at) in
        record { some = there.some; free = omega (arith, there.free) }
  ];
  kept = as_many c.figures p service (pool_after pool until tick decision).starts decision ∙ sound.kept
      ∙ ap with_figures (sym (length-set c.pools p (pool_after pool until tick decision)));
  few = few_after c.offers p service c.figures (pool_after pool until tick decision).starts decision sound.few short;
  clock = (omega (arith, now), sound.clock.1);
  tiers = λ j found at. elim (cases_eq j i) [
    | inl same ↦
        let is : found ≡ next = set_here c.tiers i next found within (rw same at at) in
        rw (is, now) share
    | inr apart ↦
        let there : slice_get c.tiers j ≡ Some found = set_there c.tiers i j next found apart at in
        share_complete_at (c.offers + 1) c.tick c.clock tick found
        (share_later c.offers c.tick c.clock (c.offers + 1) c.clock found (sound.tiers j found there) (omega arith) (omega arith))
        (complete j found there)
  ];
}

-- ---- a controller that was offered nothing

pub four_new : (a b c d : TierStanding) → TierFits [] a × IsShare 0 0 0 a → TierFits [] b × IsShare 0 0 0 b
    → TierFits [] c × IsShare 0 0 0 c → TierFits [] d × IsShare 0 0 0 d → AreNew (a ∷ b ∷ c ∷ d ∷ [])
four_new a b c d na nb nc nd zero t at = rw (sym (same_some a t at)) na
four_new a b c d na nb nc nd (suc zero) t at = rw (sym (same_some b t at)) nb
four_new a b c d na nb nc nd (suc (suc zero)) t at = rw (sym (same_some c t at)) nc
four_new a b c d na nb nc nd (suc (suc (suc zero))) t at = rw (sym (same_some d t at)) nd
four_new a b c d na nb nc nd (suc (suc (suc (suc i)))) t at = absurd (cc)

pub four_rules : (policies : List PolicyNumbers) (a b c d e f g h : PolicyNumbers) → length policies ≡ 4
    → a ≡ slice_index_or policies 0 e → b ≡ slice_index_or policies 1 f
    → c ≡ slice_index_or policies 2 g → d ≡ slice_index_or policies 3 h
    → a ∷ b ∷ c ∷ d ∷ [] ≡ policies
four_rules (p ∷ q ∷ r ∷ s ∷ []) a b c d e f g h long pa pb pc pd = rw (pa, pb, pc, pd) refl
four_rules [] a b c d e f g h long pa pb pc pd = absurd (omega arith)
four_rules (p ∷ []) a b c d e f g h long pa pb pc pd = absurd (omega arith)
four_rules (p ∷ q ∷ []) a b c d e f g h long pa pb pc pd = absurd (omega arith)
four_rules (p ∷ q ∷ r ∷ []) a b c d e f g h long pa pb pc pd = absurd (omega arith)
four_rules (p ∷ q ∷ r ∷ s ∷ t ∷ rest) a b c d e f g h long pa pb pc pd = absurd (omega arith)

abbrev pub started : List TierStanding → List PoolStanding → List PoolFigures → Standing
started ts pools figures = record { tiers = ts; pools = pools; figures = figures; offers = 0; tick = 0; clock = 0 }

-- one of the new pools
new_at : (servers : List ℕ) (p : ℕ) (pool : PoolStanding) → All (λ n. (1 ≤ n) × (n ≤ MAX_SERVERS)) servers
    → slice_get (map new_pool servers) p ≡ Some pool → (n : ℕ) × (1 ≤ n) × (pool ≡ new_pool n)
new_at [] p pool each place = absurd (cc)
new_at (n ∷ servers) zero pool each place = (n, (each zero n (omega arith)).0, sym (same_some (new_pool n) pool place))
new_at (n ∷ servers) (suc p) pool each place = new_at servers p pool (λ k d within. each (suc k) d (omega (arith, within))) place

new_sound : (pool : PoolStanding) (n : ℕ) → 1 ≤ n → pool ≡ new_pool n → IsPool 0 pool
new_sound pool n some is = rw is (record {
  some = rw (length-replicate {A = ℕ} n 0) some;
  free = rw (get_or-replicate {A = ℕ} n 0 0 0 some) (omega arith);
})

-- and one of the figures
none_at : (n i : ℕ) (f : PoolFigures) → slice_get (replicate n no_figures) i ≡ Some f → f ≡ no_figures
none_at zero i f at = absurd (cc)
none_at (suc n) zero f at = sym (same_some no_figures f at)
none_at (suc n) (suc i) f at = none_at n i f at

new_lengths : (servers : List ℕ) → map (λ (p : PoolStanding). length p.free) (map new_pool servers) ≡ servers
new_lengths [] = refl
new_lengths (n ∷ servers) = rw (length-replicate {A = ℕ} n 0, new_lengths servers) refl

pub started_sound : (ts : List TierStanding) (pools : List PoolStanding) (figures : List PoolFigures) (servers : List ℕ) → length ts ≡ 4
    → AreNew ts → ArePools servers → pools ≡ map new_pool servers → figures ≡ replicate (with_figures (length servers)) no_figures
    → IsSound (started ts pools figures)
started_sound ts pools figures servers long news are is none = record {
  four = long;
  offers = omega arith;
  default = rw is (omega (arith, are.default, length-map servers new_pool));
  pools = λ p pool place.
      let own = new_at servers p pool are.each (rw is at place) in
      new_sound pool own.0 own.1 own.2;
  kept = ap (λ (fs : List PoolFigures). length fs) none ∙ length-replicate (with_figures (length servers)) no_figures
      ∙ ap with_figures (sym (ap (λ (ps : List PoolStanding). length ps) is ∙ length-map servers new_pool));
  few = record {
    each = λ i f at. rw (none_at (with_figures (length servers)) i f (rw none at at)) (record { admitted = omega arith; busy = omega arith });
  };
  clock = (omega arith, omega arith);
  tiers = λ i t at. (news i t at).1;
}

pub started_fits : (ts : List TierStanding) (pools : List PoolStanding) (figures : List PoolFigures) (servers : List ℕ) → AreNew ts
    → ArePools servers → pools ≡ map new_pool servers → figures ≡ replicate (with_figures (length servers)) no_figures
    → ControllerAfter [] (started ts pools figures)
unfolding decided_from served tick_from
started_fits ts pools figures servers news are is none = record {
  offered = refl;
  tick = refl;
  pools = λ p pool place.
      let own = new_at servers p pool are.each (rw is at place) in
      rw (of_pool-none p, own.2) (free_none own.0);
  figures = λ p pool f place at.
      let own = new_at servers p pool are.each (rw is at place) in
      rw (of_pool-none p, own.2, none_at (with_figures (length servers)) p f (rw none at at)) (figures_none own.0);
  tiers = λ i t at. rw (of_tier-none i) (news i t at).0;
}

pub started_station : (policies : List PolicyNumbers) (ts : List TierStanding) (pools : List PoolStanding) (figures : List PoolFigures)
    (servers : List ℕ) → map (λ (t : TierStanding). t.rules) ts ≡ policies → pools ≡ map new_pool servers
    → station_of (started ts pools figures) ≡ record { policies = policies; pools = servers }
unfolding station_of
started_station policies ts pools figures servers rules is = rw (rules, is, new_lengths servers) refl

-- ---- what the controller's calls ask of a tier, and what they get

-- a tier of a sound controller has taken in all that was complete at the last offer
pub complete_at : (c : Standing) (i : ℕ) (t : TierStanding) → IsSound c → i < length c.tiers → t ≡ slice_index_or c.tiers i t
    → IsComplete c.tick (slice_index_or c.tiers i t)
complete_at c i t sound within at =
    rw (← at) (sound.tiers i t (get_at c.tiers i t within at)).complete

-- the standing of a tier, and that it fits its own requests
pub own_fits : (c : Standing) (i : ℕ) (t : TierStanding) (offers : List Offer) → i < length c.tiers
    → t ≡ slice_index_or c.tiers i t → ControllerAfter offers c → TierFits (of_tier i (decided (station_of c) offers)) t
own_fits c i t offers within at fits = fits.tiers i t (get_at c.tiers i t within at)

-- the controls that a tier shows
pub shown_at : (c : Standing) (i : ℕ) (t : TierStanding) (offers : List Offer) (shown : List Control) → i < length c.tiers
    → t ≡ slice_index_or c.tiers i t → ControllerAfter offers c
    → Shows (slice_index_or c.tiers i t) c.tick shown
    → shown ≡ controls_until (rules_of (station_of c) i) (served (of_tier i (decided (station_of c) offers))) (tick_from 0 offers)
shown_at c i t offers shown within at fits shows =
    let found : slice_get c.tiers i ≡ Some t = get_at c.tiers i t within at in
    rw (rules_at c i t found, ← fits.tick)
    (rw (← at) at (shows (of_tier i (decided (station_of c) offers)) (rw (← at) (fits.tiers i t found))))

-- a tier that is offered one more request at the tick up to which time has passed
pub offered_at : (c : Standing) (i tick : ℕ) (t : TierStanding) → IsSound c → c.clock ≡ tick → AreComplete c.tiers tick
    → i < length c.tiers → t ≡ slice_index_or c.tiers i t → IsShare c.offers tick tick (slice_index_or c.tiers i t)
offered_at c i tick t sound now complete within at =
    let there : slice_get c.tiers i ≡ Some t = get_at c.tiers i t within at in
    rw (← at)
    (share_complete_at c.offers c.tick tick tick t
    (share_later c.offers c.tick c.clock c.offers tick t (sound.tiers i t there) (omega arith) (omega (arith, now)))
    (complete i t there))

pub offered_decision : (c : Standing) (p i tick service delay : ℕ) (t : TierStanding) (pool : PoolStanding) (offers : List Offer)
    (decision : Decision) → IsSound c → i < length c.tiers → t ≡ slice_index_or c.tiers i t → slice_get c.pools p ≡ Some pool
    → ControllerAfter offers c → Decides (slice_index_or c.tiers i t) (first_free pool.free) tick service decision
    → decision
    ≡ decide (station_of c) (decided (station_of c) offers)
    (record { pool = p; tier = i; tick = tick; service = service; delay = delay })
offered_decision c p i tick service delay t pool offers decision sound within at place fits decides =
    let found : slice_get c.tiers i ≡ Some t = get_at c.tiers i t within at in
    rw (← at) at (decides (of_tier i (decided (station_of c) offers)) (rw (← at) (fits.tiers i t found)))
    ∙ decide_is c offers (record { pool = p; tier = i; tick = tick; service = service; delay = delay }) t pool sound fits found place

pub offered_fits : (c : Standing) (p i tick service delay : ℕ) (t next : TierStanding) (pool : PoolStanding) (offers : List Offer)
    (decision : Decision) → IsSound c → i < length c.tiers → t ≡ slice_index_or c.tiers i t → slice_get c.pools p ≡ Some pool
    → c.clock ≡ tick → ControllerAfter offers c → Decides (slice_index_or c.tiers i t) (first_free pool.free) tick service decision
    → Takes (slice_index_or c.tiers i t) tick delay decision next
    → next.rules ≡ (slice_index_or c.tiers i t).rules
    → ControllerAfter (offers ++ record { pool = p; tier = i; tick = tick; service = service; delay = delay } ∷ [])
    (with_offer c i next p (pool_after pool (waits_until c.figures p pool.free) tick decision)
    (figures_after c.figures p service (pool_after pool (waits_until c.figures p pool.free) tick decision).starts decision) tick)
offered_fits c p i tick service delay t next pool offers decision sound within at place now fits decides stands rules =
    let offer : Offer = record { pool = p; tier = i; tick = tick; service = service; delay = delay } in
    let past : List Decided = of_tier i (decided (station_of c) offers) in
    let found : slice_get c.tiers i ≡ Some t = get_at c.tiers i t within at in
    let own : TierFits past (slice_index_or c.tiers i t) = rw (← at) (fits.tiers i t found) in
    offer_fits c offers offer t next pool decision sound fits within found place (omega (arith, now, sound.clock.0)) (rw (← at) at rules)
    (rw (← at) at (decides past own)) (stands past offer refl refl own)

pub offered_station : (c : Standing) (p i tick until : ℕ) (figures : List PoolFigures) (decision : Decision) (t next : TierStanding)
    (pool : PoolStanding)
    → i < length c.tiers → t ≡ slice_index_or c.tiers i t → slice_get c.pools p ≡ Some pool
    → next.rules ≡ (slice_index_or c.tiers i t).rules
    → station_of (with_offer c i next p (pool_after pool until tick decision) figures tick) ≡ station_of c
offered_station c p i tick until figures decision t next pool within at place rules =
    station_kept c i t next p pool (pool_after pool until tick decision) figures tick (get_at c.tiers i t within at) place
    (rw (← at) at rules) (many_after pool until tick decision)

-- its clock is not beyond the tick up to which time has passed
pub clock_at : (c : Standing) (i tick : ℕ) (t : TierStanding) → IsSound c → c.clock ≡ tick → i < length c.tiers
    → t ≡ slice_index_or c.tiers i t → (slice_index_or c.tiers i t).clock ≤ tick
clock_at c i tick t sound now within at =
    rw (← at) (let own = (sound.tiers i t (get_at c.tiers i t within at)).clock in omega (arith, own, now))

-- what a request of a tier finds that comes at a later tick
pub foreseen_at : (c : Standing) (p i tick : ℕ) (t : TierStanding) (pool : PoolStanding) (offers : List Offer) (found : Outlook)
    → IsSound c → i < length c.tiers → t ≡ slice_index_or c.tiers i t → slice_get c.pools p ≡ Some pool
    → ControllerAfter offers c → Foresees (slice_index_or c.tiers i t) (first_free pool.free) tick found
    → found ≡ outlook (station_of c) (decided (station_of c) offers) p i tick
foreseen_at c p i tick t pool offers found sound within at place fits foresees =
    let is : slice_get c.tiers i ≡ Some t = get_at c.tiers i t within at in
    rw (rules_at c i t is, first_is c offers p pool sound fits place)
    (rw (← at) at (foresees (of_tier i (decided (station_of c) offers)) (rw (← at) (fits.tiers i t is))))

-- ---- the controls of all tiers

shown_in : (c : Standing) (offers : List Offer) (shown : List (List Control)) (i : ℕ) (controls : List Control)
    → i < length c.tiers → ControllerAfter offers c → AllShow c.tiers c.tick shown → slice_get shown i ≡ Some controls
    → controls ≡ controls_in (station_of c) offers i
shown_in c offers shown i controls within fits shows at =
    let own = some_at c.tiers i within in
    rw (rules_at c i own.0 own.1, ← fits.tick)
    (shows i own.0 controls own.1 at (of_tier i (decided (station_of c) offers)) (fits.tiers i own.0 own.1))

pub all_shown : (c : Standing) (offers : List Offer) (shown : List (List Control)) → length c.tiers ≡ 4
    → length shown ≡ 4 → ControllerAfter offers c → AllShow c.tiers c.tick shown
    → shown ≡ all_controls (station_of c) offers
all_shown c offers (w ∷ x ∷ y ∷ z ∷ []) four long fits shows =
    let first = shown_in c offers (w ∷ x ∷ y ∷ z ∷ []) 0 w (omega (arith, four)) fits shows refl in
    let second = shown_in c offers (w ∷ x ∷ y ∷ z ∷ []) 1 x (omega (arith, four)) fits shows refl in
    let third = shown_in c offers (w ∷ x ∷ y ∷ z ∷ []) 2 y (omega (arith, four)) fits shows refl in
    let fourth = shown_in c offers (w ∷ x ∷ y ∷ z ∷ []) 3 z (omega (arith, four)) fits shows refl in
    rw (first, second, third, fourth) refl
all_shown c offers [] four long fits shows = absurd (omega (arith, long))
all_shown c offers (w ∷ []) four long fits shows = absurd (omega (arith, long))
all_shown c offers (w ∷ x ∷ []) four long fits shows = absurd (omega (arith, long))
all_shown c offers (w ∷ x ∷ y ∷ []) four long fits shows = absurd (omega (arith, long))
all_shown c offers (w ∷ x ∷ y ∷ z ∷ v ∷ rest) four long fits shows = absurd (omega (arith, long))

-- ---- the figures of all pools

figures_from : (fs : List PoolFigures) (told : ℕ → PoolFigures) (from : ℕ)
    → ((i : ℕ) (f : PoolFigures) → slice_get fs i ≡ Some f → f ≡ told (from + i)) → fs ≡ map told (range_with_len from (length fs))
figures_from [] told from each = refl
figures_from (f ∷ fs) told from each =
    let here : from + 0 ≡ from = omega arith in
    let first : f ≡ told from = each 0 f refl ∙ ap told here in
    let rest = figures_from fs told (from + 1)
    (λ i g at. each (suc i) g at ∙ ap told (let next : from + suc i ≡ from + 1 + i = omega arith in next)) in
    λ i. first i ∷ rest i

pools_many : (c : Standing) → length (station_of c).pools ≡ length c.pools
unfolding station_of
pools_many c = length-map c.pools (λ (p : PoolStanding). length p.free)

pub all_counted : (c : Standing) (offers : List Offer) → IsSound c → ControllerAfter offers c → c.figures ≡ pools_of (station_of c) offers
unfolding pools_of
all_counted c offers sound fits =
    figures_from c.figures (figures_in (station_of c) offers) 0 (λ i f at.
    let within : i < length c.pools =
    omega (arith, slice_get_within c.figures i f at, sound.kept, figures-few (length c.pools)) in
    let own = some_at c.pools i within in
    (fits.figures i own.0 f own.1 at).are ∙ ap (figures_in (station_of c) offers) (let same : i ≡ 0 + i = omega arith in same))
    ∙ ap (λ n. map (figures_in (station_of c) offers) (range_with_len 0 n)) (sound.kept ∙ ap with_figures (sym (pools_many c)))

pub all_share : (c : Standing) (tick : ℕ) → IsSound c → c.clock ≤ tick → AllShare c.tiers tick
all_share c tick sound later i t at =
    (c.offers, c.tick, sound.offers, share_later c.offers c.tick c.clock c.offers tick t (sound.tiers i t at) (omega arith) later)

pub all_complete : (c : Standing) → IsSound c → AreComplete c.tiers c.tick
all_complete c sound i t at = (sound.tiers i t at).complete

same_controls : (u v : List Control) → Some u ≡ Some v → u ≡ v
same_controls u v same = cc

shows_there : (tiers : List TierStanding) (tick i : ℕ) (a t : TierStanding) (w controls : List Control) → Shows a tick w
    → slice_get tiers i ≡ Some a → slice_get tiers i ≡ Some t → Some w ≡ Some controls → Shows t tick controls
shows_there tiers tick i a t w controls shows own at shown =
    rw (sym (same_some a t (sym own ∙ at)), sym (same_controls w controls shown)) shows

-- the controls of the tiers one by one
pub four_show : (tiers : List TierStanding) (tick : ℕ) (w x y z : List Control) (a b c d : TierStanding)
    → Shows a tick w → Shows b tick x → Shows c tick y → Shows d tick z
    → slice_get tiers 0 ≡ Some a → slice_get tiers 1 ≡ Some b → slice_get tiers 2 ≡ Some c → slice_get tiers 3 ≡ Some d
    → AllShow tiers tick (w ∷ x ∷ y ∷ z ∷ [])
four_show tiers tick w x y z a b c d sa sb sc sd ia ib ic id zero t controls at shown = shows_there tiers tick 0 a t w controls sa ia at shown
four_show tiers tick w x y z a b c d sa sb sc sd ia ib ic id (suc zero) t controls at shown =
    shows_there tiers tick 1 b t x controls sb ib at shown
four_show tiers tick w x y z a b c d sa sb sc sd ia ib ic id (suc (suc zero)) t controls at shown =
    shows_there tiers tick 2 c t y controls sc ic at shown
four_show tiers tick w x y z a b c d sa sb sc sd ia ib ic id (suc (suc (suc zero))) t controls at shown =
    shows_there tiers tick 3 d t z controls sd id at shown
four_show tiers tick w x y z a b c d sa sb sc sd ia ib ic id (suc (suc (suc (suc i)))) t controls at shown = absurd (cc)
