-- One more offer after the offers so far.
use Rattle.std.proofs.Common.{◌≡◌, ℕ, ◌+◌, max, List, [], ◌∷◌, ◌++◌, refl, sym, ◌∙◌, ap, arith, append_assoc, append-nil, nat_eq}
use Rattle.std.specs.Prelude.{filter, sum_by}
use Rattle.std.proofs.lemmas.List.Sums.{sum_by_push}
use Rattle.std.proofs.lemmas.List.Elements.{filter-append}
use Rattle.std.proofs.lemmas.Bool.{eq-eqb, ne_eqb}
use Rattle.admission.specs.declared.control.Decision.{Decision}
use Rattle.admission.specs.declared.control.Decision.TheVariants.{Admitted, Rejected}
use Rattle.admission.specs.Reference.{Station, Offer, Decided, Served, of_tier, as_served, served, of_pool, decided_next, decided_from, tick_from}
use Rattle.admission.specs.Servers.{last_finish}

-- ---- the lists

pub decided_from-push : (station : Station) (past : List Decided) (offers : List Offer) (offer : Offer)
    → decided_from station past (offers ++ offer ∷ [])
    ≡ decided_from station past offers ++ decided_next station (decided_from station past offers) offer ∷ []
unfolding decided_from
decided_from-push station past [] offer = refl
decided_from-push station past (first ∷ offers) offer =
    decided_from-push station (past ++ decided_next station past first ∷ []) offers offer

pub served-push : (past : List Decided) (request : Decided)
    → served (past ++ request ∷ []) ≡ served past ++ as_served request.offer request.decision
unfolding served
served-push [] request = append-nil (as_served request.offer request.decision)
served-push (first ∷ past) request =
    rw (served-push past request) (sym (append_assoc (as_served first.offer first.decision) (served past) (as_served request.offer request.decision)))

-- a request is one of its tier's
pub of_tier-same : (tier : ℕ) (past : List Decided) (request : Decided) → request.offer.tier ≡ tier
    → of_tier tier (past ++ request ∷ []) ≡ of_tier tier past ++ request ∷ []
unfolding of_tier
of_tier-same tier past request same =
    filter-append (λ (r : Decided). nat_eq r.offer.tier tier) past (request ∷ [])
    ∙ rw (eq-eqb request.offer.tier tier same) refl

-- and of no other's
pub of_tier-other : (tier : ℕ) (past : List Decided) (request : Decided) → (request.offer.tier ≡ tier → ⊥)
    → of_tier tier (past ++ request ∷ []) ≡ of_tier tier past
unfolding of_tier
of_tier-other tier past request apart =
    filter-append (λ (r : Decided). nat_eq r.offer.tier tier) past (request ∷ [])
    ∙ rw (ne_eqb request.offer.tier tier apart) (append-nil (filter (λ (r : Decided). nat_eq r.offer.tier tier) past))

pub of_tier-none : (tier : ℕ) → of_tier tier [] ≡ []
unfolding of_tier
of_tier-none tier = refl

-- the same of pools
pub of_pool-same : (pool : ℕ) (requests : List Served) (request : Served) → request.offer.pool ≡ pool
    → of_pool pool (requests ++ request ∷ []) ≡ of_pool pool requests ++ request ∷ []
unfolding of_pool
of_pool-same pool requests request same =
    filter-append (λ (r : Served). nat_eq r.offer.pool pool) requests (request ∷ [])
    ∙ rw (eq-eqb request.offer.pool pool same) refl

pub of_pool-other : (pool : ℕ) (requests : List Served) (request : Served) → (request.offer.pool ≡ pool → ⊥)
    → of_pool pool (requests ++ request ∷ []) ≡ of_pool pool requests
unfolding of_pool
of_pool-other pool requests request apart =
    filter-append (λ (r : Served). nat_eq r.offer.pool pool) requests (request ∷ [])
    ∙ rw (ne_eqb request.offer.pool pool apart) (append-nil (filter (λ (r : Served). nat_eq r.offer.pool pool) requests))

pub of_pool-none : (pool : ℕ) → of_pool pool (served []) ≡ []
unfolding of_pool served
of_pool-none pool = refl

-- an offer of another pool, admitted or not
pub of_pool-apart : (pool : ℕ) (past : List Decided) (offer : Offer) (decision : Decision) → (offer.pool ≡ pool → ⊥)
    → of_pool pool (served (past ++ record { offer = offer; decision = decision } ∷ [])) ≡ of_pool pool (served past)
of_pool-apart pool past offer (Admitted finish) apart =
    ap (of_pool pool) (served-push past (record { offer = offer; decision = Admitted finish }))
    ∙ of_pool-other pool (served past) (record { offer = offer; finish = finish }) apart
of_pool-apart pool past offer Rejected apart =
    ap (of_pool pool) (served-push past (record { offer = offer; decision = Rejected }) ∙ append-nil (served past))

pub tick_from-push : (tick : ℕ) (offers : List Offer) (offer : Offer) → tick_from tick (offers ++ offer ∷ []) ≡ offer.tick
unfolding tick_from
tick_from-push tick [] offer = refl
tick_from-push tick (first ∷ offers) offer = tick_from-push first.tick offers offer

-- ---- one server

max_moved : (a s l t v : ℕ) → max (a + (s + v)) (max l t + v) ≡ max (max (a + s) l) t + v
max_moved a s l t v = omega arith

-- a request is finished its service after the later of its arrival and the finish of the one before it
pub last_finish-push : (offers : List Offer) (offer : Offer)
    → last_finish (offers ++ offer ∷ []) ≡ max (last_finish offers) offer.tick + offer.service
unfolding last_finish
last_finish-push [] offer = omega arith
last_finish-push (first ∷ offers) offer =
    let sum : sum_by (λ (o : Offer). o.service) (first ∷ (offers ++ offer ∷ [])) ≡ sum_by (λ (o : Offer). o.service) (first ∷ offers) + offer.service =
    sum_by_push (λ (o : Offer). o.service) (first ∷ offers) offer in
    rw (sum, last_finish-push offers offer)
    (max_moved first.tick (sum_by (λ (o : Offer). o.service) (first ∷ offers)) (last_finish offers) offer.tick offer.service)
