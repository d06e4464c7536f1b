-- What follows from the definitions.
use Rattle.std.specs.Prelude.{◌≡◌, ℕ, ◌+◌, ◌-◌, ◌*◌, ◌<◌, ◌≤◌, min, max, List, [], ◌∷◌, ◌++◌, if◌then◌else◌}
use Rattle.token_bucket.specs.Reference.{TOKEN, accrual}
use Rattle.admission.specs.declared.policy.PolicyNumbers.{PolicyNumbers}
use Rattle.admission.specs.declared.control.Decision.TheVariants.{Rejected}
use Rattle.admission.specs.Reference.{Station, rules_of, servers_of, Offer, Decided, Served, of_tier, served, of_pool}
use Rattle.admission.specs.Reference.{is_admitted, completion, by_completion, control_at, rate_at, credit, decide}
use Rattle.admission.specs.Reference.{decided}
use Rattle.admission.specs.Servers.{last_finish, offers_served}
use Rattle.admission.specs.Rules.{IsInRange}

-- the decisions on the first offers are the first decisions
abbrev pub DecisionsBegin : Type 0
DecisionsBegin = (station : Station) (offers more : List Offer)
    → (rest : List Decided) × (decided station (offers ++ more) ≡ decided station offers ++ rest)

abbrev pub and_rejected : List Decided → Offer → List Decided
and_rejected past rejected = past ++ record { offer = rejected; decision = Rejected } ∷ []

-- a rejected offer, of whatever tier, changes nothing that a later one sees: no request is served, in any tier no
-- sample, control or rate is another (they are those of its served requests) and no credit is, and so no decision is
abbrev pub RejectedLeavesAll : Type 0
RejectedLeavesAll = (station : Station) (past : List Decided) (rejected offer : Offer) (tier tick : ℕ)
    → (served (and_rejected past rejected) ≡ served past)
    × (served (of_tier tier (and_rejected past rejected)) ≡ served (of_tier tier past))
    × (credit (rules_of station tier) (of_tier tier (and_rejected past rejected)) tick
    ≡ credit (rules_of station tier) (of_tier tier past) tick)
    × (decide station (and_rejected past rejected) offer ≡ decide station past offer)

-- an offer of another tier, whatever becomes of it, leaves the requests of this tier as they were, and with them each
-- credit, rate, sample and control of this tier
abbrev pub OtherTiersLeave : Type 0
OtherTiersLeave = (station : Station) (offers : List Offer) (offer : Offer) (tier : ℕ)
    → (offer.tier ≡ tier → ⊥)
    → of_tier tier (decided station (offers ++ offer ∷ [])) ≡ of_tier tier (decided station offers)

-- each rate lies between the least and the greatest
abbrev pub RatesWithin : Type 0
RatesWithin = (rules : PolicyNumbers) (requests : List Served) (tick : ℕ) → IsInRange rules
    → (rules.rate_min ≤ rate_at rules requests tick) × (rate_at rules requests tick ≤ rules.rate_max)

-- a finish of one server is the later of the finish before it and its request's arrival, with its service: these
-- finishes never fall, and a response never takes less than the service
abbrev pub FinishRuns : Type 0
FinishRuns = (offers : List Offer) (offer : Offer)
    → (last_finish (offers ++ offer ∷ []) ≡ max (last_finish offers) offer.tick + offer.service)
    × (last_finish offers ≤ last_finish (offers ++ offer ∷ []))
    × (offer.service ≤ last_finish (offers ++ offer ∷ []) - offer.tick)

-- the rate in force before a response is complete does not depend on its request
abbrev pub RateBefore : Type 0
RateBefore = (rules : PolicyNumbers) (requests : List Served) (request : Served) (tick : ℕ) → IsInRange rules
    → tick < completion request → rate_at rules (requests ++ request ∷ []) tick ≡ rate_at rules requests tick

-- ---- one step from what is carried

-- offers in the order of their ticks, from this tick on, each with a service of at least one tick
unfoldable pub AreOffered : ℕ → List Offer → Type 0
AreOffered tick [] = Unit {0}
AreOffered tick (offer ∷ offers) = (tick ≤ offer.tick) × (1 ≤ offer.service) × AreOffered offer.tick offers

-- none of these offers is of this tier
unfoldable pub AreOfOthers : ℕ → List Offer → Type 0
AreOfOthers tier [] = Unit {0}
AreOfOthers tier (offer ∷ offers) = (offer.tier ≡ tier → ⊥) × AreOfOthers tier offers

-- from one finish to another, each of these requests is finished its service after the later of the finish before it
-- and its arrival
unfoldable pub RunsTo : ℕ → List Served → ℕ → Type 0
RunsTo before [] last = before ≡ last
RunsTo before (request ∷ requests) last =
    (request.finish ≡ max before request.offer.tick + request.offer.service) × RunsTo request.finish requests last

-- where a pool has one server, the finishes of its admitted requests of all tiers run so from 0 to the finish after
-- which the pool's next one is served, of whatever tier it is
abbrev pub FinishFromFinish : Type 0
FinishFromFinish = (station : Station) (offers : List Offer) (pool : ℕ) → servers_of station pool ≡ 1
    → RunsTo 0 (of_pool pool (served (decided station offers)))
    (last_finish (offers_served (of_pool pool (served (decided station offers)))))

-- the first offered request of a tier finds a full bucket, whenever it comes and whatever other tiers were offered
abbrev pub FirstCredit : Type 0
FirstCredit = (station : Station) (offers : List Offer) (tier tick : ℕ) → AreOfOthers tier offers
    → credit (rules_of station tier) (of_tier tier (decided station offers)) tick
    ≡ (rules_of station tier).depth * TOKEN

-- the credit of a tier after an offer of that tier, by the tier's rules
abbrev pub CreditAfter : PolicyNumbers → Station → List Offer → Offer → ℕ → Type 0
CreditAfter rules station offers offer tick =
    credit rules (of_tier offer.tier (decided station (offers ++ offer ∷ []))) tick
    ≡ min (rules.depth * TOKEN)
    (credit rules (of_tier offer.tier (decided station offers)) offer.tick
    - (if is_admitted (decide station (decided station offers) offer) then TOKEN else 0)
    + accrual (rate_at rules (served (of_tier offer.tier (decided station (offers ++ offer ∷ []))))) offer.tick tick)

-- it is that of the offer, without the token that it took, and with what accrues from it on, up to the depth
abbrev pub CreditFromCredit : Type 0
CreditFromCredit = (station : Station) (offers : List Offer) (offer : Offer) (tick : ℕ)
    → IsInRange (rules_of station offer.tier) → AreOffered 0 (offers ++ offer ∷ []) → offer.tick ≤ tick
    → CreditAfter (rules_of station offer.tier) station offers offer tick

-- what accrues from one tick to another falls into what accrues up to a control between them and from it on
abbrev pub AccrualSplitsAtControl : Type 0
AccrualSplitsAtControl = (rules : PolicyNumbers) (requests : List Served) (k s t : ℕ)
    → s ≤ (control_at rules (by_completion requests) k).instant
    → (control_at rules (by_completion requests) k).instant ≤ t
    → accrual (rate_at rules requests) s t
    ≡ accrual (rate_at rules requests) s (control_at rules (by_completion requests) k).instant
    + accrual (rate_at rules requests) (control_at rules (by_completion requests) k).instant t

-- the rate of a tier in force at a tick that no further offer of any tier comes before depends on the offers so far
-- alone
abbrev pub RateFromOffersBefore : Type 0
RateFromOffersBefore = (station : Station) (offers more : List Offer) (tier tick : ℕ)
    → IsInRange (rules_of station tier) → AreOffered tick more
    → rate_at (rules_of station tier) (served (of_tier tier (decided station (offers ++ more)))) tick
    ≡ rate_at (rules_of station tier) (served (of_tier tier (decided station offers))) tick
