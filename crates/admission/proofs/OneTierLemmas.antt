-- Offers of one tier alone are decided as before there were tiers.
use Rattle.std.proofs.Common.{◌≡◌, List, [], ◌∷◌, ◌++◌, refl, ◌∙◌, ap}
use Rattle.admission.specs.Reference.{Station, rules_of, servers_of, Offer, Decided, of_tier, served, of_pool, decided_next, decided_from}
use Rattle.admission.specs.Pools.{AreOfPool}
use Rattle.admission.specs.OneTier.{decided_alone_next, decided_alone_from, AreOfTier, OneTierAsBefore}
use Rattle.admission.proofs.RequestLemmas.{of_tier-same, of_tier-none}
use Rattle.admission.proofs.PoolLemmas.{finish_alone, all_none, all_next}

next_alone : (station : Station) (past : List Decided) (offer : Offer) → offer.tier ≡ 0 → offer.pool ≡ 0 → of_tier 0 past ≡ past
    → of_pool 0 (served past) ≡ served past
    → decided_next station past offer ≡ decided_alone_next (servers_of station 0) (rules_of station 0) past offer
next_alone station past offer at place all pooled =
    rw (at, all, finish_alone station 0 (served past) offer place pooled) refl

from_alone : (station : Station) (past : List Decided) (offers : List Offer) → AreOfTier 0 offers → AreOfPool 0 offers
    → of_tier 0 past ≡ past → of_pool 0 (served past) ≡ served past
    → (decided_from station past offers ≡ decided_alone_from (servers_of station 0) (rules_of station 0) past offers)
    × (of_tier 0 (decided_from station past offers) ≡ decided_alone_from (servers_of station 0) (rules_of station 0) past offers)
unfolding decided_from decided_alone_from AreOfTier AreOfPool
from_alone station past [] of in_pool all pooled = (refl, all)
from_alone station past (offer ∷ offers) of in_pool all pooled =
    let next : decided_next station past offer ≡ decided_alone_next (servers_of station 0) (rules_of station 0) past offer =
    next_alone station past offer of.0 in_pool.0 all pooled in
    let more : of_tier 0 (past ++ decided_next station past offer ∷ []) ≡ past ++ decided_next station past offer ∷ [] =
    of_tier-same 0 past (decided_next station past offer) of.0 ∙ ap (λ (ds : List Decided). ds ++ decided_next station past offer ∷ []) all in
    let rest = from_alone station (past ++ decided_next station past offer ∷ []) offers of.1 in_pool.1 more
    (all_next station 0 past offer in_pool.0 pooled) in
    let same = ap (λ (d : Decided). decided_alone_from (servers_of station 0) (rules_of station 0) (past ++ d ∷ []) offers) next in
    (rest.0 ∙ same, rest.1 ∙ same)

pub one_tier_as_before : OneTierAsBefore
one_tier_as_before station offers of in_pool = from_alone station [] offers of in_pool (of_tier-none 0) (all_none 0)
