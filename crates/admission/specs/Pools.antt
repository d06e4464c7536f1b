-- What follows for the pools, one by one and beside one another.
use Rattle.std.specs.Prelude.{◌≡◌, ℕ, ◌+◌, ◌≤◌, List, [], ◌∷◌, ◌++◌, All, nat_le, if◌then◌else◌}
use Rattle.token_bucket.specs.Reference.{TOKEN}
use Rattle.admission.specs.declared.control.Decision.TheVariants.{Admitted, Rejected}
use Rattle.admission.specs.Reference.{Station, rules_of, servers_of, Offer, Served, of_tier, served, of_pool, free_at}
use Rattle.admission.specs.Reference.{finish_after, sample, credit, decide, decided}

-- all of these offers are of this pool
unfoldable pub AreOfPool : ℕ → List Offer → Type 0
AreOfPool pool [] = Unit {0}
AreOfPool pool (offer ∷ offers) = (offer.pool ≡ pool) × AreOfPool pool offers

-- where all offers are of one pool, so is each admitted request, and an offer is decided as if that pool's servers were
-- the only ones: it is served after the admitted requests of all tiers
abbrev pub OnePoolServesAll : Type 0
OnePoolServesAll = (station : Station) (offers : List Offer) (offer : Offer) → AreOfPool offer.pool offers
    → (of_pool offer.pool (served (decided station offers)) ≡ served (decided station offers))
    × (decide station (decided station offers) offer
    ≡ (if nat_le TOKEN (credit (rules_of station offer.tier) (of_tier offer.tier (decided station offers)) offer.tick)
    then (Admitted (finish_after (servers_of station offer.pool) (served (decided station offers)) offer))
    else Rejected))

-- a single pool has the servers that it was made with
abbrev pub OnePoolServers : Type 0
OnePoolServers = (station : Station) (servers : ℕ) → station.pools ≡ servers ∷ [] → servers_of station 0 ≡ servers

-- an offer of another pool, whatever becomes of it, leaves the requests of this pool as they were, with their finishes,
-- and with them the tick from which on a server of this pool is free
abbrev pub OtherPoolsLeave : Type 0
OtherPoolsLeave = (station : Station) (offers : List Offer) (offer : Offer) (pool : ℕ) → (offer.pool ≡ pool → ⊥)
    → (of_pool pool (served (decided station (offers ++ offer ∷ []))) ≡ of_pool pool (served (decided station offers)))
    × (free_at (servers_of station pool) (of_pool pool (served (decided station (offers ++ offer ∷ []))))
    ≡ free_at (servers_of station pool) (of_pool pool (served (decided station offers))))

-- however many pools and servers there are, a request is served for its whole service after it came, and so its
-- response never takes less
abbrev pub IsServedWhole : Served → Type 0
IsServedWhole request = (request.offer.tick + request.offer.service ≤ request.finish)
    × (request.offer.service ≤ sample request)

abbrev pub AreServedWhole : Type 0
AreServedWhole = (station : Station) (offers : List Offer) → All IsServedWhole (served (decided station offers))
