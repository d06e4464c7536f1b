-- The pools beside one another.
use Rattle.std.proofs.Common.{◌≡◌, ℕ, List, [], ◌∷◌, ◌++◌, Bool, true, false, nat_le, if◌then◌else◌, refl, ◌∙◌, ap, arith, append-nil}
use Rattle.std.specs.Prelude.{All}
use Rattle.std.proofs.lemmas.List.Elements.{All-push}
use Rattle.token_bucket.specs.Reference.{TOKEN}
use Rattle.admission.specs.declared.control.Decision.TheVariants.{Admitted, Rejected}
use Rattle.admission.specs.Reference.{Station, rules_of, servers_of, Offer, Decided, Served, of_tier, served, of_pool, free_at, finish_after, finish_in, credit, decide, decided_next, decided_from, decided}
use Rattle.admission.specs.Pools.{AreOfPool, OnePoolServesAll, OnePoolServers, OtherPoolsLeave, IsServedWhole, AreServedWhole}
use Rattle.admission.proofs.RequestLemmas.{decided_from-push, served-push, of_pool-same, of_pool-apart}

abbrev pub Chosen : Offer → ℕ → Bool → Decided
Chosen offer finish b = record { offer = offer; decision = if b then (Admitted finish) else Rejected }

-- ---- all of one pool

pub finish_alone : (station : Station) (pool : ℕ) (requests : List Served) (offer : Offer) → offer.pool ≡ pool
    → of_pool pool requests ≡ requests → finish_in station requests offer ≡ finish_after (servers_of station pool) requests offer
finish_alone station pool requests offer same all =
    ap (λ p. finish_after (servers_of station p) (of_pool p requests) offer) same
    ∙ ap (λ (rs : List Served). finish_after (servers_of station pool) rs offer) all

all_chosen : (pool : ℕ) (past : List Decided) (offer : Offer) (finish : ℕ) (b : Bool) → offer.pool ≡ pool
    → of_pool pool (served past) ≡ served past
    → of_pool pool (served (past ++ Chosen offer finish b ∷ [])) ≡ served (past ++ Chosen offer finish b ∷ [])
all_chosen pool past offer finish true same all =
    let request : Served = record { offer = offer; finish = finish } in
    rw (served-push past (Chosen offer finish true))
    (of_pool-same pool (served past) request same ∙ ap (λ (rs : List Served). rs ++ request ∷ []) all)
all_chosen pool past offer finish false same all = rw (served-push past (Chosen offer finish false), append-nil (served past)) all

pub all_next : (station : Station) (pool : ℕ) (past : List Decided) (offer : Offer) → offer.pool ≡ pool
    → of_pool pool (served past) ≡ served past
    → of_pool pool (served (past ++ decided_next station past offer ∷ [])) ≡ served (past ++ decided_next station past offer ∷ [])
all_next station pool past offer same all =
    all_chosen pool past offer (finish_in station (served past) offer)
    (nat_le TOKEN (credit (rules_of station offer.tier) (of_tier offer.tier past) offer.tick)) same all

pub all_none : (pool : ℕ) → of_pool pool (served []) ≡ served []
unfolding of_pool served
all_none pool = refl

all_from : (station : Station) (pool : ℕ) (past : List Decided) (offers : List Offer) → AreOfPool pool offers
    → of_pool pool (served past) ≡ served past
    → of_pool pool (served (decided_from station past offers)) ≡ served (decided_from station past offers)
unfolding decided_from AreOfPool
all_from station pool past [] of all = all
all_from station pool past (offer ∷ offers) of all =
    all_from station pool (past ++ decided_next station past offer ∷ []) offers of.1 (all_next station pool past offer of.0 all)

pub one_pool_serves_all : OnePoolServesAll
one_pool_serves_all station offers offer of =
    let past : List Decided = decided station offers in
    let all : of_pool offer.pool (served past) ≡ served past = all_from station offer.pool [] offers of (all_none offer.pool) in (
      all,
      ap (λ (rs : List Served). if nat_le TOKEN (credit (rules_of station offer.tier) (of_tier offer.tier past) offer.tick)
          then (Admitted (finish_after (servers_of station offer.pool) rs offer)) else Rejected) all,
    )

pub one_pool_servers : OnePoolServers
unfolding servers_of
one_pool_servers station servers one = rw one refl

-- ---- other pools

pub other_pools_leave : OtherPoolsLeave
other_pools_leave station offers offer pool apart =
    let past : List Decided = decided station offers in
    let same : of_pool pool (served (decided station (offers ++ offer ∷ []))) ≡ of_pool pool (served past) =
    ap (λ (ds : List Decided). of_pool pool (served ds)) (decided_from-push station [] offers offer)
    ∙ of_pool-apart pool past offer (decide station past offer) apart in
    (same, ap (free_at (servers_of station pool)) same)

-- ---- services

whole_finish : (station : Station) (requests : List Served) (offer : Offer)
    → IsServedWhole (record { offer = offer; finish = finish_in station requests offer })
whole_finish station requests offer = (omega arith, omega arith)

whole_chosen : (station : Station) (past : List Decided) (offer : Offer) (b : Bool) → All IsServedWhole (served past)
    → All IsServedWhole (served (past ++ Chosen offer (finish_in station (served past) offer) b ∷ []))
whole_chosen station past offer true all =
    rw (served-push past (Chosen offer (finish_in station (served past) offer) true))
    (All-push IsServedWhole (served past) (record { offer = offer; finish = finish_in station (served past) offer }) all
    (whole_finish station (served past) offer))
whole_chosen station past offer false all =
    rw (served-push past (Chosen offer (finish_in station (served past) offer) false), append-nil (served past)) all

whole_from : (station : Station) (past : List Decided) (offers : List Offer) → All IsServedWhole (served past)
    → All IsServedWhole (served (decided_from station past offers))
unfolding decided_from
whole_from station past [] all = all
whole_from station past (offer ∷ offers) all =
    whole_from station (past ++ decided_next station past offer ∷ []) offers
    (whole_chosen station past offer (nat_le TOKEN (credit (rules_of station offer.tier) (of_tier offer.tier past) offer.tick)) all)

whole_none : All IsServedWhole (served [])
unfolding served
whole_none k d within = absurd (omega arith)

pub are_served_whole : AreServedWhole
are_served_whole station offers = whole_from station [] offers whole_none
