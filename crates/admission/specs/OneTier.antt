-- Which offered requests are admitted where there is one policy and one set of servers: the decisions as they were
-- before tiers and pools.
use Rattle.std.specs.Prelude.{◌≡◌, ℕ, List, [], ◌∷◌, ◌++◌, nat_le, if◌then◌else◌}
use Rattle.token_bucket.specs.Reference.{TOKEN}
use Rattle.admission.specs.declared.policy.PolicyNumbers.{PolicyNumbers}
use Rattle.admission.specs.declared.control.Decision.{Decision}
use Rattle.admission.specs.declared.control.Decision.TheVariants.{Admitted, Rejected}
use Rattle.admission.specs.Reference.{Station, rules_of, servers_of, Offer, Decided, served, of_tier, finish_after}
use Rattle.admission.specs.Reference.{credit, decided}
use Rattle.admission.specs.Pools.{AreOfPool}

-- a request is admitted exactly where its credit holds a token
abbrev pub decide_alone : ℕ → PolicyNumbers → List Decided → Offer → Decision
decide_alone servers rules past offer =
    if nat_le TOKEN (credit rules past offer.tick) then (Admitted (finish_after servers (served past) offer))
    else Rejected

abbrev pub decided_alone_next : ℕ → PolicyNumbers → List Decided → Offer → Decided
decided_alone_next servers rules past offer = record { offer = offer; decision = decide_alone servers rules past offer }

-- each offer in turn, decided by those before it
unfoldable pub decided_alone_from : ℕ → PolicyNumbers → List Decided → List Offer → List Decided
decided_alone_from servers rules past [] = past
decided_alone_from servers rules past (offer ∷ offers) =
    decided_alone_from servers rules (past ++ decided_alone_next servers rules past offer ∷ []) offers

abbrev pub decided_alone : ℕ → PolicyNumbers → List Offer → List Decided
decided_alone servers rules offers = decided_alone_from servers rules [] offers

-- all of these offers are of this tier
unfoldable pub AreOfTier : ℕ → List Offer → Type 0
AreOfTier tier [] = Unit {0}
AreOfTier tier (offer ∷ offers) = (offer.tier ≡ tier) × AreOfTier tier offers

-- offers of tier 0 and pool 0 alone are decided under any policies and pools as the first of both alone decide them,
-- and they are the requests of tier 0, whose samples, controls and rates are therefore those of that policy alone
abbrev pub OneTierAsBefore : Type 0
OneTierAsBefore = (station : Station) (offers : List Offer) → AreOfTier 0 offers → AreOfPool 0 offers
    → (decided station offers ≡ decided_alone (servers_of station 0) (rules_of station 0) offers)
    × (of_tier 0 (decided station offers) ≡ decided_alone (servers_of station 0) (rules_of station 0) offers)
