-- The laws of what is carried from offer to offer.
use Rattle.std.proofs.Common.{◌≡◌, ℕ, ◌+◌, ◌-◌, ◌*◌, ◌<◌, ◌≤◌, min, List, [], ◌∷◌, ◌++◌, Bool, true, false, cond, nat_le, refl, sym, ◌∙◌, ap, arith, append-nil, inl, inr, if◌then◌else◌}
use Rattle.std.proofs.lemmas.Bool.{le-leb, lt-leb, cases_lt, cases_eq}
use Rattle.token_bucket.specs.Reference.{TOKEN, accrual}
use Rattle.token_bucket.proofs.AccrualLemmas.{accrual-split}
use Rattle.admission.specs.declared.policy.PolicyNumbers.{PolicyNumbers}
use Rattle.admission.specs.declared.control.Decision.TheVariants.{Admitted, Rejected}
use Rattle.admission.specs.Reference.{Station, rules_of, Offer, Decided, Served, of_tier, is_admitted, served, finish_in, by_completion, control_at, rate_at, least_balance, credit, decide, decided_next, decided_from, decided, tick_from}
use Rattle.admission.specs.After.{AllCovered}
use Rattle.admission.specs.Laws.{AreOffered, AreOfOthers, FirstCredit, CreditFromCredit, AccrualSplitsAtControl, RateFromOffersBefore}
use Rattle.admission.proofs.RequestLemmas.{decided_from-push, of_tier-same, of_tier-other, of_tier-none, served-push}
use Rattle.admission.proofs.CreditLemmas.{token_of, least_balance-none, least_balance-later, least_balance-push, covered-later, covered-push}
use Rattle.admission.proofs.LawLemmas.{decided_from-append}
use Rattle.admission.proofs.TakenLemmas as taken

-- ---- one more offer

abbrev Chosen : Offer → ℕ → Bool → Decided
Chosen offer finish b = record { offer = offer; decision = if b then (Admitted finish) else Rejected }

served_admitted : (past : List Decided) (offer : Offer) (finish : ℕ)
    → served (past ++ Chosen offer finish true ∷ []) ≡ served past ++ record { offer = offer; finish = finish } ∷ []
served_admitted past offer finish = served-push past (Chosen offer finish true)

served_rejected : (past : List Decided) (offer : Offer) (finish : ℕ) → served (past ++ Chosen offer finish false ∷ []) ≡ served past
served_rejected past offer finish = served-push past (Chosen offer finish false) ∙ append-nil (served past)

-- ---- rates

rate_chosen : (rules : PolicyNumbers) (past : List Decided) (offer : Offer) (finish u : ℕ) (b : Bool) → 0 < rules.every → u < finish
    → rate_at rules (served (past ++ Chosen offer finish b ∷ [])) u ≡ rate_at rules (served past) u
rate_chosen rules past offer finish u true some before =
    rw (served_admitted past offer finish)
    (sym (taken.rate_before rules (served past) (record { offer = offer; finish = finish }) u some (omega arith)))
rate_chosen rules past offer finish u false some before = rw (served_rejected past offer finish) refl

finish_later : (station : Station) (requests : List Served) (offer : Offer) (u : ℕ) → 1 ≤ offer.service → u ≤ offer.tick
    → u < finish_in station requests offer
finish_later station requests offer u longer before = omega arith

-- the requests of a tier after one more offer: with that offer, or as they were
tier_next : (station : Station) (past : List Decided) (offer : Offer) (tier : ℕ) (P : List Decided → Type 0)
    → (offer.tier ≡ tier → P (of_tier tier past ++ decided_next station past offer ∷ [])) → P (of_tier tier past)
    → P (of_tier tier (past ++ decided_next station past offer ∷ []))
tier_next station past offer tier P own other =
    elim (cases_eq offer.tier tier) [
      | inl same ↦ rw (of_tier-same tier past (decided_next station past offer) same) (own same)
      | inr apart ↦ rw (of_tier-other tier past (decided_next station past offer) apart) other
    ]

abbrev chooses : Station → List Decided → Offer → Bool
chooses station past offer = nat_le TOKEN (credit (rules_of station offer.tier) (of_tier offer.tier past) offer.tick)

rate_own : (rules : PolicyNumbers) (station : Station) (past own : List Decided) (offer : Offer) (u : ℕ) → 0 < rules.every → 1 ≤ offer.service
    → u ≤ offer.tick → rate_at rules (served (own ++ decided_next station past offer ∷ [])) u ≡ rate_at rules (served own) u
rate_own rules station past own offer u some longer before =
    rate_chosen rules own offer (finish_in station (served past) offer) u (chooses station past offer) some
    (finish_later station (served past) offer u longer before)

rate_next : (rules : PolicyNumbers) (station : Station) (past : List Decided) (offer : Offer) (tier u : ℕ) → 0 < rules.every → 1 ≤ offer.service
    → u ≤ offer.tick
    → rate_at rules (served (of_tier tier (past ++ decided_next station past offer ∷ []))) u ≡ rate_at rules (served (of_tier tier past)) u
rate_next rules station past offer tier u some longer before =
    tier_next station past offer tier (λ ds. rate_at rules (served ds) u ≡ rate_at rules (served (of_tier tier past)) u)
    (λ same. rate_own rules station past (of_tier tier past) offer u some longer before) refl

offered-lower : (u v : ℕ) (offers : List Offer) → u ≤ v → AreOffered v offers → AreOffered u offers
unfolding AreOffered
offered-lower u v [] lower offered = tt
offered-lower u v (offer ∷ offers) lower offered = (omega (arith, offered.0), offered.1, offered.2)

rate_from : (rules : PolicyNumbers) (station : Station) (past : List Decided) (more : List Offer) (tier u : ℕ) → 0 < rules.every → AreOffered u more
    → rate_at rules (served (of_tier tier (decided_from station past more))) u ≡ rate_at rules (served (of_tier tier past)) u
unfolding decided_from AreOffered
rate_from rules station past [] tier u some offered = refl
rate_from rules station past (offer ∷ more) tier u some offered =
    rate_from rules station (past ++ decided_next station past offer ∷ []) more tier u some (offered-lower u offer.tick more offered.0 offered.2)
    ∙ rate_next rules station past offer tier u some offered.1 offered.0

pub rate_from_offers_before : RateFromOffersBefore
rate_from_offers_before station offers more tier tick range offered =
    ap (λ (ds : List Decided). rate_at (rules_of station tier) (served (of_tier tier ds)) tick) (decided_from-append station [] offers more)
    ∙ rate_from (rules_of station tier) station (decided station offers) more tier tick (omega (arith, range.every.0)) offered

-- ---- credits

-- a request takes a token only out of a credit that holds one
enough : (held finish : ℕ) → TOKEN * cond (is_admitted (if nat_le TOKEN held then (Admitted finish) else Rejected)) 1 0 ≤ held
enough held finish =
    elim (cases_lt held TOKEN) [
      | inl short ↦ rw (lt-leb TOKEN held short) (omega arith)
      | inr full ↦ rw (le-leb TOKEN held full) (omega arith)
    ]

taken_is : (b : Bool) → TOKEN * cond b 1 0 ≡ (if b then TOKEN else 0)
taken_is true = omega arith
taken_is false = omega arith

abbrev Covers : PolicyNumbers → ℕ → List Decided → Type 0
Covers rules tick own = AllCovered (rate_at rules (served own)) (rules.depth * TOKEN) tick own

covered_own : (station : Station) (past : List Decided) (offer : Offer) → 0 < (rules_of station offer.tier).every → 1 ≤ offer.service
    → Covers (rules_of station offer.tier) offer.tick (of_tier offer.tier past)
    → Covers (rules_of station offer.tier) offer.tick (of_tier offer.tier past ++ decided_next station past offer ∷ [])
covered_own station past offer some longer covered =
    let rules : PolicyNumbers = rules_of station offer.tier in
    let own : List Decided = of_tier offer.tier past in
    covered-push (rate_at rules (served own)) (rate_at rules (served (own ++ decided_next station past offer ∷ []))) (rules.depth * TOKEN) offer.tick own
    (decided_next station past offer) covered refl (λ u below. sym (rate_own rules station past own offer u some longer (omega arith)))
    (enough (credit rules own offer.tick) (finish_in station (served past) offer))

covered_next : (station : Station) (past : List Decided) (offer : Offer) (tier : ℕ) → 0 < (rules_of station tier).every → 1 ≤ offer.service
    → Covers (rules_of station tier) offer.tick (of_tier tier past)
    → Covers (rules_of station tier) offer.tick (of_tier tier (past ++ decided_next station past offer ∷ []))
covered_next station past offer tier some longer covered =
    tier_next station past offer tier (Covers (rules_of station tier) offer.tick)
    (λ same. rw (← same) (covered_own station past offer (rw (← same) at some) longer (rw (← same) at covered))) covered

covered_from : (station : Station) (past : List Decided) (offers : List Offer) (tier t : ℕ) → 0 < (rules_of station tier).every → AreOffered t offers
    → Covers (rules_of station tier) t (of_tier tier past)
    → Covers (rules_of station tier) (tick_from t offers) (of_tier tier (decided_from station past offers))
unfolding decided_from AreOffered tick_from
covered_from station past [] tier t some offered covered = covered
covered_from station past (offer ∷ offers) tier t some offered covered =
    covered_from station (past ++ decided_next station past offer ∷ []) offers tier offer.tick some offered.2
    (covered_next station past offer tier some offered.1
    (covered-later (rate_at (rules_of station tier) (served (of_tier tier past))) ((rules_of station tier).depth * TOKEN) t offer.tick
    (of_tier tier past) covered offered.0))

offered-parts : (t : ℕ) (offers : List Offer) (offer : Offer) → AreOffered t (offers ++ offer ∷ [])
    → AreOffered t offers × (tick_from t offers ≤ offer.tick) × (1 ≤ offer.service)
unfolding AreOffered tick_from
offered-parts t [] offer offered = (tt, offered.0, offered.1)
offered-parts t (first ∷ offers) offer offered =
    let rest = offered-parts first.tick offers offer offered.2 in
    ((offered.0, offered.1, rest.0), rest.1, rest.2)

others_from : (station : Station) (past : List Decided) (offers : List Offer) (tier : ℕ) → AreOfOthers tier offers
    → of_tier tier (decided_from station past offers) ≡ of_tier tier past
unfolding decided_from AreOfOthers
others_from station past [] tier others = refl
others_from station past (offer ∷ offers) tier others =
    others_from station (past ++ decided_next station past offer ∷ []) offers tier others.1
    ∙ of_tier-other tier past (decided_next station past offer) others.0

pub first_credit : FirstCredit
first_credit station offers tier tick others =
    ap (λ (ds : List Decided). credit (rules_of station tier) ds tick) (others_from station [] offers tier others ∙ of_tier-none tier)
    ∙ least_balance-none (rate_at (rules_of station tier) (served [])) ((rules_of station tier).depth * TOKEN) tick

credit_own : (station : Station) (past : List Decided) (offer : Offer) (tick : ℕ) → 0 < (rules_of station offer.tier).every → 1 ≤ offer.service
    → offer.tick ≤ tick → Covers (rules_of station offer.tier) offer.tick (of_tier offer.tier past)
    → credit (rules_of station offer.tier) (of_tier offer.tier past ++ decided_next station past offer ∷ []) tick
    ≡ min ((rules_of station offer.tier).depth * TOKEN)
    (credit (rules_of station offer.tier) (of_tier offer.tier past) offer.tick - (if is_admitted (decide station past offer) then TOKEN else 0)
    + accrual (rate_at (rules_of station offer.tier) (served (of_tier offer.tier past ++ decided_next station past offer ∷ []))) offer.tick tick)
credit_own station past offer tick some longer later covered =
    let rules : PolicyNumbers = rules_of station offer.tier in
    let own : List Decided = of_tier offer.tier past in
    let request : Decided = decided_next station past offer in
    let full : ℕ = rules.depth * TOKEN in
    let f : ℕ → ℕ = rate_at rules (served own) in
    let g : ℕ → ℕ = rate_at rules (served (own ++ request ∷ [])) in
    let there : least_balance g full offer.tick (own ++ request ∷ []) ≡ least_balance f full offer.tick own - TOKEN * token_of request =
    least_balance-push f g full offer.tick own request covered refl (λ u below. sym (rate_own rules station past own offer u some longer (omega arith))) in
    least_balance-later g full offer.tick tick (own ++ request ∷ []) (covered_own station past offer some longer covered) later
    ∙ ap (λ n. min full (n + accrual g offer.tick tick))
    (there ∙ ap (λ n. least_balance f full offer.tick own - n) (taken_is (is_admitted (decide station past offer))))

first_covered : (rules : PolicyNumbers) → Covers rules 0 []
unfolding AllCovered
first_covered rules = tt

pub credit_from_credit : CreditFromCredit
credit_from_credit station xs offer tick range offered later =
    let parts = offered-parts 0 xs offer offered in
    let rules : PolicyNumbers = rules_of station offer.tier in
    let some : 0 < rules.every = omega (arith, range.every.0) in
    let past : List Decided = decided station xs in
    let own : List Decided = of_tier offer.tier past in
    let none : Covers rules 0 (of_tier offer.tier []) = rw (of_tier-none offer.tier) (first_covered rules) in
    let covered : Covers rules (tick_from 0 xs) own = covered_from station [] xs offer.tier 0 some parts.0 none in
    rw (decided_from-push station [] xs offer, of_tier-same offer.tier past (decided_next station past offer) refl)
    (credit_own station past offer tick some parts.2 later
    (covered-later (rate_at rules (served own)) (rules.depth * TOKEN) (tick_from 0 xs) offer.tick own covered parts.1))

pub accrual_splits_at_control : AccrualSplitsAtControl
accrual_splits_at_control rules requests k s t before following =
    accrual-split (rate_at rules requests) s (control_at rules (by_completion requests) k).instant t before following
