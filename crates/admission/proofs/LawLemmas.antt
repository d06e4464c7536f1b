-- The laws of the definitions.
use Rattle.std.proofs.Common.{◌≡◌, ℕ, zero, suc, ◌+◌, ◌-◌, ◌*◌, ◌/◌, ◌≤◌, min, max, List, [], ◌∷◌, ◌++◌, refl, sym, ◌∙◌, ap, arith, append-nil, append_assoc, nat_lt, nat_le, if◌then◌else◌, Bool, true, false, inl, inr}
use Rattle.std.specs.Prelude.{◌⊎◌}
use Rattle.std.proofs.lemmas.Bool.{cases_eq}
use Rattle.std.proofs.Math.Nat.{div-le_of_le-mul}
use Rattle.std.proofs.lemmas.List.Sums.{sum_by_push}
use Rattle.token_bucket.specs.Reference.{TOKEN, accrual}
use Rattle.admission.specs.declared.policy.PolicyNumbers.{PolicyNumbers}
use Rattle.admission.specs.declared.control.Decision.TheVariants.{Admitted, Rejected}
use Rattle.admission.specs.Reference.{Station, rules_of, Offer, Decided, Served, of_tier, served, samples, by_completion, finish_in, smoothed_at, adjusted, rate_after, rate_at, least_balance, credit, decided_next, decided_from, decided}
use Rattle.admission.specs.Rules.{IsInRange}
use Rattle.admission.specs.Laws.{DecisionsBegin, FinishRuns, OtherTiersLeave, RateBefore, RatesWithin, RejectedLeavesAll, and_rejected}
use Rattle.admission.proofs.RequestLemmas.{decided_from-push, last_finish-push, of_tier-same, of_tier-other, served-push}
use Rattle.admission.proofs.CreditLemmas.{token_of, tokens_of}
use Rattle.admission.proofs.TakenLemmas as taken

-- ---- beginnings

begins : (station : Station) (past : List Decided) (more : List Offer) → (rest : List Decided) × (decided_from station past more ≡ past ++ rest)
unfolding decided_from
begins station past [] = ([], sym (append-nil past))
begins station past (offer ∷ more) =
    let next = begins station (past ++ decided_next station past offer ∷ []) more in
    (decided_next station past offer ∷ next.0, next.1 ∙ append_assoc past (decided_next station past offer ∷ []) next.0)

pub decided_from-append : (station : Station) (past : List Decided) (xs ys : List Offer)
    → decided_from station past (xs ++ ys) ≡ decided_from station (decided_from station past xs) ys
unfolding decided_from
decided_from-append station past [] ys = refl
decided_from-append station past (x ∷ xs) ys = decided_from-append station (past ++ decided_next station past x ∷ []) xs ys

pub decisions_begin : DecisionsBegin
decisions_begin station xs ys =
    let rest = begins station (decided station xs) ys in
    (rest.0, decided_from-append station [] xs ys ∙ rest.1)

-- ---- other tiers

pub other_tiers_leave : OtherTiersLeave
other_tiers_leave station offers offer tier apart =
    rw (decided_from-push station [] offers offer)
    (of_tier-other tier (decided station offers) (decided_next station (decided station offers) offer) apart)

-- ---- rejected offers

untouched : (full x n : ℕ) → full + x - TOKEN * (n + 0) ≡ full + x - TOKEN * n
untouched full x n = omega arith

least_rejected : (rate : ℕ → ℕ) (full tick : ℕ) (past : List Decided) (rejected : Offer)
    → least_balance rate full tick (past ++ record { offer = rejected; decision = Rejected } ∷ []) ≡ least_balance rate full tick past
unfolding least_balance
least_rejected rate full tick [] rejected = omega arith
least_rejected rate full tick (request ∷ past) rejected =
    rw (
      sum_by_push (λ (r : Decided). token_of r) (request ∷ past) (record { offer = rejected; decision = Rejected }),
      untouched full (accrual rate request.offer.tick tick) (tokens_of (request ∷ past)),
      least_rejected rate full tick past rejected,
    ) refl

served_rejected : (past : List Decided) (rejected : Offer)
    → served (past ++ record { offer = rejected; decision = Rejected } ∷ []) ≡ served past
served_rejected past rejected = served-push past (record { offer = rejected; decision = Rejected }) ∙ append-nil (served past)

-- the same of one tier, where the rejected offer is of that tier or of another
of_tier-rejected : (tier : ℕ) (past : List Decided) (rejected : Offer)
    → (of_tier tier (and_rejected past rejected) ≡ and_rejected (of_tier tier past) rejected)
    ⊎ (of_tier tier (and_rejected past rejected) ≡ of_tier tier past)
of_tier-rejected tier past rejected =
    elim (cases_eq rejected.tier tier) [
      | inl same ↦ inl (of_tier-same tier past (record { offer = rejected; decision = Rejected }) same)
      | inr apart ↦ inr (of_tier-other tier past (record { offer = rejected; decision = Rejected }) apart)
    ]

served_of-rejected : (tier : ℕ) (past : List Decided) (rejected : Offer)
    → served (of_tier tier (and_rejected past rejected)) ≡ served (of_tier tier past)
served_of-rejected tier past rejected =
    elim (of_tier-rejected tier past rejected) [
      | inl more ↦ ap served more ∙ served_rejected (of_tier tier past) rejected
      | inr same ↦ ap served same
    ]

credit_rejected : (rules : PolicyNumbers) (past : List Decided) (rejected : Offer) (tick : ℕ)
    → credit rules (and_rejected past rejected) tick ≡ credit rules past tick
credit_rejected rules past rejected tick =
    ap (λ (rs : List Served). least_balance (rate_at rules rs) (rules.depth * TOKEN) tick (and_rejected past rejected)) (served_rejected past rejected)
    ∙ least_rejected (rate_at rules (served past)) (rules.depth * TOKEN) tick past rejected

credit_of-rejected : (rules : PolicyNumbers) (tier : ℕ) (past : List Decided) (rejected : Offer) (tick : ℕ)
    → credit rules (of_tier tier (and_rejected past rejected)) tick ≡ credit rules (of_tier tier past) tick
credit_of-rejected rules tier past rejected tick =
    elim (of_tier-rejected tier past rejected) [
      | inl more ↦ ap (λ (ds : List Decided). credit rules ds tick) more ∙ credit_rejected rules (of_tier tier past) rejected tick
      | inr same ↦ ap (λ (ds : List Decided). credit rules ds tick) same
    ]

pub rejected_leaves_all : RejectedLeavesAll
rejected_leaves_all station past rejected offer tier tick = (
  served_rejected past rejected,
  served_of-rejected tier past rejected,
  credit_of-rejected (rules_of station tier) tier past rejected tick,
  ap (λ n. if nat_le TOKEN n then (Admitted (finish_in station (served (and_rejected past rejected)) offer)) else Rejected)
      (credit_of-rejected (rules_of station offer.tier) offer.tier past rejected offer.tick)
      ∙ ap (λ (rs : List Served). if nat_le TOKEN (credit (rules_of station offer.tier) (of_tier offer.tier past) offer.tick)
      then (Admitted (finish_in station rs offer)) else Rejected) (served_rejected past rejected),
)

-- ---- rates

lowered-le : (rate down : ℕ) → 101 ≤ down → 100 * rate / down ≤ rate
lowered-le rate down above =
    let product : 101 * rate ≤ down * rate = grind arith in
    div-le_of_le-mul down (omega (arith, product))

chosen : (P : ℕ → Type 0) (b : Bool) (x y : ℕ) → P x → P y → P (if b then x else y)
chosen P true x y p q = p
chosen P false x y p q = q

abbrev Within : PolicyNumbers → ℕ → Type 0
Within rules rate = (rules.rate_min ≤ rate) × (rate ≤ rules.rate_max)

adjusted_within : (rules : PolicyNumbers) (smoothed rate : ℕ) → IsInRange rules → Within rules rate → Within rules (adjusted rules smoothed rate)
adjusted_within rules smoothed rate range within =
    let lowered : 100 * rate / rules.down ≤ rate = lowered-le rate rules.down range.down.0 in
    chosen (Within rules) (nat_lt rules.target smoothed) (max rules.rate_min (100 * rate / rules.down)) _
    (omega arith, omega arith)
    (chosen (Within rules) (nat_lt (100 * smoothed) (rules.low * rules.target)) (min rules.rate_max (rate + rules.up)) rate
    (omega arith, omega arith) within)

rate_after_within : (rules : PolicyNumbers) (taken : List ℕ) (k : ℕ) → IsInRange rules → Within rules (rate_after rules taken k)
unfolding rate_after
rate_after_within rules taken zero range = range.rate
rate_after_within rules taken (suc k) range =
    adjusted_within rules (smoothed_at rules taken (suc k)) (rate_after rules taken k) range (rate_after_within rules taken k range)

pub rates_within : RatesWithin
rates_within rules requests tick range = rate_after_within rules (samples (by_completion requests)) _ range

-- ---- finishes

pub finish_runs : FinishRuns
finish_runs xs offer =
    let next = last_finish-push xs offer in
    (next, omega (arith, next), omega (arith, next))

pub rate_before : RateBefore
rate_before rules requests request tick range before = sym (taken.rate_before rules requests request tick range.every.0 before)
