-- One more offer of a tier: what is decided, and how the tier stands then.
use Rattle.std.proofs.Common.{◌≡◌, ℕ, ◌+◌, ◌-◌, ◌*◌, ◌<◌, ◌≤◌, min, max, List, [], ◌∷◌, ◌++◌, length, map, Bool, true, false, refl, sym, ◌∙◌, ap, arith, append-nil, length-append, inl, inr, if◌then◌else◌}
use Rattle.std.specs.Prelude.{◌↔◌, IsTrue, count_by, cond}
use Rattle.std.proofs.lemmas.Bool.{le-leb, lt-leb, cases_lt}
use Rattle.std.proofs.lemmas.List.Sums.{sum_by_push}
use Rattle.token_bucket.specs.Reference.{TOKEN}
use Rattle.token_bucket.specs.Calls.{Advance, TryTake, and_then}
use Rattle.token_bucket.specs.Running.{after}
use Rattle.token_bucket.specs.Standing as bucket
use Rattle.token_bucket.proofs.FitsLemmas.{standing_runs}
use Rattle.admission.specs.declared.policy.PolicyNumbers.{PolicyNumbers}
use Rattle.admission.specs.declared.control.Decision.TheVariants.{Admitted, Rejected}
use Rattle.admission.specs.Reference.{Offer, Decided, Served, is_rejected, served, completion, rate_at, least_balance, credit}
use Rattle.admission.specs.Standing.{TierStanding, AllFrom, completions, insert_due, IsSoundTier}
use Rattle.admission.specs.Running.{when_rejected, when_admitted, decision_after}
use Rattle.admission.specs.After.{due, BucketFits, AreTakenIn, TierFits}
use Rattle.admission.proofs.CreditLemmas.{least_balance-push, covered-push}
use Rattle.admission.proofs.CompletionLemmas.{insert_behind, by_completion-push, behind-first, due-behind, upto-higher}
use Rattle.admission.proofs.HeapLemmas.{from-lower}
use Rattle.admission.proofs.TakenLemmas.{Does, within_depth, rate_before, rate_now, fits_later}
use Rattle.admission.proofs.RequestLemmas.{served-push}

-- ---- the bucket after `try_take`

still_taken : (full credit rate i taken : ℕ) → credit ≤ full → min full (credit + rate * (i - i) - taken) ≡ credit - taken
still_taken full credit rate i taken within = let none : i - i ≡ 0 = omega arith in rw none (omega arith)

-- ---- a rejected offer

served_rejected : (past : List Decided) (offer : Offer) → served (past ++ record { offer = offer; decision = Rejected } ∷ []) ≡ served past
served_rejected past offer = served-push past (record { offer = offer; decision = Rejected }) ∙ append-nil (served past)

-- its credit is that of the offer
credit_there : (rules : PolicyNumbers) (past : List Decided) (b : bucket.Standing) (tick : ℕ) → BucketFits rules past b
    → b.tick ≡ tick → credit rules past tick ≡ b.credit
credit_there rules past b tick stands at = ap (credit rules past) (sym at) ∙ sym stands.credit

take_is : (rules : PolicyNumbers) (past : List Decided) (b next : bucket.Standing) (taken : Bool) → BucketFits rules past b
    → (if taken then TOKEN else 0) ≤ b.credit → Does b (TryTake taken) next → next ≡ after b (TryTake taken)
take_is rules past b next taken stands enough takes =
    standing_runs stands.past_calls b next (TryTake taken) stands.fits (omega arith) enough (takes stands.past_calls stands.fits)

bucket_rejected : (rules : PolicyNumbers) (past : List Decided) (b next : bucket.Standing) (offer : Offer)
    → BucketFits rules past b → b.tick ≡ offer.tick → Does b (TryTake false) next
    → BucketFits rules (past ++ record { offer = offer; decision = Rejected } ∷ []) next
bucket_rejected rules past b next offer stands at takes =
    let is : next ≡ after b (TryTake false) = take_is rules past b next false stands (omega arith) takes in
    let same : served (past ++ record { offer = offer; decision = Rejected } ∷ []) ≡ served past = served_rejected past offer in
    let agree : (u : ℕ) → u < b.tick
    → rate_at rules (served past) u ≡ rate_at rules (served (past ++ record { offer = offer; decision = Rejected } ∷ [])) u =
    λ u below. sym (ap (λ (rs : List Served). rate_at rules rs u) same) in
    let credit_is = least_balance-push (rate_at rules (served past))
    (rate_at rules (served (past ++ record { offer = offer; decision = Rejected } ∷ []))) (rules.depth * TOKEN) b.tick past
    (record { offer = offer; decision = Rejected }) stands.covered (sym at) agree in
    record {
      past_calls = and_then stands.past_calls (TryTake false);
      fits = takes stands.past_calls stands.fits;
      depth = rw is stands.depth;
      credit = rw is (still_taken (b.depth * TOKEN) b.credit b.rate b.tick 0 (within_depth rules past b stands)
          ∙ ap (λ n. n - TOKEN * 0) stands.credit ∙ sym credit_is);
      covered = rw is (covered-push (rate_at rules (served past))
          (rate_at rules (served (past ++ record { offer = offer; decision = Rejected } ∷ []))) (rules.depth * TOKEN) b.tick past
          (record { offer = offer; decision = Rejected }) stands.covered (sym at) agree (omega arith));
    }

-- one more request, rejected or not
rejected_push : (past : List Decided) (r : Decided)
    → count_by (λ r. is_rejected r.decision) (past ++ r ∷ []) ≡ count_by (λ r. is_rejected r.decision) past + cond (is_rejected r.decision) 1 0
rejected_push past r = sum_by_push (λ r. cond (is_rejected r.decision) 1 0) past r

pub tier_rejected : (t : TierStanding) (next : bucket.Standing) (past : List Decided) (offer : Offer)
    → TierFits past t → t.bucket.tick ≡ offer.tick → t.clock ≤ offer.tick → Does t.bucket (TryTake false) next
    → TierFits (past ++ record { offer = offer; decision = Rejected } ∷ []) (when_rejected t next offer.tick)
tier_rejected t next past offer fits at forward takes =
    let is : next ≡ after t.bucket (TryTake false) = take_is t.rules past t.bucket next false fits.bucket (omega arith) takes in
    let same : served (past ++ record { offer = offer; decision = Rejected } ∷ []) ≡ served past = served_rejected past offer in
    record {
      first = fits.first;
      rest = fits.rest;
      taken = rw (same, is) (record {
        order = fits.taken.order;
        past = upto-higher t.clock offer.tick (map completion fits.first) forward fits.taken.past;
        controlled = fits.taken.controlled;
        completed = fits.taken.completed;
        window = fits.taken.window;
        controls = fits.taken.controls;
        rate = fits.taken.rate;
        responses = fits.taken.responses;
      });
      bucket = bucket_rejected t.rules past t.bucket next offer fits.bucket at takes;
      admitted = fits.admitted ∙ sym (ap (λ (rs : List Served). length rs) same);
      rejected = ap (λ n. n + 1) fits.rejected ∙ sym (rejected_push past (record { offer = offer; decision = Rejected }));
    }

-- ---- an admitted offer

served_admitted : (past : List Decided) (offer : Offer) (finish : ℕ)
    → served (past ++ record { offer = offer; decision = Admitted finish } ∷ []) ≡ served past ++ record { offer = offer; finish = finish } ∷ []
served_admitted past offer finish = served-push past (record { offer = offer; decision = Admitted finish })

bucket_admitted : (rules : PolicyNumbers) (past : List Decided) (b next : bucket.Standing) (offer : Offer) (finish : ℕ)
    → BucketFits rules past b → b.tick ≡ offer.tick → 0 < rules.every → offer.tick < finish → TOKEN ≤ b.credit
    → Does b (TryTake true) next
    → BucketFits rules (past ++ record { offer = offer; decision = Admitted finish } ∷ []) next
bucket_admitted rules past b next offer finish stands at some later enough takes =
    let is : next ≡ after b (TryTake true) = take_is rules past b next true stands enough takes in
    let request : Served = record { offer = offer; finish = finish } in
    let more : served (past ++ record { offer = offer; decision = Admitted finish } ∷ []) ≡ served past ++ request ∷ [] =
    served_admitted past offer finish in
    let agree : (u : ℕ) → u < b.tick
    → rate_at rules (served past) u ≡ rate_at rules (served (past ++ record { offer = offer; decision = Admitted finish } ∷ [])) u =
    λ u below. rw more (rate_before rules (served past) request u some (omega arith)) in
    let credit_is = least_balance-push (rate_at rules (served past))
    (rate_at rules (served (past ++ record { offer = offer; decision = Admitted finish } ∷ []))) (rules.depth * TOKEN) b.tick past
    (record { offer = offer; decision = Admitted finish }) stands.covered (sym at) agree in
    let enough_there : TOKEN * 1 ≤ least_balance (rate_at rules (served past)) (rules.depth * TOKEN) b.tick past =
    rw (← stands.credit) (omega arith) in
    record {
      past_calls = and_then stands.past_calls (TryTake true);
      fits = takes stands.past_calls stands.fits;
      depth = rw is stands.depth;
      credit = rw is (still_taken (b.depth * TOKEN) b.credit b.rate b.tick TOKEN (within_depth rules past b stands)
          ∙ ap (λ n. n - TOKEN * 1) stands.credit ∙ sym credit_is);
      covered = rw is (covered-push (rate_at rules (served past))
          (rate_at rules (served (past ++ record { offer = offer; decision = Admitted finish } ∷ []))) (rules.depth * TOKEN) b.tick past
          (record { offer = offer; decision = Admitted finish }) stands.covered (sym at) agree enough_there);
    }

-- the response goes behind those that are complete at the same tick
taken_admitted : (t : TierStanding) (next : bucket.Standing) (requests first rest : List Served) (request : Served)
    → AreTakenIn requests first rest t → next.tick ≡ t.bucket.tick → next.rate ≡ t.bucket.rate → t.clock ≤ request.offer.tick
    → request.offer.tick < completion request
    → AreTakenIn (requests ++ request ∷ []) first (insert_behind request rest) (when_admitted t next request.offer.tick (due request))
taken_admitted t next requests first rest request taken at rate forward later = record {
  order = by_completion-push requests request ∙ ap (insert_behind request) taken.order
      ∙ behind-first t.clock request first rest taken.past (omega (arith, forward, later));
  past = upto-higher t.clock request.offer.tick (map completion first) forward taken.past;
  controlled = rw at taken.controlled;
  completed = taken.completed;
  window = taken.window;
  controls = taken.controls;
  rate = rate ∙ taken.rate;
  responses = ap (insert_due (due request)) taken.responses ∙ sym (due-behind request rest);
}

pub tier_admitted : (t : TierStanding) (next : bucket.Standing) (past : List Decided) (offer : Offer) (finish : ℕ)
    → TierFits past t → t.bucket.tick ≡ offer.tick → t.clock ≤ offer.tick → 0 < t.rules.every → offer.tick < finish
    → TOKEN ≤ t.bucket.credit → Does t.bucket (TryTake true) next
    → TierFits (past ++ record { offer = offer; decision = Admitted finish } ∷ [])
    (when_admitted t next offer.tick (record { completion = finish + offer.delay; sample = finish + offer.delay - offer.tick }))
tier_admitted t next past offer finish fits at forward some later enough takes =
    let is : next ≡ after t.bucket (TryTake true) = take_is t.rules past t.bucket next true fits.bucket enough takes in
    let request : Served = record { offer = offer; finish = finish } in
    let more : served (past ++ record { offer = offer; decision = Admitted finish } ∷ []) ≡ served past ++ request ∷ [] =
    served_admitted past offer finish in
    record {
      first = fits.first;
      rest = insert_behind request fits.rest;
      taken = rw more (taken_admitted t next (served past) fits.first fits.rest request fits.taken
          (ap (λ (b : bucket.Standing). b.tick) is) (ap (λ (b : bucket.Standing). b.rate) is) forward (omega arith));
      bucket = bucket_admitted t.rules past t.bucket next offer finish fits.bucket at some later enough takes;
      admitted = rw more (ap (λ n. n + 1) fits.admitted ∙ sym (length-append (served past) (request ∷ [])));
      rejected =
          (let one = rejected_push past (record { offer = offer; decision = Admitted finish }) in let own = fits.rejected in omega (arith, one, own));
    }

-- what `try_take` said of the credit
pub short_of : (held credit : ℕ) → (IsTrue false ↔ (TOKEN ≤ credit)) → held ≡ credit → held < TOKEN
short_of held credit taken is =
    elim (cases_lt held TOKEN) [ inl lt ↦ lt | inr ge ↦ absurd (let no : false ≡ true = taken.1 (omega arith) in cc) ]

pub enough_of : (held credit : ℕ) → (IsTrue true ↔ (TOKEN ≤ credit)) → held ≡ credit → TOKEN ≤ held
enough_of held credit taken is = let enough : TOKEN ≤ credit = taken.0 refl in omega arith

-- the decision
pub decision_rejected : (rules : PolicyNumbers) (past : List Decided) (b : bucket.Standing) (free tick service : ℕ)
    → BucketFits rules past b → b.tick ≡ tick → b.credit < TOKEN → Rejected ≡ decision_after rules past free tick service
decision_rejected rules past b free tick service stands at short =
    let there : credit rules past tick ≡ b.credit = credit_there rules past b tick stands at in
    sym (rw (lt-leb TOKEN (credit rules past tick) (rw there short)) refl)

pub decision_admitted : (rules : PolicyNumbers) (past : List Decided) (b : bucket.Standing) (free tick service finish : ℕ)
    → BucketFits rules past b → b.tick ≡ tick → TOKEN ≤ b.credit → finish ≡ max free tick + service
    → Admitted finish ≡ decision_after rules past free tick service
decision_admitted rules past b free tick service finish stands at enough is =
    let there : credit rules past tick ≡ b.credit = credit_there rules past b tick stands at in
    ap (λ f. Admitted f) is ∙ sym (rw (le-leb TOKEN (credit rules past tick) (rw there enough)) refl)

-- what a request finds
pub foresees : (t : TierStanding) (past : List Decided) (tick : ℕ) → TierFits past t → t.bucket.tick ≡ tick → 0 < t.rules.every
    → AllFrom (tick + 1) (completions t.flight.responses)
    → (t.bucket.credit ≡ credit t.rules past tick) × (t.bucket.rate ≡ rate_at t.rules (served past) tick)
foresees t past tick fits at some ahead = (
  sym (credit_there t.rules past t.bucket tick fits.bucket at),
  sym (rate_now (served past) fits.first fits.rest t tick fits.taken some (omega arith) ahead),
)

-- ---- an offer at a later tick, up to which time has passed

pub moved_fits : (t : TierStanding) (moved : bucket.Standing) (past : List Decided) (tick : ℕ) → IsSoundTier t
    → t.clock ≤ tick → AllFrom (tick + 1) (completions t.flight.responses) → Does t.bucket (Advance tick) moved
    → TierFits past t → TierFits past (record t { bucket = moved })
moved_fits t moved past tick sound forward complete moves fits =
    fits_later t past moved tick fits sound.every (omega (arith, forward, sound.behind))
    (from-lower tick (tick + 1) (completions t.flight.responses) (omega arith) complete) moves

pub found_at : (t : TierStanding) (moved : bucket.Standing) (past : List Decided) (tick : ℕ) → IsSoundTier t
    → t.clock ≤ tick → AllFrom (tick + 1) (completions t.flight.responses) → Does t.bucket (Advance tick) moved → moved.tick ≡ tick
    → TierFits past t
    → (moved.credit ≡ credit t.rules past tick) × (moved.rate ≡ rate_at t.rules (served past) tick)
found_at t moved past tick sound forward complete moves at fits =
    foresees (record t { bucket = moved }) past tick (moved_fits t moved past tick sound forward complete moves fits) at sound.every complete

pub rejected_fits : (t : TierStanding) (moved next : bucket.Standing) (past : List Decided) (offer : Offer) (tick : ℕ) → IsSoundTier t
    → t.clock ≤ tick → AllFrom (tick + 1) (completions t.flight.responses) → Does t.bucket (Advance tick) moved → moved.tick ≡ tick
    → Does moved (TryTake false) next → offer.tick ≡ tick → TierFits past t
    → TierFits (past ++ record { offer = offer; decision = Rejected } ∷ []) (when_rejected t next tick)
rejected_fits t moved next past offer tick sound forward complete moves there takes at fits =
    rw (← at)
    (tier_rejected (record t { bucket = moved }) next past offer (moved_fits t moved past tick sound forward complete moves fits)
    (there ∙ sym at) (rw at forward) takes)

pub admitted_fits : (t : TierStanding) (moved next : bucket.Standing) (past : List Decided) (offer : Offer) (tick delay finish : ℕ)
    → IsSoundTier t → t.clock ≤ tick → AllFrom (tick + 1) (completions t.flight.responses) → Does t.bucket (Advance tick) moved
    → moved.tick ≡ tick → Does moved (TryTake true) next → offer.tick ≡ tick → offer.delay ≡ delay → tick < finish → TOKEN ≤ moved.credit
    → TierFits past t
    → TierFits (past ++ record { offer = offer; decision = Admitted finish } ∷ [])
    (when_admitted t next tick (record { completion = finish + delay; sample = finish + delay - tick }))
admitted_fits t moved next past offer tick delay finish sound forward complete moves there takes at late later enough fits =
    rw (← at, ← late)
    (tier_admitted (record t { bucket = moved }) next past offer finish (moved_fits t moved past tick sound forward complete moves fits)
    (there ∙ sym at) (rw at forward) sound.every (omega (arith, at)) enough takes)
