-- While time passes a tier keeps the credit and the rate of the requests so far.
use Rattle.std.proofs.Common.{◌≡◌, ℕ, ◌+◌, ◌-◌, ◌*◌, ◌/◌, ◌%◌, ◌<◌, ◌≤◌, min, List, [], ◌∷◌, ◌++◌, length, drop, map, take, Some, slice_get, refl, sym, ◌∙◌, ap, arith, append_assoc, length-append}
use Rattle.std.proofs.lemmas.Grind.{common_steps}
use Rattle.std.proofs.lemmas.Bool.{ne_eqb}
use Rattle.std.proofs.lemmas.List.{map-append, length-map, take-append-le}
use Rattle.circular_buffer.specs.Buffer.{keep_last}
use Rattle.token_bucket.specs.Reference.{TOKEN, accrual}
use Rattle.token_bucket.specs.Calls.{Call, Past, Advance, SetRate, and_then}
use Rattle.token_bucket.specs.After.{BucketAfter}
use Rattle.token_bucket.specs.Running.{after}
use Rattle.token_bucket.specs.Standing as bucket
use Rattle.token_bucket.proofs.AccrualLemmas.{accrual-constant}
use Rattle.token_bucket.proofs.FitsLemmas.{standing_runs}
use Rattle.admission.specs.declared.policy.PolicyNumbers.{PolicyNumbers}
use Rattle.admission.specs.declared.control.Control.{Control}
use Rattle.admission.specs.Reference.{Decided, Served, served, completion, sample, samples, done, by_completion, rate_after, rate_at, credit}
use Rattle.admission.specs.Standing.{Window, window_of, with_sample, Due, completions, AllFrom, TierStanding}
use Rattle.admission.specs.Running.{last_rate, with_due, with_complete}
use Rattle.admission.specs.After.{AllUpTo, due, BucketFits, AreTakenIn, TierFits}
use Rattle.admission.proofs.HeapLemmas.{from-lower}
use Rattle.admission.proofs.CreditLemmas.{least_balance-le, least_balance-later, covered-later}
use Rattle.admission.proofs.CompletionLemmas.{insert_behind, done-later, done-split, done-between, by_completion-push, behind-first, completions-due, split_at, upto-higher, upto-push, upto-take}
use Rattle.admission.proofs.ControlLemmas.{fits_quotient, quotient_fits, quotient_same, length-push, rate_after-more, samples-append, length-samples, controls_by, controls-push, last_rate-is}

-- ---- the rate in force

-- it is that of the complete responses
pub rate_split : (rules : PolicyNumbers) (requests first rest : List Served) (u : ℕ) → 0 < rules.every
    → by_completion requests ≡ first ++ rest → done requests u / rules.every ≡ length first / rules.every
    → rate_at rules requests u ≡ rate_after rules (samples first) (length first / rules.every)
rate_split rules requests first rest u some is count =
    let within : length first / rules.every * rules.every ≤ length (samples first) =
    rw (length-samples first) (quotient_fits (length first / rules.every) rules.every (length first) some (omega arith)) in
    rw (is, count, samples-append first rest, rate_after-more rules (samples first) (samples rest) (length first / rules.every) within) refl

-- before a response is complete it does not depend on its request
pub rate_before : (rules : PolicyNumbers) (requests : List Served) (request : Served) (u : ℕ) → 0 < rules.every → u < completion request
    → rate_at rules requests u ≡ rate_at rules (requests ++ request ∷ []) u
rate_before rules requests request u some before =
    let parts = split_at u requests in
    let count : done requests u ≡ length parts.first = done-split u requests parts.first parts.rest parts.is parts.past parts.later in
    let more : done (requests ++ request ∷ []) u ≡ length parts.first = done-later requests request u before ∙ count in
    let order : by_completion (requests ++ request ∷ []) ≡ parts.first ++ insert_behind request parts.rest =
    by_completion-push requests request ∙ ap (insert_behind request) parts.is
    ∙ behind-first u request parts.first parts.rest parts.past before in
    rate_split rules requests parts.first parts.rest u some parts.is (ap (λ n. n / rules.every) count)
    ∙ sym (rate_split rules (requests ++ request ∷ []) parts.first (insert_behind request parts.rest) u some order
    (ap (λ n. n / rules.every) more))

-- a number between the last multiple of a size and one more has the quotient of that one
quotient_between : (e m n : ℕ) → 0 < e → m / e * e ≤ n → n ≤ m → n / e ≡ m / e
quotient_between e m n some low high =
    let least : m / e ≤ n / e = fits_quotient (m / e) e n some low in
    let whole : n / e * e ≤ n = quotient_fits (n / e) e n some (omega arith) in
    let most : n / e ≤ m / e = fits_quotient (n / e) e m some (omega (arith, whole, high)) in
    omega (arith, least, most)

-- as many controls are made of the complete ones as of those that were taken in, where those on their way are later
controls_now : (requests first rest : List Served) (t : TierStanding) (u : ℕ) → AreTakenIn requests first rest t → 0 < t.rules.every
    → t.bucket.tick ≤ u → AllFrom (u + 1) (completions t.flight.responses) → done requests u / t.rules.every ≡ length first / t.rules.every
controls_now requests first rest t u taken some later ahead =
    let waiting : AllFrom (u + 1) (completions (map due rest)) = rw (← taken.responses) ahead in
    let within : length first / t.rules.every * t.rules.every ≤ length first =
    quotient_fits (length first / t.rules.every) t.rules.every (length first) some (omega arith) in
    let bounds = done-between u (length first / t.rules.every * t.rules.every) requests first rest taken.order within
    (upto-higher t.bucket.tick u _ later taken.controlled) (rw (← completions-due rest) waiting) in
    quotient_between t.rules.every (length first) (done requests u) some bounds.0 bounds.1

pub rate_now : (requests first rest : List Served) (t : TierStanding) (u : ℕ) → AreTakenIn requests first rest t → 0 < t.rules.every
    → t.bucket.tick ≤ u → AllFrom (u + 1) (completions t.flight.responses) → rate_at t.rules requests u ≡ t.bucket.rate
rate_now requests first rest t u taken some later ahead =
    rate_split t.rules requests first rest u some taken.order (controls_now requests first rest t u taken some later ahead) ∙ sym taken.rate

-- ---- the bucket

-- what one call does to a bucket, whatever calls it fits
abbrev pub Does : bucket.Standing → Call → bucket.Standing → Type 0
Does b call next = (past : Past) → BucketAfter past b → BucketAfter (and_then past call) next

untaken : (full x : ℕ) → min full (x - 0) ≡ min full x
untaken full x = omega arith

-- a bucket that time passes for at one rate has the credit of that tick
credit_later : (t : TierStanding) (past : List Decided) (first rest : List Served) (tick : ℕ) → BucketFits t.rules past t.bucket
    → AreTakenIn (served past) first rest t → 0 < t.rules.every → t.bucket.tick ≤ tick → AllFrom tick (completions t.flight.responses)
    → (after t.bucket (Advance tick)).credit ≡ credit t.rules past tick
credit_later t past first rest tick stands taken some later ahead =
    let rules : PolicyNumbers = t.rules in
    let b : bucket.Standing = t.bucket in
    let gained : accrual (rate_at rules (served past)) b.tick tick ≡ b.rate * (tick - b.tick) =
    accrual-constant (rate_at rules (served past)) b.rate b.tick tick
    (λ u above below. rate_now (served past) first rest t u taken some above
    (from-lower (u + 1) tick (completions t.flight.responses) (omega arith) ahead)) in
    rw (
      least_balance-later (rate_at rules (served past)) (rules.depth * TOKEN) b.tick tick past stands.covered later,
      gained,
      ← stands.credit,
      stands.depth,
    )
    (untaken (rules.depth * TOKEN) (b.credit + b.rate * (tick - b.tick)))

pub advance_is : (rules : PolicyNumbers) (past : List Decided) (b next : bucket.Standing) (tick : ℕ) → BucketFits rules past b → b.tick ≤ tick
    → Does b (Advance tick) next → next ≡ after b (Advance tick)
advance_is rules past b next tick stands later moves =
    standing_runs stands.past_calls b next (Advance tick) stands.fits later (omega arith) (moves stands.past_calls stands.fits)

pub bucket_later : (t : TierStanding) (past : List Decided) (first rest : List Served) (next : bucket.Standing) (tick : ℕ)
    → BucketFits t.rules past t.bucket → AreTakenIn (served past) first rest t → 0 < t.rules.every → t.bucket.tick ≤ tick
    → AllFrom tick (completions t.flight.responses) → Does t.bucket (Advance tick) next → BucketFits t.rules past next
bucket_later t past first rest next tick stands taken some later ahead moves =
    let is : next ≡ after t.bucket (Advance tick) = advance_is t.rules past t.bucket next tick stands later moves in
    record {
      past_calls = and_then stands.past_calls (Advance tick);
      fits = moves stands.past_calls stands.fits;
      depth = rw is stands.depth;
      credit = rw is (credit_later t past first rest tick stands taken some later ahead);
      covered = rw is (covered-later (rate_at t.rules (served past)) (t.rules.depth * TOKEN) t.bucket.tick tick past stands.covered later);
    }

still : (full credit rate i : ℕ) → credit ≤ full → min full (credit + rate * (i - i) - 0) ≡ credit
still full credit rate i within = let none : i - i ≡ 0 = omega arith in rw none (omega arith)

-- a bucket that stands so holds no more than its depth
pub within_depth : (rules : PolicyNumbers) (past : List Decided) (b : bucket.Standing) → BucketFits rules past b → b.credit ≤ b.depth * TOKEN
within_depth rules past b stands =
    rw (stands.credit, stands.depth) (least_balance-le (rate_at rules (served past)) (rules.depth * TOKEN) b.tick past)

set_is : (rules : PolicyNumbers) (past : List Decided) (b next : bucket.Standing) (rate : ℕ) → BucketFits rules past b
    → Does b (SetRate rate) next → next ≡ after b (SetRate rate)
set_is rules past b next rate stands turns =
    standing_runs stands.past_calls b next (SetRate rate) stands.fits (omega arith) (omega arith) (turns stands.past_calls stands.fits)

bucket_set : (rules : PolicyNumbers) (past : List Decided) (b next : bucket.Standing) (rate : ℕ) → BucketFits rules past b
    → Does b (SetRate rate) next → BucketFits rules past next
bucket_set rules past b next rate stands turns =
    let is : next ≡ after b (SetRate rate) = set_is rules past b next rate stands turns in
    record {
      past_calls = and_then stands.past_calls (SetRate rate);
      fits = turns stands.past_calls stands.fits;
      depth = rw is stands.depth;
      credit = rw is (still (b.depth * TOKEN) b.credit b.rate b.tick (within_depth rules past b stands) ∙ stands.credit);
      covered = rw is stands.covered;
    }

-- ---- the tier at a later tick

pub fits_later : (t : TierStanding) (past : List Decided) (next : bucket.Standing) (tick : ℕ) → TierFits past t → 0 < t.rules.every
    → t.bucket.tick ≤ tick → AllFrom tick (completions t.flight.responses) → Does t.bucket (Advance tick) next
    → TierFits past (record t { bucket = next })
fits_later t past next tick fits some later ahead moves =
    let is : next ≡ after t.bucket (Advance tick) = advance_is t.rules past t.bucket next tick fits.bucket later moves in
    record {
      first = fits.first;
      rest = fits.rest;
      taken = record {
        order = fits.taken.order;
        past = fits.taken.past;
        controlled = rw is (upto-higher t.bucket.tick tick _ later fits.taken.controlled);
        completed = fits.taken.completed;
        window = fits.taken.window;
        controls = fits.taken.controls;
        rate = rw is fits.taken.rate;
        responses = fits.taken.responses;
      };
      bucket = bucket_later t past fits.first fits.rest next tick fits.bucket fits.taken some later ahead moves;
      admitted = fits.admitted;
      rejected = fits.rejected;
    }

-- ---- the next response is complete

keep_last_more : (size : ℕ) (xs : List ℕ) (x : ℕ) → keep_last size (keep_last size xs ++ x ∷ []) ≡ keep_last size (xs ++ x ∷ [])
keep_last_more size xs x = grind (arith, common_steps)

window_more : (size : ℕ) (xs : List ℕ) (x : ℕ) → with_sample (window_of size xs) x ≡ window_of size (xs ++ x ∷ [])
window_more size xs x =
    ap (λ (held : List ℕ). record { size = size; samples = held }) (keep_last_more size xs x)

-- the samples and the controls with it
taken_window : (t : TierStanding) (requests first rest : List Served) (x : Served) (d : Due) → AreTakenIn requests first rest t → due x ≡ d
    → with_sample t.window d.sample ≡ window_of t.rules.window (samples first ++ sample x ∷ [])
taken_window t requests first rest x d taken is =
    ap (λ (w : Window). with_sample w d.sample) taken.window
    ∙ window_more t.rules.window (samples first) d.sample
    ∙ ap (λ (d : Due). window_of t.rules.window (samples first ++ d.sample ∷ [])) (sym is)

taken_controls : (t : TierStanding) (requests first rest : List Served) (x : Served) (d : Due) → AreTakenIn requests first rest t → due x ≡ d
    → 0 < t.rules.every
    → with_due t.rules t.controls (with_sample t.window d.sample).samples (t.completed + 1) d.completion
    ≡ controls_by t.rules (first ++ x ∷ [])
taken_controls t requests first rest x d taken is some =
    ap (λ (controls : List Control). with_due t.rules controls (with_sample t.window d.sample).samples (t.completed + 1) d.completion) taken.controls
    ∙ ap (λ (w : Window). with_due t.rules (controls_by t.rules first) w.samples (t.completed + 1) d.completion)
    (taken_window t requests first rest x d taken is)
    ∙ ap (λ n. with_due t.rules (controls_by t.rules first) (keep_last t.rules.window (samples first ++ sample x ∷ [])) (n + 1) d.completion) taken.completed
    ∙ ap (λ (d : Due). with_due t.rules (controls_by t.rules first) (keep_last t.rules.window (samples first ++ sample x ∷ [])) (length first + 1) d.completion) (sym is)
    ∙ sym (controls-push t.rules first x some)

-- with it the bucket's rate is that of the controls, which were made of what was complete when its clock came so far
taken_next : (t : TierStanding) (requests first rest : List Served) (x : Served) (d : Due) (next : bucket.Standing)
    → AreTakenIn requests first (x ∷ rest) t → due x ≡ d → 0 < t.rules.every → t.clock ≤ d.completion
    → AllUpTo next.tick (take (length (first ++ x ∷ []) / t.rules.every * t.rules.every) (map completion (first ++ x ∷ [])))
    → next.rate ≡ last_rate t.rules (with_complete t next d).controls
    → AreTakenIn requests (first ++ x ∷ []) rest (with_complete t next d)
taken_next t requests first rest x d next taken is some later controlled rate =
    let own : completion x ≡ d.completion = ap (λ (d : Due). d.completion) is in
    let made : (with_complete t next d).controls ≡ controls_by t.rules (first ++ x ∷ []) =
    taken_controls t requests first (x ∷ rest) x d taken is some in
    record {
      order = taken.order ∙ sym (append_assoc first (x ∷ []) rest);
      past = rw (map-append completion first (x ∷ []))
          (upto-push d.completion (map completion first) (completion x)
          (upto-higher t.clock d.completion (map completion first) later taken.past) (omega (arith, own)));
      controlled = controlled;
      completed = ap (λ n. n + 1) taken.completed ∙ sym (length-append first (x ∷ []));
      window = rw (samples-append first (x ∷ [])) (taken_window t requests first (x ∷ rest) x d taken is);
      controls = made;
      rate = rate ∙ ap (last_rate t.rules) made ∙ last_rate-is t.rules (first ++ x ∷ []);
      responses = ap (λ (ds : List Due). drop 1 ds) taken.responses;
    }

same_some : (a b : Due) → Some a ≡ Some b → a ≡ b
same_some a b same = cc

-- the first of those on their way
next_of : (past : List Decided) (t : TierStanding) (d : Due) (first rest : List Served) → AreTakenIn (served past) first rest t
    → slice_get t.flight.responses 0 ≡ Some d
    → (x : Served) × (more : List Served) × (due x ≡ d) × AreTakenIn (served past) first (x ∷ more) t
next_of past t d first [] taken at =
    let none : slice_get (map due []) 0 ≡ Some d = sym (ap (λ (ds : List Due). slice_get ds 0) taken.responses) ∙ at in absurd (cc)
next_of past t d first (x ∷ rest) taken at =
    let found : slice_get (map due (x ∷ rest)) 0 ≡ Some d = sym (ap (λ (ds : List Due). slice_get ds 0) taken.responses) ∙ at in
    (x, rest, same_some (due x) d found, taken)

-- no control is due, and the bucket stays
pub takes_kept : (t : TierStanding) (past : List Decided) (d : Due) → TierFits past t → slice_get t.flight.responses 0 ≡ Some d
    → 0 < t.rules.every → t.clock ≤ d.completion → ((t.completed + 1) % t.rules.every ≡ 0 → ⊥)
    → TierFits past (with_complete t t.bucket d)
takes_kept t past d fits at some later apart =
    let next = next_of past t d fits.first fits.rest fits.taken at in
    let x : Served = next.0 in
    let first : List Served = fits.first in
    let e : ℕ = t.rules.every in
    let count : (length first + 1) % e ≡ 0 → ⊥ = rw (← fits.taken.completed) apart in
    let same : length (first ++ x ∷ []) / e ≡ length first / e =
    ap (λ n. n / e) (length-push first x) ∙ quotient_same e (length first) some count in
    let within : length first / e * e ≤ length (map completion first) =
    rw (length-map first completion) (quotient_fits (length first / e) e (length first) some (omega arith)) in
    let none : (with_complete t t.bucket d).controls ≡ t.controls =
    rw (ne_eqb ((t.completed + 1) % e) 0 apart) refl in
    record {
      first = first ++ x ∷ [];
      rest = next.1;
      taken = taken_next t (served past) first next.1 x d t.bucket next.3 next.2 some later
          (rw (
            same,
            map-append completion first (x ∷ []),
            take-append-le (length first / e * e) (map completion first) (completion x ∷ []) within,
          ) fits.taken.controlled)
          (fits.taken.rate ∙ sym (last_rate-is t.rules first) ∙ ap (last_rate t.rules) (sym fits.taken.controls ∙ sym none));
      bucket = fits.bucket;
      admitted = fits.admitted;
      rejected = fits.rejected;
    }

-- else its clock comes to the completion, and its rate is then that of the control
pub takes_turned : (t : TierStanding) (past : List Decided) (d : Due) (moved next : bucket.Standing) → TierFits past t
    → slice_get t.flight.responses 0 ≡ Some d → AllFrom d.completion (completions t.flight.responses)
    → 0 < t.rules.every → t.clock ≤ d.completion → t.bucket.tick ≤ t.clock → Does t.bucket (Advance d.completion) moved
    → Does moved (SetRate (last_rate t.rules (with_complete t next d).controls)) next
    → TierFits past (with_complete t next d)
takes_turned t past d moved next fits at least some later behind moves turns =
    let rate : ℕ = last_rate t.rules (with_complete t next d).controls in
    let own = next_of past t d fits.first fits.rest fits.taken at in
    let x : Served = own.0 in
    let first : List Served = fits.first in
    let forward : t.bucket.tick ≤ d.completion = omega (arith, later, behind) in
    let there : moved ≡ after t.bucket (Advance d.completion) =
    advance_is t.rules past t.bucket moved d.completion fits.bucket forward moves in
    let stands : BucketFits t.rules past moved =
    bucket_later t past first fits.rest moved d.completion fits.bucket fits.taken some forward least moves in
    let turned : next ≡ after moved (SetRate rate) = set_is t.rules past moved next rate stands turns in
    let tick : next.tick ≡ d.completion = ap (λ (b : bucket.Standing). b.tick) turned ∙ ap (λ (b : bucket.Standing). b.tick) there in
    let is : completion x ≡ d.completion = ap (λ (d : Due). d.completion) own.2 in
    let all : AllUpTo d.completion (map completion first ++ completion x ∷ []) =
    upto-push d.completion (map completion first) (completion x)
    (upto-higher t.clock d.completion (map completion first) later fits.taken.past) (omega (arith, is)) in
    record {
      first = first ++ x ∷ [];
      rest = own.1;
      taken = taken_next t (served past) first own.1 x d next own.3 own.2 some later
          (rw (tick, map-append completion first (x ∷ [])) (upto-take d.completion _ _ all))
          (ap (λ (b : bucket.Standing). b.rate) turned);
      bucket = bucket_set t.rules past moved next rate stands turns;
      admitted = fits.admitted;
      rejected = fits.rejected;
    }
