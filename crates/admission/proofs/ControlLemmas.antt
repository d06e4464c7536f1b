-- The controls of requests, and of these requests with one more.
use Rattle.std.proofs.Common.{◌≡◌, ℕ, zero, suc, ◌+◌, ◌-◌, ◌*◌, ◌/◌, ◌%◌, ◌<◌, ◌≤◌, List, [], ◌∷◌, ◌++◌, length, map, refl, sym, ◌∙◌, ap, arith, add-one, subst, length-append, Some, inl, inr}
use Rattle.std.specs.Prelude.{◌⊎◌, unwrap_or}
use Rattle.std.specs.List.{range_with_len}
use Rattle.std.proofs.Math.Nat.{le-div_iff_mul-le}
use Rattle.std.proofs.Math.Seq.{take-length}
use Rattle.std.proofs.lemmas.List.{take-append-le, map-append, length-map, get_or_append_left, get_or_push}
use Rattle.std.proofs.lemmas.Bool.{cases_lt, cases_eq, eq-eqb, ne_eqb}
use Rattle.std.proofs.lemmas.List.FromFn.{map-range_with_len_more}
use Rattle.circular_buffer.specs.Buffer.{keep_last, last_item}
use Rattle.circular_buffer.proofs.Places.{slice_get-last}
use Rattle.admission.specs.declared.policy.PolicyNumbers.{PolicyNumbers}
use Rattle.admission.specs.declared.control.Control.{Control}
use Rattle.admission.specs.Reference.{Served, completion, sample, samples, percentile, percentile_at, smoother, smoothed_at, adjusted, rate_after, control_at}
use Rattle.admission.specs.Running.{last_smoothed, last_rate, next_control, with_due}

-- ---- quotients

-- k of a size fit n exactly where k is at most the quotient
pub fits_quotient : (k e n : ℕ) → 0 < e → k * e ≤ n → k ≤ n / e
fits_quotient k e n some fit = (le-div_iff_mul-le some).1 fit

pub quotient_fits : (k e n : ℕ) → 0 < e → k ≤ n / e → k * e ≤ n
quotient_fits k e n some fit = (le-div_iff_mul-le some).0 fit

pub quotient_below : (k e n : ℕ) → 0 < e → n < k * e → n / e < k
quotient_below k e n some below =
    elim (cases_lt (n / e) k) [
      | inl lt ↦ lt
      | inr ge ↦ absurd (let fit : k * e ≤ n = quotient_fits k e n some ge in omega arith)
    ]

less_by_one : (k e n : ℕ) → suc k * e ≤ n → k * e ≤ n
less_by_one k e n fit = omega arith

smaller_product : (k m e n : ℕ) → k ≤ m → m * e ≤ n → k * e ≤ n
smaller_product k m e n le within = let products : k * e ≤ m * e = grind arith in omega arith

-- one more element makes the quotient one more exactly where it fits
quotient_cases : (e n : ℕ) → 0 < e → ((n + 1) / e ≡ n / e) ⊎ ((n + 1) / e ≡ n / e + 1)
quotient_cases e n some =
    let low : n / e * e ≤ n = quotient_fits (n / e) e n some (omega arith) in
    let least : n / e ≤ (n + 1) / e = fits_quotient (n / e) e (n + 1) some (omega arith) in
    elim (cases_lt (n / e + 1) ((n + 1) / e)) [
      | inl more ↦
          let two : (n / e + 2) * e ≤ n + 1 = quotient_fits (n / e + 2) e (n + 1) some (omega arith) in
          let one : (n / e + 1) * e ≤ n = omega arith in
          let too_much : n / e + 1 ≤ n / e = fits_quotient (n / e + 1) e n some one in
          absurd (omega arith)
      | inr most ↦ elim (cases_eq ((n + 1) / e) (n / e)) [
        | inl same ↦ inl same
        | inr apart ↦ inr (omega arith)
      ]
    ]

quotient_next : (e n : ℕ) → 0 < e → (n + 1) % e ≡ 0 → (n + 1) / e ≡ n / e + 1
quotient_next e n some due =
    elim (quotient_cases e n some) [
      | inl same ↦
          let products : e * ((n + 1) / e) ≡ e * (n / e) = ap (λ q. e * q) same in
          absurd (omega (arith, products, due))
      | inr next ↦ next
    ]

pub quotient_same : (e n : ℕ) → 0 < e → ((n + 1) % e ≡ 0 → ⊥) → (n + 1) / e ≡ n / e
quotient_same e n some apart =
    elim (quotient_cases e n some) [
      | inl same ↦ same
      | inr next ↦
          let products : e * ((n + 1) / e) ≡ e * (n / e + 1) = ap (λ q. e * q) next in
          absurd (apart (omega (arith, products)))
    ]

whole_quotient : (e n : ℕ) → 0 < e → (n + 1) % e ≡ 0 → (n / e + 1) * e ≡ n + 1
whole_quotient e n some due =
    let products : e * ((n + 1) / e) ≡ e * (n / e + 1) = ap (λ q. e * q) (quotient_next e n some due) in
    omega (arith, products, due)

-- ---- more samples leave the earlier controls

percentile_at-more : (rules : PolicyNumbers) (xs ys : List ℕ) (k : ℕ) → k * rules.every ≤ length xs
    → percentile_at rules (xs ++ ys) k ≡ percentile_at rules xs k
percentile_at-more rules xs ys k within = rw (take-append-le (k * rules.every) xs ys within) refl

pub smoothed_at-more : (rules : PolicyNumbers) (xs ys : List ℕ) (k : ℕ) → k * rules.every ≤ length xs
    → smoothed_at rules (xs ++ ys) k ≡ smoothed_at rules xs k
unfolding smoothed_at
smoothed_at-more rules xs ys zero within = refl
smoothed_at-more rules xs ys (suc k) within =
    rw (smoothed_at-more rules xs ys k (less_by_one k rules.every (length xs) within), percentile_at-more rules xs ys (suc k) within) refl

pub rate_after-more : (rules : PolicyNumbers) (xs ys : List ℕ) (k : ℕ) → k * rules.every ≤ length xs
    → rate_after rules (xs ++ ys) k ≡ rate_after rules xs k
unfolding rate_after
rate_after-more rules xs ys zero within = refl
rate_after-more rules xs ys (suc k) within =
    rw (smoothed_at-more rules xs ys (suc k) within, rate_after-more rules xs ys k (less_by_one k rules.every (length xs) within)) refl

-- ---- more requests, in the order of their completions

pub samples-append : (first rest : List Served) → samples (first ++ rest) ≡ samples first ++ samples rest
samples-append first rest = map-append sample first rest

pub length-samples : (requests : List Served) → length (samples requests) ≡ length requests
length-samples requests = length-map requests sample

-- the controls of the first of them
abbrev pub controls_by : PolicyNumbers → List Served → List Control
controls_by rules first = map (control_at rules first) (range_with_len 1 (length first / rules.every))

-- the place of the last request of a control
place_of : (k e n : ℕ) → 0 < e → 1 ≤ k → k * e ≤ n → k * e - 1 < n
place_of k e n some first within = let least : 1 * e ≤ k * e = smaller_product 1 k e (k * e) first (omega arith) in omega arith

-- the earlier controls stay
pub control_at-more : (rules : PolicyNumbers) (first rest : List Served) (k : ℕ) → 0 < rules.every → 1 ≤ k
    → k * rules.every ≤ length first → control_at rules (first ++ rest) k ≡ control_at rules first k
control_at-more rules first rest k some least within =
    let within_samples : k * rules.every ≤ length (samples first) = rw (length-samples first) within in
    let place : k * rules.every - 1 < length (map completion first) =
    rw (length-map first completion) (place_of k rules.every (length first) some least within) in
    rw (
      map-append completion first rest,
      samples-append first rest,
      get_or_append_left (map completion first) (map completion rest) 0 (k * rules.every - 1) place,
      percentile_at-more rules (samples first) (samples rest) k within_samples,
      smoothed_at-more rules (samples first) (samples rest) k within_samples,
      rate_after-more rules (samples first) (samples rest) k within_samples,
    ) refl

pub map_agree : (f g : ℕ → Control) (a n : ℕ) → ((k : ℕ) → a ≤ k → k < a + n → f k ≡ g k)
    → map f (range_with_len a n) ≡ map g (range_with_len a n)
map_agree f g a zero same = refl
map_agree f g a (suc n) same =
    let here : f a ≡ g a = same a (omega arith) (omega arith) in
    let rest : map f (range_with_len (a + 1) n) ≡ map g (range_with_len (a + 1) n) =
    map_agree f g (a + 1) n (λ k above below. same k (omega arith) (omega arith)) in
    rw (here, rest) refl

-- as many controls as before keep their values
pub same_controls : (rules : PolicyNumbers) (first rest : List Served) (m : ℕ) → 0 < rules.every → m * rules.every ≤ length first
    → map (control_at rules (first ++ rest)) (range_with_len 1 m) ≡ map (control_at rules first) (range_with_len 1 m)
same_controls rules first rest m some within =
    map_agree (control_at rules (first ++ rest)) (control_at rules first) 1 m
    (λ k above below. control_at-more rules first rest k some above
    (smaller_product k m rules.every (length first) (omega arith) within))

pub length-push : (first : List Served) (request : Served) → length (first ++ request ∷ []) ≡ length first + 1
length-push first request = length-append first (request ∷ [])

-- no control is due
pub controls-same : (rules : PolicyNumbers) (first : List Served) (request : Served) → 0 < rules.every
    → ((length first + 1) % rules.every ≡ 0 → ⊥) → controls_by rules (first ++ request ∷ []) ≡ controls_by rules first
controls-same rules first request some apart =
    rw (length-push first request, quotient_same rules.every (length first) some apart)
    (same_controls rules first (request ∷ []) (length first / rules.every) some
    (quotient_fits (length first / rules.every) rules.every (length first) some (omega arith)))

-- a control is due
controls-due : (rules : PolicyNumbers) (first : List Served) (request : Served) → 0 < rules.every
    → (length first + 1) % rules.every ≡ 0
    → controls_by rules (first ++ request ∷ [])
    ≡ controls_by rules first ++ control_at rules (first ++ request ∷ []) (length first / rules.every + 1) ∷ []
controls-due rules first request some due =
    rw (
      length-push first request,
      quotient_next rules.every (length first) some due,
      map-range_with_len_more (control_at rules (first ++ request ∷ [])) 1 (length first / rules.every)
          (length first / rules.every + 1) (omega arith),
      same_controls rules first (request ∷ []) (length first / rules.every) some
          (quotient_fits (length first / rules.every) rules.every (length first) some (omega arith)),
    ) refl

-- ---- the control that is due, from the one before it

pub last_rate-push : (rules : PolicyNumbers) (controls : List Control) (control : Control)
    → control.rate ≡ last_rate rules (controls ++ control ∷ [])
last_rate-push rules controls control =
    let place : length (controls ++ control ∷ []) - 1 ≡ length controls =
    omega (arith, length-append controls (control ∷ [])) in
    let last : last_item (controls ++ control ∷ []) ≡ Some control = slice_get-last controls control _ place in
    rw last refl

control-last : (rules : PolicyNumbers) (requests : List Served) (m : ℕ)
    → last_item (map (control_at rules requests) (range_with_len 1 (suc m))) ≡ Some (control_at rules requests (suc m))
control-last rules requests m =
    let count : suc m ≡ m + 1 = omega arith in
    let split : map (control_at rules requests) (range_with_len 1 (m + 1))
    ≡ map (control_at rules requests) (range_with_len 1 m) ++ control_at rules requests (m + 1) ∷ [] =
    map-range_with_len_more (control_at rules requests) 1 m (m + 1) (omega arith) in
    let place : length (map (control_at rules requests) (range_with_len 1 m) ++ control_at rules requests (m + 1) ∷ []) - 1
    ≡ length (map (control_at rules requests) (range_with_len 1 m)) =
    omega (arith, length-append (map (control_at rules requests) (range_with_len 1 m)) (control_at rules requests (m + 1) ∷ [])) in
    let last : last_item (map (control_at rules requests) (range_with_len 1 (m + 1))) ≡ Some (control_at rules requests (m + 1)) =
    rw split (slice_get-last (map (control_at rules requests) (range_with_len 1 m)) (control_at rules requests (m + 1)) _ place) in
    let P : ℕ → Type 0 = λ k. last_item (map (control_at rules requests) (range_with_len 1 k)) ≡ Some (control_at rules requests k) in
    subst P (sym count) last

smoothed_from : (rules : PolicyNumbers) (requests : List Served) (m : ℕ)
    → last_smoothed (map (control_at rules requests) (range_with_len 1 m)) ≡ smoothed_at rules (samples requests) m
unfolding smoothed_at
smoothed_from rules requests zero = refl
smoothed_from rules requests (suc m) = rw (control-last rules requests m) refl

rate_from : (rules : PolicyNumbers) (requests : List Served) (m : ℕ)
    → last_rate rules (map (control_at rules requests) (range_with_len 1 m)) ≡ rate_after rules (samples requests) m
unfolding rate_after
rate_from rules requests zero = refl
rate_from rules requests (suc m) = rw (control-last rules requests m) refl

last_smoothed-is : (rules : PolicyNumbers) (first : List Served)
    → last_smoothed (controls_by rules first) ≡ smoothed_at rules (samples first) (length first / rules.every)
last_smoothed-is rules first = smoothed_from rules first (length first / rules.every)

pub last_rate-is : (rules : PolicyNumbers) (first : List Served)
    → last_rate rules (controls_by rules first) ≡ rate_after rules (samples first) (length first / rules.every)
last_rate-is rules first = rate_from rules first (length first / rules.every)

smoothed_at-next : (rules : PolicyNumbers) (taken : List ℕ) (k : ℕ)
    → smoothed_at rules taken (k + 1) ≡ smoother rules (smoothed_at rules taken k) (percentile_at rules taken (k + 1))
unfolding smoothed_at
smoothed_at-next rules taken k = rw add-one refl

rate_after-next : (rules : PolicyNumbers) (taken : List ℕ) (k : ℕ)
    → rate_after rules taken (k + 1) ≡ adjusted rules (smoothed_at rules taken (k + 1)) (rate_after rules taken k)
unfolding rate_after
rate_after-next rules taken k = rw add-one refl

-- the percentile of a control that is due is that of the whole window
percentile-due : (rules : PolicyNumbers) (taken : List ℕ) (k : ℕ) → k * rules.every ≡ length taken
    → percentile_at rules taken k ≡ unwrap_or (percentile (keep_last rules.window taken)) 0
percentile-due rules taken k whole = rw (whole, take-length taken) refl

control-parts : (a b : Control) → a.instant ≡ b.instant → a.percentile ≡ b.percentile → a.smoothed ≡ b.smoothed → a.rate ≡ b.rate → a ≡ b
control-parts a b instant own smoothed rate =
    let parts : ℕ → ℕ → ℕ → ℕ → Control = λ i p s r. record { instant = i; percentile = p; smoothed = s; rate = r } in
    let by_parts : parts a.instant a.percentile a.smoothed a.rate ≡ parts b.instant b.percentile b.smoothed b.rate = cc in
    by_parts

control-due : (rules : PolicyNumbers) (first : List Served) (request : Served) → 0 < rules.every
    → (length first + 1) % rules.every ≡ 0
    → control_at rules (first ++ request ∷ []) (length first / rules.every + 1)
    ≡ next_control rules (controls_by rules first) (completion request)
    (unwrap_or (percentile (keep_last rules.window (samples first ++ sample request ∷ []))) 0)
control-due rules first request some due =
    let whole : (length first / rules.every + 1) * rules.every ≡ length first + 1 =
    whole_quotient rules.every (length first) some due in
    let place : (length first / rules.every + 1) * rules.every - 1 ≡ length (map completion first) =
    omega (arith, whole, length-map first completion) in
    let taken : samples (first ++ request ∷ []) ≡ samples first ++ sample request ∷ [] = samples-append first (request ∷ []) in
    let long : length (samples first ++ sample request ∷ []) ≡ length first + 1 =
    length-append (samples first) (sample request ∷ []) ∙ ap (λ n. n + 1) (length-samples first) in
    let early : length first / rules.every * rules.every ≤ length (samples first) =
    rw (length-samples first) (quotient_fits (length first / rules.every) rules.every (length first) some (omega arith)) in
    let own : percentile_at rules (samples (first ++ request ∷ [])) (length first / rules.every + 1)
    ≡ unwrap_or (percentile (keep_last rules.window (samples first ++ sample request ∷ []))) 0 =
    rw taken (percentile-due rules (samples first ++ sample request ∷ []) (length first / rules.every + 1) (whole ∙ sym long)) in
    let smoothed : smoothed_at rules (samples (first ++ request ∷ [])) (length first / rules.every + 1)
    ≡ smoother rules (last_smoothed (controls_by rules first))
    (unwrap_or (percentile (keep_last rules.window (samples first ++ sample request ∷ []))) 0) =
    smoothed_at-next rules (samples (first ++ request ∷ [])) (length first / rules.every)
    ∙ rw (
      own,
      taken,
      smoothed_at-more rules (samples first) (sample request ∷ []) (length first / rules.every) early,
      last_smoothed-is rules first,
    ) refl in
    control-parts _ _
    (rw (map-append completion first (request ∷ []))
    (get_or_push (map completion first) (completion request) 0 ((length first / rules.every + 1) * rules.every - 1) (sym place)))
    own smoothed
    (rate_after-next rules (samples (first ++ request ∷ [])) (length first / rules.every)
    ∙ rw (
      smoothed,
      taken,
      rate_after-more rules (samples first) (sample request ∷ []) (length first / rules.every) early,
      last_rate-is rules first,
    ) refl)

-- the controls with one more request
pub controls-push : (rules : PolicyNumbers) (first : List Served) (request : Served) → 0 < rules.every
    → controls_by rules (first ++ request ∷ [])
    ≡ with_due rules (controls_by rules first) (keep_last rules.window (samples first ++ sample request ∷ []))
    (length first + 1) (completion request)
controls-push rules first request some =
    elim (cases_eq ((length first + 1) % rules.every) 0) [
      | inl due ↦
          rw (
            eq-eqb ((length first + 1) % rules.every) 0 due,
            controls-due rules first request some due,
            control-due rules first request some due,
          ) refl
      | inr apart ↦
          rw (ne_eqb ((length first + 1) % rules.every) 0 apart, controls-same rules first request some apart) refl
    ]
