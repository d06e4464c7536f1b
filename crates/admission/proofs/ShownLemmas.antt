-- The controls that a tier shows.
use Rattle.std.proofs.Common.{◌≡◌, ℕ, zero, suc, ◌+◌, ◌-◌, ◌*◌, ◌/◌, ◌<◌, ◌≤◌, List, [], ◌∷◌, ◌++◌, length, map, take, Bool, false, refl, sym, ◌∙◌, ap, arith, inl, inr, slice_index_or, length-append, append-nil, add-one, if◌then◌else◌}
use Rattle.std.specs.Prelude.{filter, nat_le}
use Rattle.std.specs.List.{range_with_len}
use Rattle.std.proofs.lemmas.Bool.{cases_lt, le-leb, lt-leb}
use Rattle.std.proofs.lemmas.List.{map-append, length-map, get_or-append_right, take_more}
use Rattle.std.proofs.lemmas.List.Elements.{filter-append}
use Rattle.admission.specs.declared.policy.PolicyNumbers.{PolicyNumbers}
use Rattle.admission.specs.declared.control.Control.{Control}
use Rattle.admission.specs.Reference.{Decided, Served, served, completion, by_completion, control_at, controls_until}
use Rattle.admission.specs.Standing.{AllFrom, completions, RiseWithin, TierStanding}
use Rattle.admission.specs.After.{due, TierFits}
use Rattle.admission.proofs.CompletionLemmas.{length-by_completion, completions-due}
use Rattle.admission.proofs.ControlLemmas.{fits_quotient, quotient_fits, same_controls}

-- ---- the controls that are still to come

from-at : (tick i d : ℕ) (xs : List ℕ) → AllFrom tick xs → i < length xs → tick ≤ slice_index_or xs i d
unfolding AllFrom
from-at tick i d [] all within = absurd (omega arith)
from-at tick zero d (x ∷ xs) all within = all.0
from-at tick (suc i) d (x ∷ xs) all within = from-at tick i d xs all.1 (omega arith)

filter_none : (p : Control → Bool) (f : ℕ → Control) (a n : ℕ) → ((k : ℕ) → a ≤ k → k < a + n → p (f k) ≡ false)
    → filter p (map f (range_with_len a n)) ≡ []
filter_none p f a zero none = refl
filter_none p f a (suc n) none =
    let here : p (f a) ≡ false = none a (omega arith) (omega arith) in
    rw here (filter_none p f (a + 1) n (λ k above below. none k (omega arith) (omega arith)))

filter_more : (p : Control → Bool) (f : ℕ → Control) (a m n : ℕ) → m ≤ n → ((k : ℕ) → a + m ≤ k → k < a + n → p (f k) ≡ false)
    → filter p (map f (range_with_len a n)) ≡ filter p (map f (range_with_len a m))
filter_more p f a zero n le none = filter_none p f a n (λ k above below. none k (omega arith) below)
filter_more p f a (suc m) zero le none = absurd (omega arith)
filter_more p f a (suc m) (suc n) le none =
    ap (λ (cs : List Control). if p (f a) then (f a ∷ cs) else cs)
    (filter_more p f (a + 1) m n (omega arith) (λ k above below. none k (omega arith) (omega arith)))

ahead : (rules : PolicyNumbers) (first rest : List Served) (tick k : ℕ) → 0 < rules.every → AllFrom (tick + 1) (map completion rest)
    → length first / rules.every < k → k * rules.every ≤ length first + length rest
    → tick < (control_at rules (first ++ rest) k).instant
ahead rules first rest tick k some later above within =
    let long : length (map completion first) ≡ length first = length-map first completion in
    let many : length (map completion rest) ≡ length rest = length-map rest completion in
    elim (cases_lt (length first) (k * rules.every)) [
      | inl past ↦
          rw (
            map-append completion first rest,
            get_or-append_right (map completion first) (map completion rest) (length first) (k * rules.every - 1) 0 long (omega arith),
          )
          (omega (arith, from-at (tick + 1) (k * rules.every - 1 - length first) 0 (map completion rest) later (omega arith)))
      | inr fit ↦
          let in_force : k ≤ length first / rules.every = fits_quotient k rules.every (length first) some fit in
          absurd (omega arith)
    ]

abbrev until : ℕ → Control → Bool
until tick c = nat_le c.instant tick

until_is : (rules : PolicyNumbers) (requests first rest : List Served) (tick : ℕ) → 0 < rules.every
    → by_completion requests ≡ first ++ rest → AllFrom (tick + 1) (map completion rest)
    → controls_until rules requests tick
    ≡ filter (until tick) (map (control_at rules first) (range_with_len 1 (length first / rules.every)))
until_is rules requests first rest tick some is later =
    let count : length requests ≡ length first + length rest =
    sym (length-by_completion requests) ∙ ap (λ (rs : List Served). length rs) is ∙ length-append first rest in
    let fit : length first / rules.every * rules.every ≤ length first =
    quotient_fits (length first / rules.every) rules.every (length first) some (omega arith) in
    let fewer : length first / rules.every ≤ length requests / rules.every =
    fits_quotient (length first / rules.every) rules.every (length requests) some (omega arith) in
    ap (λ (rs : List Served). filter (until tick) (map (control_at rules rs) (range_with_len 1 (length requests / rules.every)))) is
    ∙ filter_more (until tick) (control_at rules (first ++ rest)) 1 (length first / rules.every) (length requests / rules.every) fewer
    (λ k above below. lt-leb _ tick (ahead rules first rest tick k some later (omega arith)
    (let whole : k * rules.every ≤ length requests = quotient_fits k rules.every (length requests) some (omega arith) in omega arith)))
    ∙ ap (λ (cs : List Control). filter (until tick) cs) (same_controls rules first rest (length first / rules.every) some fit)

pub shows : (t : TierStanding) (past : List Decided) (tick : ℕ) (shown : List Control) → TierFits past t → 0 < t.rules.every
    → AllFrom (tick + 1) (completions t.flight.responses) → shown ≡ filter (λ c. nat_le c.instant tick) t.controls
    → shown ≡ controls_until t.rules (served past) tick
shows t past tick shown fits some later is =
    let waiting : AllFrom (tick + 1) (completions (map due fits.rest)) = rw (← fits.taken.responses) later in
    is ∙ ap (λ (cs : List Control). filter (until tick) cs) fits.taken.controls
    ∙ sym (until_is t.rules (served past) fits.first fits.rest tick some fits.taken.order (rw (← completions-due fits.rest) waiting))

-- ---- those of the controls so far

-- the last of these is no part of them
pub until-less : (controls : List Control) (i tick : ℕ) (d : Control) → i < length controls → tick < (slice_index_or controls i d).instant
    → filter (λ c. nat_le c.instant tick) (take (i + 1) controls) ≡ filter (λ c. nat_le c.instant tick) (take i controls)
until-less controls i tick d within later =
    ap (λ (cs : List Control). filter (until tick) cs) (take_more controls i d within)
    ∙ filter-append (until tick) (take i controls) (slice_index_or controls i d ∷ [])
    ∙ rw (lt-leb (slice_index_or controls i d).instant tick later) (append-nil _)

above-lo : (controls : List Control) (lo hi i : ℕ) (d : Control) → RiseWithin lo hi controls → i < length controls
    → lo ≤ (slice_index_or controls i d).instant
unfolding RiseWithin
above-lo [] lo hi i d rise within = absurd (omega arith)
above-lo (c ∷ controls) lo hi zero d rise within = rise.0
above-lo (c ∷ controls) lo hi (suc i) d rise within =
    omega (arith, rise.0, above-lo controls c.instant hi i d rise.2 (omega arith))

-- as their instants rise, all up to one that is are
upto-here : (controls : List Control) (lo hi i tick : ℕ) (d : Control) → RiseWithin lo hi controls → i < length controls
    → (slice_index_or controls i d).instant ≤ tick
    → filter (until tick) (take (suc i) controls) ≡ take (suc i) controls
unfolding RiseWithin
upto-here [] lo hi i tick d rise within now = absurd (omega arith)
upto-here (c ∷ controls) lo hi zero tick d rise within now = rw (le-leb c.instant tick now) refl
upto-here (c ∷ controls) lo hi (suc i) tick d rise within now =
    let here : c.instant ≤ tick = omega (arith, above-lo controls c.instant hi i d rise.2 (omega arith)) in
    rw (le-leb c.instant tick here)
    (ap (λ (cs : List Control). c ∷ cs) (upto-here controls c.instant hi i tick d rise.2 (omega arith) now))

pub until-rest : (controls : List Control) (lo hi i tick : ℕ) (d : Control) → RiseWithin lo hi controls → i < length controls
    → (slice_index_or controls i d).instant ≤ tick
    → filter (λ c. nat_le c.instant tick) (take (i + 1) controls) ≡ take (i + 1) controls
until-rest controls lo hi i tick d rise within now = rw (add-one i) (upto-here controls lo hi i tick d rise within now)
