-- What each tier keeps stays so at an offer, and while time passes.
use Rattle.std.proofs.Common.{◌≡◌, ℕ, ◌+◌, ◌%◌, ◌<◌, ◌≤◌, List, [], ◌∷◌, ◌++◌, length, drop, true, false, nat_eq, refl, sym, ◌∙◌, ap, arith, Some, slice_get, inl, inr}
use Rattle.std.specs.Prelude.{None, unwrap_or}
use Rattle.std.proofs.lemmas.Bool.{cases_lt, cases_eq, lt-ltb, le-ltb, eq-eqb, ne_eqb}
use Rattle.token_bucket.specs.Calls.{Advance, SetRate}
use Rattle.token_bucket.specs.Standing.{MAX_RATE}
use Rattle.token_bucket.specs.Standing as bucket
use Rattle.admission.specs.declared.control.Control.{Control}
use Rattle.admission.specs.Standing.{Window, with_sample, Due, Flight, completions, insert_due, AllFrom, TierStanding, RiseWithin, IsSoundTier, IsShare}
use Rattle.admission.specs.Reference.{percentile}
use Rattle.admission.specs.Running.{last_rate, next_control, with_complete, when_rejected, when_admitted}
use Rattle.admission.specs.TierCalls.{Moves}
use Rattle.admission.proofs.ControlLemmas.{last_rate-push}
use Rattle.admission.proofs.RateLemmas.{rates_push}
use Rattle.admission.proofs.TakenLemmas.{Does, takes_kept, takes_turned}

-- ---- the instants of the controls

rise_widen : (lo hi higher : ℕ) (controls : List Control) → RiseWithin lo hi controls → hi ≤ higher → RiseWithin lo higher controls
unfolding RiseWithin
rise_widen lo hi higher [] rise above = tt
rise_widen lo hi higher (control ∷ controls) rise above =
    (rise.0, omega (arith, rise.1), rise_widen control.instant hi higher controls rise.2 above)

rise_push : (lo hi : ℕ) (controls : List Control) (control : Control) → RiseWithin lo hi controls → hi ≤ control.instant
    → lo ≤ control.instant → RiseWithin lo control.instant (controls ++ control ∷ [])
unfolding RiseWithin
rise_push lo hi [] control rise above low = (low, omega arith, tt)
rise_push lo hi (first ∷ controls) control rise above low =
    (rise.0, omega (arith, rise.1), rise_push first.instant hi controls control rise.2 above (omega (arith, rise.1)))

-- ---- the responses on their way

length-due : (x : Due) (ds : List Due) → length (insert_due x ds) ≡ length ds + 1
unfolding insert_due
length-due x [] = refl
length-due x (y ∷ ds) =
    elim (cases_lt x.completion y.completion) [
      | inl below ↦ rw (lt-ltb x.completion y.completion below) (omega arith)
      | inr above ↦ rw (le-ltb x.completion y.completion above) (omega (arith, length-due x ds))
    ]

pub from-due : (tick : ℕ) (x : Due) (ds : List Due) → tick ≤ x.completion → AllFrom tick (completions ds)
    → AllFrom tick (completions (insert_due x ds))
unfolding insert_due AllFrom
from-due tick x [] le all = (le, tt)
from-due tick x (y ∷ ds) le all =
    elim (cases_lt x.completion y.completion) [
      | inl below ↦ rw (lt-ltb x.completion y.completion below) (le, all)
      | inr above ↦ rw (le-ltb x.completion y.completion above) (all.0, from-due tick x ds le all.1)
    ]

-- the first of them
from-rest : (tick : ℕ) (ds : List Due) → AllFrom tick (completions ds) → AllFrom tick (completions (drop 1 ds))
unfolding AllFrom
from-rest tick [] all = tt
from-rest tick (d ∷ ds) all = all.1

pub one-less : (ds : List Due) (d : Due) → slice_get ds 0 ≡ Some d → length (drop 1 ds) + 1 ≡ length ds
one-less [] d at = absurd (cc)
one-less (x ∷ ds) d at = omega arith

pub first-from : (tick : ℕ) (ds : List Due) (d : Due) → AllFrom tick (completions ds) → slice_get ds 0 ≡ Some d → tick ≤ d.completion
unfolding AllFrom
first-from tick [] d all at = absurd (cc)
first-from tick (x ∷ ds) d all at = let same : x ≡ d = cc in rw (← same) all.0

pub behind-first : (t : TierStanding) (d : Due) → IsSoundTier t → slice_get t.flight.responses 0 ≡ Some d → t.bucket.tick ≤ d.completion
behind-first t d sound at = omega (arith, sound.behind, first-from t.clock t.flight.responses d sound.later at)

-- where there is none
pub from-none : (tick : ℕ) (ds : List Due) → None ≡ slice_get ds 0 → AllFrom tick (completions ds)
unfolding AllFrom
from-none tick [] none = tt
from-none tick (x ∷ ds) none = absurd (cc)

-- ---- one more is complete

pub not_due : (n : ℕ) → false ≡ nat_eq n 0 → n ≡ 0 → ⊥
not_due n is same = let both : false ≡ true = is ∙ eq-eqb n 0 same in absurd (cc)

pub is_due : (n : ℕ) → true ≡ nat_eq n 0 → n ≡ 0
is_due n is =
    elim (cases_eq n 0) [ inl same ↦ same | inr apart ↦ absurd (let both : true ≡ false = is ∙ ne_eqb n 0 apart in cc) ]

-- no control is due, and the bucket stays
pub sound_kept : (t : TierStanding) (d : Due) (flight : Flight) (window : Window) (controls : List Control)
    → IsSoundTier t → slice_get t.flight.responses 0 ≡ Some d → AllFrom d.completion (completions t.flight.responses)
    → window.size ≡ t.window.size → flight ≡ record { admitted = t.flight.admitted; responses = drop 1 t.flight.responses }
    → controls ≡ t.controls → IsSoundTier (record {
      rules = t.rules;
      bucket = t.bucket;
      clock = d.completion;
      flight = flight;
      completed = t.completed + 1;
      rejected = t.rejected;
      window = window;
      controls = controls;
    })
sound_kept t d flight window controls sound at least size left is = record {
  every = sound.every;
  size = size ∙ sound.size;
  count = rw left (omega (arith, sound.count, one-less t.flight.responses d at));
  later = rw left (from-rest d.completion t.flight.responses least);
  behind = omega (arith, sound.behind, first-from t.clock t.flight.responses d sound.later at);
  rising = rw is sound.rising;
  rates = rw is sound.rates;
}

-- a control is made
pub sound_turned : (t : TierStanding) (b : bucket.Standing) (d : Due) (flight : Flight) (window : Window) (controls : List Control)
    (control : Control) → IsSoundTier t → slice_get t.flight.responses 0 ≡ Some d → AllFrom d.completion (completions t.flight.responses)
    → b.tick ≡ d.completion → window.size ≡ t.window.size
    → flight ≡ record { admitted = t.flight.admitted; responses = drop 1 t.flight.responses }
    → controls ≡ t.controls ++ control ∷ [] → control.instant ≡ d.completion → (1 ≤ control.rate) × (control.rate ≤ MAX_RATE)
    → IsSoundTier (record {
      rules = t.rules;
      bucket = b;
      clock = d.completion;
      flight = flight;
      completed = t.completed + 1;
      rejected = t.rejected;
      window = window;
      controls = controls;
    })
sound_turned t b d flight window controls control sound at least there size left is instant range =
    let kept = sound_kept t d flight window t.controls sound at least size left refl in
    record {
      every = sound.every;
      size = kept.size;
      count = kept.count;
      later = kept.later;
      behind = omega (arith, there);
      rising = rw (there, is, ← instant) (rise_push 0 t.bucket.tick t.controls control sound.rising
          (omega (arith, instant, kept.behind)) (omega arith));
      rates = rw is (rates_push t.controls control sound.rates range);
    }

share_complete : (t : TierStanding) (b : bucket.Standing) (d : Due) (offers last now : ℕ) → d.completion ≤ now
    → IsShare offers last now t → IsShare offers last now (with_complete t b d)
share_complete t b d offers last now below share = record {
  admitted = share.admitted;
  rejected = share.rejected;
  clock = omega arith;
  complete = from-rest (last + 1) t.flight.responses share.complete;
}

-- ---- an offer

pub sound_rejected : (t : TierStanding) (b : bucket.Standing) (tick : ℕ) → IsSoundTier t → AllFrom tick (completions t.flight.responses)
    → b.tick ≡ tick → t.clock ≤ tick → IsSoundTier (when_rejected t b tick)
sound_rejected t b tick sound later at forward = record {
  every = sound.every;
  size = sound.size;
  count = sound.count;
  later = later;
  behind = omega (arith, at);
  rising = rise_widen 0 t.bucket.tick b.tick t.controls sound.rising (omega (arith, at, forward, sound.behind));
  rates = sound.rates;
}

pub sound_admitted : (t : TierStanding) (b : bucket.Standing) (tick : ℕ) (d : Due) → IsSoundTier t → AllFrom tick (completions t.flight.responses)
    → b.tick ≡ tick → t.clock ≤ tick → tick ≤ d.completion → IsSoundTier (when_admitted t b tick d)
sound_admitted t b tick d sound later at forward ahead = record {
  every = sound.every;
  size = sound.size;
  count = omega (arith, sound.count, length-due d t.flight.responses);
  later = from-due tick d t.flight.responses ahead later;
  behind = omega (arith, at);
  rising = rise_widen 0 t.bucket.tick b.tick t.controls sound.rising (omega (arith, at, forward, sound.behind));
  rates = sound.rates;
}

-- ---- beside the other tiers

-- where others were offered
pub share_later : (offers tick now offers' now' : ℕ) (t : TierStanding) → IsShare offers tick now t
    → offers ≤ offers' → now ≤ now' → IsShare offers' tick now' t
share_later offers tick now offers' now' t share more later = record {
  admitted = omega (arith, share.admitted);
  rejected = omega (arith, share.rejected);
  clock = omega (arith, share.clock);
  complete = share.complete;
}

-- where all that is complete at a tick was taken in
pub share_complete_at : (offers last now tick : ℕ) (t : TierStanding) → IsShare offers last now t
    → AllFrom (tick + 1) (completions t.flight.responses) → IsShare offers tick now t
share_complete_at offers last now tick t share complete = record {
  admitted = share.admitted;
  rejected = share.rejected;
  clock = share.clock;
  complete = complete;
}

pub share_rejected : (offers tick : ℕ) (t : TierStanding) (b : bucket.Standing) → IsShare offers tick tick t
    → IsShare (offers + 1) tick tick (when_rejected t b tick)
share_rejected offers tick t b share = record {
  admitted = omega (arith, share.admitted);
  rejected = omega (arith, share.rejected);
  clock = omega arith;
  complete = share.complete;
}

pub share_admitted : (offers tick : ℕ) (t : TierStanding) (b : bucket.Standing) (d : Due) → IsShare offers tick tick t
    → tick < d.completion → IsShare (offers + 1) tick tick (when_admitted t b tick d)
share_admitted offers tick t b d share later = record {
  admitted = omega (arith, share.admitted);
  rejected = omega (arith, share.rejected);
  clock = omega arith;
  complete = from-due (tick + 1) d t.flight.responses (omega arith) share.complete;
}

-- ---- while time passes

pub moves_none : (t : TierStanding) (tick : ℕ) → Moves t tick t
moves_none t tick = record { rules = refl; fits = λ past fits. fits; share = λ offers last now below share. share }

pub moves_then : (a b c : TierStanding) (i tick : ℕ) → Moves a tick b → Moves b i c → i ≤ tick → Moves a tick c
moves_then a b c i tick first next below = record {
  rules = next.rules ∙ first.rules;
  fits = λ past fits. next.fits past (first.fits past fits);
  share = λ offers last now within share. next.share offers last now (omega arith) (first.share offers last now within share);
}

-- no control is due
pub moves_kept : (t : TierStanding) (d : Due) (flight : Flight) (window : Window) (controls : List Control)
    → IsSoundTier t → slice_get t.flight.responses 0 ≡ Some d → ((t.completed + 1) % t.rules.every ≡ 0 → ⊥)
    → flight ≡ record { admitted = t.flight.admitted; responses = drop 1 t.flight.responses }
    → window ≡ with_sample t.window d.sample → controls ≡ t.controls
    → Moves t d.completion (record {
      rules = t.rules;
      bucket = t.bucket;
      clock = d.completion;
      flight = flight;
      completed = t.completed + 1;
      rejected = t.rejected;
      window = window;
      controls = controls;
    })
moves_kept t d flight window controls sound at apart left is same =
    let none : (with_complete t t.bucket d).controls ≡ t.controls = rw (ne_eqb ((t.completed + 1) % t.rules.every) 0 apart) refl in
    let moves : Moves t d.completion (with_complete t t.bucket d) = record {
      rules = refl;
      fits = λ past fits. takes_kept t past d fits at sound.every (first-from t.clock t.flight.responses d sound.later at) apart;
      share = λ offers last now below share. share_complete t t.bucket d offers last now below share;
    } in
    rw (left, is, same) (rw none at moves)

-- a control is made
pub moves_turned : (t : TierStanding) (moved next : bucket.Standing) (d : Due) (flight : Flight) (window : Window) (controls : List Control)
    (control : Control) → IsSoundTier t → slice_get t.flight.responses 0 ≡ Some d → AllFrom d.completion (completions t.flight.responses)
    → (t.completed + 1) % t.rules.every ≡ 0 → Does t.bucket (Advance d.completion) moved → Does moved (SetRate control.rate) next
    → flight ≡ record { admitted = t.flight.admitted; responses = drop 1 t.flight.responses }
    → window ≡ with_sample t.window d.sample → controls ≡ t.controls ++ control ∷ []
    → control ≡ next_control t.rules t.controls d.completion (unwrap_or (percentile window.samples) 0)
    → Moves t d.completion (record {
      rules = t.rules;
      bucket = next;
      clock = d.completion;
      flight = flight;
      completed = t.completed + 1;
      rejected = t.rejected;
      window = window;
      controls = controls;
    })
moves_turned t moved next d flight window controls control sound at least due moves turns left is made own =
    let same : controls ≡ (with_complete t next d).controls =
    rw (eq-eqb ((t.completed + 1) % t.rules.every) 0 due, made, own, is) refl in
    let rated : control.rate ≡ last_rate t.rules (with_complete t next d).controls =
    last_rate-push t.rules t.controls control ∙ ap (last_rate t.rules) (sym made ∙ same) in
    let all : Moves t d.completion (with_complete t next d) = record {
      rules = refl;
      fits = λ past fits. takes_turned t past d moved next fits at least sound.every
          (first-from t.clock t.flight.responses d sound.later at) sound.behind moves (λ past fits. rw (← rated) (turns past fits));
      share = λ offers last now below share. share_complete t next d offers last now below share;
    } in
    rw (left, same, is) all
