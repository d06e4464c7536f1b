-- A tier that was offered nothing.
use Rattle.std.proofs.Common.{◌≡◌, ◌*◌, ◌≤◌, [], map, refl, sym, ◌∙◌, ap, arith}
use Rattle.std.proofs.Math.Nat.{zero-div}
use Rattle.std.specs.List.{range_with_len}
use Rattle.token_bucket.specs.Reference.{TOKEN}
use Rattle.token_bucket.specs.Calls.{made}
use Rattle.token_bucket.specs.After.{BucketAfter, last_rate}
use Rattle.token_bucket.specs.Standing as bucket
use Rattle.token_bucket.proofs.CallLemmas as calls
use Rattle.admission.specs.declared.policy.PolicyNumbers.{PolicyNumbers}
use Rattle.admission.specs.Reference.{served, samples, rate_after, control_at, least_balance}
use Rattle.admission.specs.Standing.{Window, window_of, AllFrom, TierStanding, RiseWithin, AllRates, IsSoundTier, IsShare}
use Rattle.admission.specs.After.{AllCovered, AllUpTo, TierFits}
use Rattle.admission.proofs.CompletionLemmas.{by_completion-none, upto-take}

abbrev pub start : PolicyNumbers → bucket.Standing → Window → TierStanding
start rules b window = record {
  rules = rules;
  bucket = b;
  clock = 0;
  flight = record { admitted = 0; responses = [] };
  completed = 0;
  rejected = 0;
  window = window;
  controls = [];
}

pub start_sound : (rules : PolicyNumbers) (b : bucket.Standing) (window : Window) → 1 ≤ rules.every → b.tick ≡ 0
    → window ≡ window_of rules.window [] → IsSoundTier (start rules b window)
unfolding AllRates AllFrom RiseWithin
start_sound rules b window every tick is = record {
  every = every;
  size = ap (λ (w : Window). w.size) is;
  count = omega arith;
  later = tt;
  behind = omega (arith, tick);
  rising = tt;
  rates = tt;
}

pub start_share : (rules : PolicyNumbers) (b : bucket.Standing) (window : Window) → IsShare 0 0 0 (start rules b window)
unfolding AllFrom
start_share rules b window = record { admitted = omega arith; rejected = omega arith; clock = omega arith; complete = tt }

pub start_fits : (rules : PolicyNumbers) (b : bucket.Standing) (window : Window) → BucketAfter (made rules.depth rules.rate) b
    → window ≡ window_of rules.window [] → TierFits [] (start rules b window)
unfolding served rate_after least_balance AllCovered AllUpTo last_rate
start_fits rules b window fits is = record {
  first = [];
  rest = [];
  taken = record {
    order = by_completion-none;
    past = tt;
    controlled = upto-take _ _ [] tt;
    completed = refl;
    window = is;
    controls = sym (ap (λ n. map (control_at rules []) (range_with_len 1 n)) (zero-div rules.every));
    rate = fits.rate ∙ sym (ap (rate_after rules (samples [])) (zero-div rules.every));
    responses = refl;
  };
  bucket = record {
    past_calls = made rules.depth rules.rate;
    fits = fits;
    depth = fits.depth;
    credit = fits.credit ∙ calls.least_balance-none (rules.depth * TOKEN) rules.rate 0;
    covered = tt;
  };
  admitted = refl;
  rejected = refl;
}
