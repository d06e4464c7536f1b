-- What one more offer makes of a tier's standing, and of a pool's.
use Rattle.std.specs.Prelude.{ℕ, ◌+◌, ◌%◌, max, List, [], ◌∷◌, ◌++◌, length, nat_le, nat_lt, nat_eq, if◌then◌else◌}
use Rattle.std.specs.Prelude.{unwrap_or, replicate, drop, option_map, slice_set, slice_index_or}
use Rattle.circular_buffer.specs.Buffer.{last_item}
use Rattle.token_bucket.specs.Reference.{TOKEN}
use Rattle.token_bucket.specs.Standing as bucket
use Rattle.admission.specs.declared.policy.PolicyNumbers.{PolicyNumbers}
use Rattle.admission.specs.declared.control.Control.{Control}
use Rattle.admission.specs.declared.control.PoolFigures.{PoolFigures}
use Rattle.admission.specs.declared.control.Decision.{Decision}
use Rattle.admission.specs.declared.control.Decision.TheVariants.{Admitted, Rejected}
use Rattle.admission.specs.Reference.{insert_sorted, Decided, percentile, smoother, adjusted, credit}
use Rattle.admission.specs.Standing.{with_sample, TierStanding, PoolStanding, Due, with_response, first_free}

abbrev pub last_smoothed : List Control → ℕ
last_smoothed controls = unwrap_or (option_map (λ c. c.smoothed) (last_item controls)) 0

abbrev pub last_rate : PolicyNumbers → List Control → ℕ
last_rate rules controls = unwrap_or (option_map (λ c. c.rate) (last_item controls)) rules.rate

-- the control after these, from its instant and its percentile
abbrev pub next_control : PolicyNumbers → List Control → ℕ → ℕ → Control
next_control rules controls instant own = record {
  instant = instant;
  percentile = own;
  smoothed = smoother rules (last_smoothed controls) own;
  rate = adjusted rules (smoother rules (last_smoothed controls) own) (last_rate rules controls);
}

-- the controls with one more, where that many complete responses make one due
abbrev pub with_due : PolicyNumbers → List Control → List ℕ → ℕ → ℕ → List Control
with_due rules controls samples completed instant =
    if nat_eq (completed % rules.every) 0 then
    (controls ++ next_control rules controls instant (unwrap_or (percentile samples) 0) ∷ [])
    else controls

-- the tier with its next response taken in
abbrev pub with_complete : TierStanding → bucket.Standing → Due → TierStanding
with_complete t b due = record {
  rules = t.rules;
  bucket = b;
  clock = due.completion;
  flight = record { admitted = t.flight.admitted; responses = drop 1 t.flight.responses };
  completed = t.completed + 1;
  rejected = t.rejected;
  window = with_sample t.window due.sample;
  controls = with_due t.rules t.controls (with_sample t.window due.sample).samples (t.completed + 1) due.completion;
}

-- the tier after a rejected offer at this tick
abbrev pub when_rejected : TierStanding → bucket.Standing → ℕ → TierStanding
when_rejected t b tick = record t { bucket = b; clock = tick; rejected = t.rejected + 1 }

-- the tier after an admitted one, whose response is due then
abbrev pub when_admitted : TierStanding → bucket.Standing → ℕ → Due → TierStanding
when_admitted t b tick due = record t { bucket = b; clock = tick; flight = with_response t.flight due }

-- what becomes of a request after these of its tier, where a server is free from some tick on
abbrev pub decision_after : PolicyNumbers → List Decided → ℕ → ℕ → ℕ → Decision
decision_after rules past free tick service =
    if nat_le TOKEN (credit rules past tick) then (Admitted (max free tick + service)) else Rejected

-- its finish where it was admitted, else this tick
abbrev pub finish_or : ℕ → Decision → ℕ
finish_or tick (Admitted finish) = finish
finish_or tick Rejected = tick

-- of these starts those that lie ahead of a tick, where none is before the one in front of it
unfoldable pub ahead : ℕ → List ℕ → List ℕ
ahead tick [] = []
ahead tick (start ∷ starts) = if nat_le start tick then ahead tick starts else (start ∷ starts)

-- with that of a request that comes then, if it has to wait until a server is free
abbrev pub with_start : ℕ → ℕ → List ℕ → List ℕ
with_start tick free starts = if nat_lt tick free then (ahead tick starts ++ free ∷ []) else ahead tick starts

-- a pool of this many servers that was offered nothing yet
abbrev pub new_pool : ℕ → PoolStanding
new_pool servers = record { free = replicate servers 0; starts = [] }

-- until when a request of this pool waits for these servers, where the pool has figures; else no start is kept
abbrev pub waits_until : List PoolFigures → ℕ → List ℕ → ℕ
waits_until figures pool free = if nat_lt pool (length figures) then (first_free free) else 0

-- the pool after a request that comes at this tick, waits until then, and is decided so: where it is admitted the first
-- server that is free takes it
abbrev pub pool_after : PoolStanding → ℕ → ℕ → Decision → PoolStanding
pool_after p until tick (Admitted finish) = record {
  free = drop 1 (insert_sorted finish p.free);
  starts = with_start tick until p.starts;
}
pool_after p until tick Rejected = p

-- figures of no request
abbrev pub no_figures : PoolFigures
no_figures = record { admitted = 0; busy = 0; longest_queue = 0 }

-- figures with one more request that takes so long, when so many wait
abbrev pub with_request : PoolFigures → ℕ → ℕ → PoolFigures
with_request f service waiting = record {
  admitted = f.admitted + 1;
  busy = f.busy + service;
  longest_queue = max f.longest_queue waiting;
}

-- those of the pools with one more request of this pool
abbrev pub figures_with : List PoolFigures → ℕ → ℕ → ℕ → List PoolFigures
figures_with figures pool service waiting =
    slice_set figures pool (with_request (slice_index_or figures pool no_figures) service waiting)

-- those after a request of this pool that takes so long and is decided so, with which these starts lie ahead
abbrev pub figures_after : List PoolFigures → ℕ → ℕ → List ℕ → Decision → List PoolFigures
figures_after figures pool service starts (Admitted finish) = figures_with figures pool service (length starts)
figures_after figures pool service starts Rejected = figures
