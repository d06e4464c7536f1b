-- What a reader has to believe: the definitions of this crate that the headline stands on, in reading order.
use Rattle.std.specs.Prelude.{ℕ, List, slice_index_or, ◌+◌, ◌-◌, max, Bool, true, false, [], ◌∷◌, ◌++◌, map, filter}
use Rattle.std.specs.Prelude.{count_by, nat_eq, nat_le, ◌*◌, ◌/◌, length, if◌then◌else◌, Option, slice_get}
use Rattle.std.specs.Prelude.{zero, suc, min, take, reverse, unwrap_or, nat_lt, sum_by}
use Rattle.std.specs.List.{range_with_len}
use Rattle.admission.specs.declared.policy.PolicyNumbers.{PolicyNumbers}
use Rattle.admission.specs.declared.control.Decision.{Decision}
use Rattle.admission.specs.declared.control.Decision.TheVariants.{Admitted, Rejected}
use Rattle.circular_buffer.specs.Buffer.{keep_last}
use Rattle.admission.specs.declared.control.Control.{Control}
use Rattle.admission.specs.declared.control.PoolFigures.{PoolFigures}
use Rattle.token_bucket.specs.Reference.{TOKEN, accrual}

-- The numbers of a policy, and their ranges.

-- the rules of a tier that has no policy
abbrev pub no_rules : PolicyNumbers
no_rules = record {
  window = 0;
  every = 0;
  smoothing = 0;
  rate = 0;
  rate_min = 0;
  rate_max = 0;
  up = 0;
  down = 0;
  target = 0;
  low = 0;
  depth = 0;
}

-- what requests come to: the policies in the order of their tiers, and how many servers each pool has, the default
-- pool first
pub record Station : Type 0 where
  pub policies : List PolicyNumbers
  pub pools : List ℕ

-- the rules of a tier
unfoldable pub rules_of : Station → ℕ → PolicyNumbers
rules_of station tier = slice_index_or station.policies tier no_rules

-- how many servers a pool has
unfoldable pub servers_of : Station → ℕ → ℕ
servers_of station pool = slice_index_or station.pools pool 0

-- Requests that are offered, decided and served.

-- an offered request: the pool whose servers work on it, its tier, the tick that it comes at, how long a server works
-- on it, and how long its response takes beside that
pub record Offer : Type 0 where
  pub pool : ℕ
  pub tier : ℕ
  pub tick : ℕ
  pub service : ℕ
  pub delay : ℕ

-- an offered request, and what became of it
pub record Decided : Type 0 where
  pub offer : Offer
  pub decision : Decision

-- an admitted request, and the tick that its service ends at
pub record Served : Type 0 where
  pub offer : Offer
  pub finish : ℕ

-- the requests of this tier, in order
unfoldable pub of_tier : ℕ → List Decided → List Decided
of_tier tier requests = filter (λ r. nat_eq r.offer.tier tier) requests

abbrev pub is_admitted : Decision → Bool
is_admitted (Admitted finish) = true
is_admitted Rejected = false

abbrev pub is_rejected : Decision → Bool
is_rejected (Admitted finish) = false
is_rejected Rejected = true

abbrev pub as_served : Offer → Decision → List Served
as_served offer (Admitted finish) = record { offer = offer; finish = finish } ∷ []
as_served offer Rejected = []

-- the admitted requests, in order
unfoldable pub served : List Decided → List Served
served [] = []
served (request ∷ requests) = as_served request.offer request.decision ++ served requests

-- those that this pool's servers work on, in order
unfoldable pub of_pool : ℕ → List Served → List Served
of_pool pool requests = filter (λ r. nat_eq r.offer.pool pool) requests

abbrev pub finishes : List Served → List ℕ
finishes requests = map (λ r. r.finish) requests

unfoldable pub insert_sorted : ℕ → List ℕ → List ℕ
insert_sorted x [] = x ∷ []
insert_sorted x (y ∷ ys) = if nat_le x y then (x ∷ y ∷ ys) else (y ∷ insert_sorted x ys)

-- these numbers from the least to the greatest
unfoldable pub sorted : List ℕ → List ℕ
sorted [] = []
sorted (x ∷ xs) = insert_sorted x (sorted xs)

-- when one of n servers is free: at the n-th greatest of the finishes, 0 where there are fewer
unfoldable pub free_at : ℕ → List Served → ℕ
free_at n requests = slice_index_or (reverse (sorted (finishes requests))) (n - 1) 0

-- the offered request's finish, where that many servers work on these requests and then on it: its service begins when
-- it comes, or when a server is free, whichever is later
abbrev pub finish_after : ℕ → List Served → Offer → ℕ
finish_after servers requests offer = max (free_at servers requests) offer.tick + offer.service

-- its finish in its pool, after those of these requests that are of the pool
abbrev pub finish_in : Station → List Served → Offer → ℕ
finish_in station requests offer =
    finish_after (servers_of station offer.pool) (of_pool offer.pool requests) offer

-- the tick at which a response is complete: its delay after the end of its service
abbrev pub completion : Served → ℕ
completion request = request.finish + request.offer.delay

-- how long a response took, from the request's arrival until it was complete
abbrev pub sample : Served → ℕ
sample request = completion request - request.offer.tick

abbrev pub samples : List Served → List ℕ
samples requests = map sample requests

-- how many of the responses are complete at tick u
abbrev pub done : List Served → ℕ → ℕ
done requests u = count_by (λ r. nat_le (completion r) u) requests

unfoldable pub insert_complete : Served → List Served → List Served
insert_complete r [] = r ∷ []
insert_complete r (s ∷ ss) =
    if nat_le (completion r) (completion s) then (r ∷ s ∷ ss) else (s ∷ insert_complete r ss)

-- the requests in the order in which their responses are complete, of two at one tick the one that was admitted first
unfoldable pub by_completion : List Served → List Served
by_completion [] = []
by_completion (r ∷ rs) = insert_complete r (by_completion rs)

-- The 90th percentile of samples, by the nearest rank.

-- the rank of the 90th percentile of m samples, counted from 1: nine tenths of m, rounded up
abbrev pub rank : ℕ → ℕ
rank m = (9 * m + 9) / 10

-- the sample at that rank of the sorted samples, none of no samples
abbrev pub percentile : List ℕ → Option ℕ
percentile samples = slice_get (sorted samples) (rank (length samples) - 1)

-- The controls of served requests, and the rate in force.

-- the 90th percentile at control k: of the last samples, at most a window of them, of the first k times `every`
abbrev pub percentile_at : PolicyNumbers → List ℕ → ℕ → ℕ
percentile_at rules taken k = unwrap_or (percentile (keep_last rules.window (take (k * rules.every) taken))) 0

-- the smoothed percentile after a control: `smoothing` thousandths of the one before it, the rest of its own, rounded
-- down
abbrev pub smoother : PolicyNumbers → ℕ → ℕ → ℕ
smoother rules before own = (rules.smoothing * before + (1000 - rules.smoothing) * own) / 1000

unfoldable pub smoothed_at : PolicyNumbers → List ℕ → ℕ → ℕ
smoothed_at rules taken zero = 0
smoothed_at rules taken (suc k) = smoother rules (smoothed_at rules taken k) (percentile_at rules taken (suc k))

-- the rate after a control: divided where the smoothed percentile is above the target, raised where it is
-- below the low mark, within rate_min and rate_max
abbrev pub adjusted : PolicyNumbers → ℕ → ℕ → ℕ
adjusted rules smoothed rate =
    if nat_lt rules.target smoothed then (max rules.rate_min (100 * rate / rules.down))
    else (if nat_lt (100 * smoothed) (rules.low * rules.target) then (min rules.rate_max (rate + rules.up))
    else rate)

-- the rate after k controls
unfoldable pub rate_after : PolicyNumbers → List ℕ → ℕ → ℕ
rate_after rules taken zero = rules.rate
rate_after rules taken (suc k) = adjusted rules (smoothed_at rules taken (suc k)) (rate_after rules taken k)

-- control k, counted from 1, of requests in the order of their completions: it stands where the first k times `every`
-- are complete
abbrev pub control_at : PolicyNumbers → List Served → ℕ → Control
control_at rules ordered k = record {
  instant = slice_index_or (map completion ordered) (k * rules.every - 1) 0;
  percentile = percentile_at rules (samples ordered) k;
  smoothed = smoothed_at rules (samples ordered) k;
  rate = rate_after rules (samples ordered) k;
}

-- the controls of these requests
abbrev pub controls_of : PolicyNumbers → List Served → List Control
controls_of rules requests =
    map (control_at rules (by_completion requests)) (range_with_len 1 (length requests / rules.every))

-- those whose instant is at most this tick
abbrev pub controls_until : PolicyNumbers → List Served → ℕ → List Control
controls_until rules requests tick = filter (λ c. nat_le c.instant tick) (controls_of rules requests)

-- the rate in force at tick u: that of the last control whose responses are all complete
abbrev pub rate_at : PolicyNumbers → List Served → ℕ → ℕ
rate_at rules requests u = rate_after rules (samples (by_completion requests)) (done requests u / rules.every)

-- What a controller keeps of the offers so far.

-- the tick of the last offer
unfoldable pub tick_from : ℕ → List Offer → ℕ
tick_from tick [] = tick
tick_from tick (offer ∷ offers) = tick_from offer.tick offers

-- Which offered requests are admitted.

-- a full bucket's units, with what accrues from the first of these requests up to `tick`, without the tokens that they
-- took
abbrev pub balance : (ℕ → ℕ) → ℕ → ℕ → Decided → List Decided → ℕ
balance rate full tick request requests =
    full + accrual rate request.offer.tick tick - TOKEN * count_by (λ r. is_admitted r.decision) (request ∷ requests)

-- the least, over each request that was offered so far and the one that comes now, of the balance from it on
unfoldable pub least_balance : (ℕ → ℕ) → ℕ → ℕ → List Decided → ℕ
least_balance rate full tick [] = full
least_balance rate full tick (request ∷ requests) =
    min (balance rate full tick request requests) (least_balance rate full tick requests)

-- the credit in units of a request that is offered at `tick` after these of its tier
abbrev pub credit : PolicyNumbers → List Decided → ℕ → ℕ
credit rules past tick = least_balance (rate_at rules (served past)) (rules.depth * TOKEN) tick past

-- a request is admitted exactly where its credit, by the rules of its tier over the requests of its tier, holds a
-- token; it is served after the admitted requests of its pool, of whatever tier they are
abbrev pub decide : Station → List Decided → Offer → Decision
decide station past offer =
    if nat_le TOKEN (credit (rules_of station offer.tier) (of_tier offer.tier past) offer.tick)
    then (Admitted (finish_in station (served past) offer)) else Rejected

abbrev pub decided_next : Station → List Decided → Offer → Decided
decided_next station past offer = record { offer = offer; decision = decide station past offer }

-- each offer in turn, decided by those before it
unfoldable pub decided_from : Station → List Decided → List Offer → List Decided
decided_from station past [] = past
decided_from station past (offer ∷ offers) =
    decided_from station (past ++ decided_next station past offer ∷ []) offers

abbrev pub decided : Station → List Offer → List Decided
decided station offers = decided_from station [] offers

-- What each pool has done.

-- when a server begins to work on a request
abbrev pub start : Served → ℕ
start request = request.finish - request.offer.service

-- how many of these requests wait at a tick: no server has begun to work on them
abbrev pub waiting_at : List Served → ℕ → ℕ
waiting_at requests tick = count_by (λ r. nat_lt tick (start r)) requests

-- the greatest number that wait when one of these comes after those, of all up to it and with it
unfoldable pub longest_after : List Served → List Served → ℕ
longest_after before [] = 0
longest_after before (request ∷ requests) =
    max (waiting_at (before ++ request ∷ []) request.offer.tick) (longest_after (before ++ request ∷ []) requests)

abbrev pub figures_of : List Served → PoolFigures
figures_of requests = record {
  admitted = length requests;
  busy = sum_by (λ r. r.offer.service) requests;
  longest_queue = longest_after [] requests;
}

-- those of a pool of this number, by its requests of all tiers
abbrev pub figures_in : Station → List Offer → ℕ → PoolFigures
figures_in station offers pool = figures_of (of_pool pool (served (decided station offers)))

-- of so many pools, how many have figures: all where there are several, else none
abbrev pub with_figures : ℕ → ℕ
with_figures pools = if nat_le pools 1 then 0 else pools

-- the figures of the pools in turn, the default pool first
unfoldable pub pools_of : Station → List Offer → List PoolFigures
pools_of station offers = map (figures_in station offers) (range_with_len 0 (with_figures (length station.pools)))
