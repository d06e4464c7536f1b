-- What a contract sees of a `Controller`.
use Rattle.std.specs.Prelude.{◌≡◌, ℕ, ◌+◌, ◌*◌, ◌<◌, ◌≤◌, List, [], ◌∷◌, length, map, Some, slice_get, nat_lt}
use Rattle.std.specs.Prelude.{slice_index_or, ◌++◌, if◌then◌else◌, All}
use Rattle.token_bucket.specs.Standing.{MAX_TICK, MAX_RATE}
use Rattle.admission.specs.declared.policy.PolicyNumbers.{PolicyNumbers}
use Rattle.admission.specs.Limits.{MAX_OFFERS, MAX_SERVICE, MAX_SERVERS, MAX_POOLS}
use Rattle.admission.specs.declared.control.Control.{Control}
use Rattle.admission.specs.declared.control.PoolFigures.{PoolFigures}
use Rattle.admission.specs.Reference.{Station, with_figures}
use Rattle.circular_buffer.specs.Buffer.{keep_last}
use Rattle.token_bucket.specs.Standing as bucket

-- What a contract sees of a `SampleWindow`.

-- how many samples it holds at most, and those that it holds, the oldest first
pub record Window : Type 0 where
  pub size : ℕ
  pub samples : List ℕ

-- the window of this size to which these samples were added: it holds the last of them
abbrev pub window_of : ℕ → List ℕ → Window
window_of size added = record { size = size; samples = keep_last size added }

-- the window with one more sample
abbrev pub with_sample : Window → ℕ → Window
with_sample window sample = record {
  size = window.size;
  samples = keep_last window.size
      (window.samples ++ sample ∷ []);
}

-- What a contract sees of the responses that aren't complete yet.

-- one of them: the tick at which it is complete, and how long it took then
pub record Due : Type 0 where
  pub completion : ℕ
  pub sample : ℕ

-- how many requests were admitted, and the responses that aren't complete yet, in the order of their completions, of
-- two at one tick the one that was admitted first
pub record Flight : Type 0 where
  pub admitted : ℕ
  pub responses : List Due

abbrev pub completions : List Due → List ℕ
completions responses = map (λ r. r.completion) responses

-- behind those that are complete at the same tick
unfoldable pub insert_due : Due → List Due → List Due
insert_due x [] = x ∷ []
insert_due x (y ∷ ys) = if nat_lt x.completion y.completion then (x ∷ y ∷ ys) else (y ∷ insert_due x ys)

-- with one more admitted request
abbrev pub with_response : Flight → Due → Flight
with_response flight due = record {
  admitted = flight.admitted + 1;
  responses = insert_due due flight.responses;
}

-- none of these is before this tick
unfoldable pub AllFrom : ℕ → List ℕ → Type 0
AllFrom tick [] = Unit {0}
AllFrom tick (x ∷ xs) = (tick ≤ x) × AllFrom tick xs

-- a tier: its policy's numbers; its bucket; the tick up to which time has passed for its responses; its admitted
-- requests, and how many of their responses are complete; how many of its requests were rejected; the window of the
-- complete ones, and the controls that were made of them
pub record TierStanding : Type 0 where
  pub rules : PolicyNumbers
  pub bucket : bucket.Standing
  pub clock : ℕ
  pub flight : Flight
  pub completed : ℕ
  pub rejected : ℕ
  pub window : Window
  pub controls : List Control

-- a pool: when each of its servers is free, the first to be free first; and, where it has figures, when they begin to
-- work on the requests that waited at the tick of its last admitted one, in their order
pub record PoolStanding : Type 0 where
  pub free : List ℕ
  pub starts : List ℕ

-- the tiers; the pools, and their figures, where there are several; how many requests were offered; the tick of the
-- last one, 0 before the first; and the tick up to which time has passed, which is later where no memory was left for
-- an offer
pub record Standing : Type 0 where
  pub tiers : List TierStanding
  pub pools : List PoolStanding
  pub figures : List PoolFigures
  pub offers : ℕ
  pub tick : ℕ
  pub clock : ℕ

-- the tick of the last offer of any tier, 0 before the first
abbrev pub last_tick : Standing → ℕ
last_tick c = c.tick

-- what a controller was made with: the policies in the order of their tiers, and the numbers of the pools' servers
unfoldable pub station_of : Standing → Station
station_of c = record {
  policies = map (λ t. t.rules) c.tiers;
  pools = map (λ p. length p.free) c.pools;
}

-- a default pool and at most 16 others, each of 1 to 1,024 servers
pub record ArePools (servers : List ℕ) : Type 0 where
  pub default : 1 ≤ length servers
  pub most : length servers ≤ MAX_POOLS + 1
  pub each : All (λ n. (1 ≤ n) × (n ≤ MAX_SERVERS)) servers

-- when the first server is free
abbrev pub first_free : List ℕ → ℕ
first_free servers = slice_index_or servers 0 0

-- the controls' instants rise from lo up to hi
unfoldable pub RiseWithin : ℕ → ℕ → List Control → Type 0
RiseWithin lo hi [] = Unit {0}
RiseWithin lo hi (control ∷ controls) =
    (lo ≤ control.instant) × (control.instant ≤ hi) × RiseWithin control.instant hi controls

-- each control has a rate that a bucket takes
unfoldable pub AllRates : List Control → Type 0
AllRates [] = Unit {0}
AllRates (control ∷ controls) = (1 ≤ control.rate) × (control.rate ≤ MAX_RATE) × AllRates controls

-- what each tier keeps, whatever was offered
pub record IsSoundTier (t : TierStanding) : Type 0 where
  pub every : 1 ≤ t.rules.every
  pub size : t.window.size ≡ t.rules.window
  pub count : t.completed + length t.flight.responses ≡ t.flight.admitted
  pub later : AllFrom t.clock (completions t.flight.responses)
  pub behind : t.bucket.tick ≤ t.clock
  pub rising : RiseWithin 0 t.bucket.tick t.controls
  pub rates : AllRates t.controls

-- a tier beside the others, where time has passed up to now: no more of its requests were admitted than offered in all,
-- its clock is not beyond now, and all responses that were complete at this tick were taken in
pub record IsShare (offers tick now : ℕ) (t : TierStanding) : Type 0 where
  pub admitted : t.flight.admitted ≤ offers
  pub rejected : t.rejected ≤ offers
  pub clock : t.clock ≤ now
  pub complete : AllFrom (tick + 1) (completions t.flight.responses)

-- a pool has a server, and no more work than these offers can make: its first server is free by then
pub record IsPool (offers : ℕ) (p : PoolStanding) : Type 0 where
  pub some : 1 ≤ length p.free
  pub free : first_free p.free ≤ MAX_TICK + MAX_SERVICE * offers

-- figures tell of no more than these offers, and of no more work than they can make
pub record IsFew (offers : ℕ) (f : PoolFigures) : Type 0 where
  pub admitted : f.admitted ≤ offers
  pub busy : f.busy ≤ MAX_SERVICE * offers

pub record AreFew (offers : ℕ) (figures : List PoolFigures) : Type 0 where
  pub each : (i : ℕ) (f : PoolFigures) → slice_get figures i ≡ Some f → IsFew offers f

-- what each controller keeps, whatever was offered
pub record IsSound (c : Standing) : Type 0 where
  pub four : length c.tiers ≡ 4
  pub offers : c.offers ≤ MAX_OFFERS
  pub default : 1 ≤ length c.pools
  pub pools : (i : ℕ) (p : PoolStanding) → slice_get c.pools i ≡ Some p → IsPool c.offers p
  pub kept : length c.figures ≡ with_figures (length c.pools)
  pub few : AreFew c.offers c.figures
  pub clock : (c.tick ≤ c.clock) × (c.clock ≤ MAX_TICK)
  pub tiers : (i : ℕ) (t : TierStanding) → slice_get c.tiers i ≡ Some t → IsShare c.offers c.tick c.clock t

-- what is offered: one of the four tiers, a tick and a service within their limits
abbrev pub IsOffer : ℕ → ℕ → ℕ → Type 0
IsOffer tier tick service = (tier < 4) × (tick ≤ MAX_TICK) × (1 ≤ service) × (service ≤ MAX_SERVICE)

-- there is a pool of this number
abbrev pub HasPool : Standing → ℕ → Type 0
HasPool c pool = pool < length (station_of c).pools

-- the controller takes an offer at this tick: time has not passed beyond it, and there were fewer than the limit
abbrev pub TakesOfferAt : Standing → ℕ → Type 0
TakesOfferAt c tick = (c.clock ≤ tick) × (c.offers < MAX_OFFERS)
