-- What a controller keeps of the offers so far.
use Rattle.std.specs.Prelude.{◌≡◌, ℕ, ◌+◌, ◌*◌, ◌/◌, ◌≤◌, List, [], ◌∷◌, ◌++◌, length, count_by, Some, slice_get}
use Rattle.std.specs.Prelude.{map, max, take}
use Rattle.std.specs.List.{range_with_len}
use Rattle.token_bucket.specs.Reference.{TOKEN, accrual}
use Rattle.token_bucket.specs.Calls.{Past}
use Rattle.admission.specs.declared.policy.PolicyNumbers.{PolicyNumbers}
use Rattle.admission.specs.Reference.{Offer, Decided, Served, of_tier, is_admitted, is_rejected, served, completion}
use Rattle.admission.specs.Reference.{sample, samples, by_completion, control_at, rate_after, rate_at, credit, decided}
use Rattle.admission.specs.Reference.{tick_from, Station, rules_of, servers_of, of_pool, free_at, controls_until}
use Rattle.admission.specs.Reference.{start, figures_of}
use Rattle.admission.specs.Servers.{free_ticks}
use Rattle.admission.specs.Standing.{window_of, Due, TierStanding, PoolStanding, Standing, station_of, first_free}
use Rattle.admission.specs.declared.control.PoolFigures.{PoolFigures}
use Rattle.admission.specs.declared.control.Outlook.{Outlook}
use Rattle.admission.specs.declared.control.Control.{Control}
use Rattle.token_bucket.specs.After as calls
use Rattle.token_bucket.specs.Standing as bucket

-- all of the requests were offered up to this tick, and no balance of theirs goes below zero
unfoldable pub AllCovered : (ℕ → ℕ) → ℕ → ℕ → List Decided → Type 0
AllCovered rate full tick [] = Unit {0}
AllCovered rate full tick (request ∷ requests) =
    (request.offer.tick ≤ tick)
    × (TOKEN * count_by (λ r. is_admitted r.decision)
    (request ∷ requests) ≤ full + accrual rate request.offer.tick tick)
    × AllCovered rate full tick requests

-- none of these is after this tick
unfoldable pub AllUpTo : ℕ → List ℕ → Type 0
AllUpTo tick [] = Unit {0}
AllUpTo tick (x ∷ xs) = (x ≤ tick) × AllUpTo tick xs

-- when a response is complete, and how long it took then
abbrev pub due : Served → Due
due request = record { completion = completion request; sample = sample request }

-- the bucket of a tier stands as these requests of the tier left it: its credit is that of a request which comes now
pub record BucketFits (rules : PolicyNumbers) (past : List Decided) (b : bucket.Standing) : Type 0 where
  pub past_calls : Past
  pub fits : calls.BucketAfter past_calls b
  pub depth : b.depth ≡ rules.depth
  pub credit : b.credit ≡ credit rules past b.tick
  pub covered : AllCovered (rate_at rules (served past)) (rules.depth * TOKEN) b.tick past

-- of the requests in the order of their completions the first are complete when the tier's clock has come so far, and
-- made these samples and controls and this rate; those that controls were made of are when the bucket's clock has; the
-- others are on their way
pub record AreTakenIn (requests first rest : List Served) (t : TierStanding) : Type 0 where
  pub order : by_completion requests ≡ first ++ rest
  pub past : AllUpTo t.clock (map completion first)
  pub controlled : AllUpTo t.bucket.tick (take (length first / t.rules.every * t.rules.every) (map completion first))
  pub completed : t.completed ≡ length first
  pub window : t.window ≡ window_of t.rules.window (samples first)
  pub controls : t.controls ≡ map (control_at t.rules first) (range_with_len 1 (length first / t.rules.every))
  pub rate : t.bucket.rate ≡ rate_after t.rules (samples first) (length first / t.rules.every)
  pub responses : t.flight.responses ≡ map due rest

-- a tier that stands as these requests of the tier left it, of which the first in the order of their completions were
-- taken in
pub record TierFits (past : List Decided) (t : TierStanding) : Type 0 where
  pub first : List Served
  pub rest : List Served
  pub taken : AreTakenIn (served past) first rest t
  pub bucket : BucketFits t.rules past t.bucket
  pub admitted : t.flight.admitted ≡ length (served past)
  pub rejected : t.rejected ≡ count_by (λ r. is_rejected r.decision) past

-- numbers that don't fall, from lo up to hi
unfoldable pub RisesTo : ℕ → ℕ → List ℕ → Type 0
RisesTo lo hi [] = lo ≤ hi
RisesTo lo hi (x ∷ xs) = (lo ≤ x) × RisesTo x hi xs

-- the servers of a pool are free as these requests of the pool left them
abbrev pub ServersFit : List Served → PoolStanding → Type 0
ServersFit past p = p.free ≡ free_ticks (length p.free) past

-- the figures of a pool are those of these requests of the pool, up to this tick: of their starts the first are past,
-- the others are kept, and rise
pub record FiguresFit (past : List Served) (tick : ℕ) (p : PoolStanding) (f : PoolFigures) : Type 0 where
  pub are : f ≡ figures_of past
  pub begun : List ℕ
  pub starts : map start past ≡ begun ++ p.starts
  pub behind : AllUpTo tick begun
  pub rising : RisesTo 0 (max tick (first_free p.free)) p.starts

-- a controller that stands so after these offers: each tier by its own requests, each pool by its own of all tiers, and
-- so its figures where it has some
pub record ControllerAfter (offers : List Offer) (c : Standing) : Type 0 where
  pub offered : c.offers ≡ length offers
  pub tick : c.tick ≡ tick_from 0 offers
  pub pools : (i : ℕ) (p : PoolStanding) → slice_get c.pools i ≡ Some p
      → ServersFit (of_pool i (served (decided (station_of c) offers))) p
  pub figures : (i : ℕ) (p : PoolStanding) (f : PoolFigures) → slice_get c.pools i ≡ Some p
      → slice_get c.figures i ≡ Some f
      → FiguresFit (of_pool i (served (decided (station_of c) offers))) c.tick p f
  pub tiers : (i : ℕ) (t : TierStanding) → slice_get c.tiers i ≡ Some t
      → TierFits (of_tier i (decided (station_of c) offers)) t

-- a controller that stands for the same offers as before
pub record StandsAsBefore (old new : Standing) : Type 0 where
  pub fits : (offers : List Offer) → ControllerAfter offers old → ControllerAfter offers new
  pub offers : new.offers ≡ old.offers
  pub tick : new.tick ≡ old.tick
  pub station : station_of new ≡ station_of old

-- Which offered requests are admitted.

-- what a request of a pool and a tier finds that comes at `tick` after these: its credit and the rate in force, by the
-- rules of its tier over the requests of its tier, and when a server of its pool is free of the pool's requests
abbrev pub outlook : Station → List Decided → ℕ → ℕ → ℕ → Outlook
outlook station past pool tier tick = record {
  credit = credit (rules_of station tier) (of_tier tier past) tick;
  rate = rate_at (rules_of station tier) (served (of_tier tier past)) tick;
  free = free_at (servers_of station pool) (of_pool pool (served past));
}

-- the controls of a tier, up to the tick of the last of these offers
abbrev pub controls_in : Station → List Offer → ℕ → List Control
controls_in station offers tier =
    controls_until (rules_of station tier) (served (of_tier tier (decided station offers))) (tick_from 0 offers)

-- those of each tier
abbrev pub all_controls : Station → List Offer → List (List Control)
all_controls station offers = map (controls_in station offers) (0 ∷ 1 ∷ 2 ∷ 3 ∷ [])
