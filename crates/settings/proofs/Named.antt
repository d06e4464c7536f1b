-- Whether each pool is named by a route.
use Rattle.std.proofs.Common.{◌≡◌, ◌+◌, ◌<◌, ℕ, suc, List, length, drop, Err, if◌then◌else◌, ap, arith}
use Rattle.std.proofs.Math.Seq.{drop-cons}
use Rattle.cost_model.specs.Reference.{Route}
use Rattle.settings.specs.declared.keys.Key.TheVariants.{PoolName}
use Rattle.settings.specs.ConfigFaults.{range}
use Rattle.settings.specs.Pools.{each_used, is_used}

-- the pools from a place on begin with the one there
pub from_place : (n k : ℕ) (pools : List ℕ) (routes : List Route) → k < length pools
    → each_used n (drop k pools) routes ≡ (if is_used routes n then each_used (n + 1) (drop (k + 1) pools) routes else Err (range PoolName))
from_place n k pools routes within =
    let same : suc k ≡ k + 1 = omega arith in
    rw (drop-cons pools k 0 within) (ap (λ (m : ℕ). if is_used routes n then each_used (n + 1) (drop m pools) routes else Err (range PoolName)) same)
